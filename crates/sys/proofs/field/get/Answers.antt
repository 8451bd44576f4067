-- An iteration takes in one byte below what is read.
use Rattle.std.proofs.Common.{◌≡◌, ℕ, suc, ◌+◌, ◌-◌, ◌*◌, ◌≤◌, ◌<◌, ◌^◌, List, length, slice_index_or, refl, arith}
use native.Mathlib.Nat.{pow-le-pow_right, lt_of_lt_of_le}
use lib.Dec.{lit<}
use Rattle.sys.specs.Bytes.{of_le, field}
use Rattle.sys.proofs.Fields.{field-suc, below_suc}
use Rattle.sys.proofs.field.get.Goals as goal

-- before the last byte the value has at most seven bytes
seven : (width i value : ℕ) → width ≤ 8 → 0 < i → value < 256 ^ (width - i) → value < 256 ^ 7
seven width i value h k below =
    let fewer : width - i ≤ 7 = omega arith in
    lt_of_lt_of_le below (pow-le-pow_right (lit< tt) fewer)

-- one byte below what is read
turn : (at width i value b : ℕ) (s : List ℕ) → 0 < i → i ≤ width → at + width ≤ length s
    → value ≡ field (at + i) (width - i) s → value < 256 ^ (width - i) → b ≡ slice_index_or s (at + (i - 1)) 0 → b < 256
    → (256 * value + b ≡ field (at + (i - 1)) (width - (i - 1)) s) × (256 * value + b < 256 ^ (width - (i - 1)))
turn at width i value b s h k room e below eb hb =
    let more : width - (i - 1) ≡ suc (width - i) = omega arith in
    let next : at + i ≡ suc (at + (i - 1)) = omega arith in
    let inside : at + (i - 1) < length s = omega arith in
    rw more (rw (field-suc (at + (i - 1)) (width - i) s inside, ← next, ← e, ← eb) refl, below_suc (width - i) value b below hb)

pub loop-i-init : goal.loop-i-init
unfolding of_le
loop-i-init c =
    let none : c.args.width - c.args.width ≡ 0 = omega arith in
    rw none (record { read = refl; below = lit< tt })

pub overflow_mul-value : goal.overflow_mul-value
overflow_mul-value c = omega (arith, seven c.args.width c.loop-i.i c.loop-i.value (omega arith) (omega arith) c.loop-i.invariant.below)

pub overflow_add-value : goal.overflow_add-value
overflow_add-value c =
    let byte = c.type_inv.s (c.args.at + (c.loop-i.i - 1)) in
    omega (arith, seven c.args.width c.loop-i.i c.loop-i.value (omega arith) (omega arith) c.loop-i.invariant.below)

pub loop-i-preserved : goal.loop-i-preserved
loop-i-preserved c =
    let loop = c.loop-i in
    let more = turn c.args.at c.args.width loop.i loop.value c.from.result c.args.s.now (omega arith) (omega arith) (omega arith)
    loop.invariant.read loop.invariant.below c.from.ensures (omega (arith, c.type_inv.s (c.args.at + (loop.i - 1)))) in
    record { read = more.0; below = more.1 }
