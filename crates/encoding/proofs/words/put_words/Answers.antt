-- `encoding::words::put_words` meets its contract. The loop's invariant: the first i numbers are stored, one store of them all; a number more is one store
-- more behind it. Assumes nothing.
use mathlib.Core.Path.{◌≡◌, ap, ap₂, ◌∙◌}
use mathlib.Core.List.{List}
use Prim.Native.Nat.{ℕ, ◌+◌, ◌*◌, ◌≤◌, ◌<◌}
use native.Mathlib.Nat.{mul-zero, mul-suc}
use native.Mathlib.Numerals.{add-one}
use native.Mathlib.Omega.{arith}
use lib.ListN.{length}
use Rattle.sys.specs.Bytes.{le, store}
use Rattle.ring.specs.Counts.{table}
use Rattle.encoding.specs.Words.{words}
use Rattle.encoding.proofs.Laid.{length-words, room_at, entry, table-of, store-none, store-more}
use Rattle.encoding.proofs.words.put_words.Goals as goal

-- room for the number that is stored next
next-room : (w at i : ℕ) (values bytes : List ℕ) → i < length values → at + length (words w values) ≤ length bytes → at + w * i + w ≤ length bytes
next-room w at i values bytes h room = room_at w at i (length values) bytes h (omega (arith, length-words w values))

pub loop-value-preserved : goal.loop-value-preserved
loop-value-preserved c =
    let put = c.put in
    let w = c.args.width in
    let values = c.args.values.now in
    let i = c.loop-value.value-index in (
      rw (add-one, mul-suc) (omega arith),
      put.ensures
          ∙ ap₂ (λ (p : ℕ) (l : List ℕ). store p (le w (entry values i)) l) c.loop-value.invariant.0 c.loop-value.invariant.1
          ∙ store-more w (entry values) c.args.at i c.args.bytes.now,
    )

pub loop-value-init : goal.loop-value-init
loop-value-init c = (rw mul-zero (omega arith), store-none _ _ _ _)

pub put-requires : goal.put-requires
put-requires c = omega (arith, next-room c.args.width c.args.at c.loop-value.value-index c.args.values.now c.args.bytes.now c.loop-value-test.true c.requires)

pub overflow_add-next : goal.overflow_add-next
overflow_add-next c = omega (arith, next-room c.args.width c.args.at c.loop-value.value-index c.args.values.now c.args.bytes.now c.loop-value-test.true c.requires)

pub returns : goal.returns
returns c =
    let at = c.loop-value in
    let all : at.value-index ≡ length c.args.values.now = omega arith in
    at.invariant.1
    ∙ ap (λ (vs : List ℕ). store c.args.at (words c.args.width vs) c.args.bytes.now)
    (ap (table (entry c.args.values.now)) all ∙ table-of c.args.values.now)
