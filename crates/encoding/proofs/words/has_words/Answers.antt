-- `encoding::words::has_words` meets its contract. The loop's invariant: the bytes begin with the first i numbers; they begin with one more where it stands
-- in its place, and with no more where it does not. Assumes nothing.
use mathlib.Core.Path.{◌≡◌, refl, sym, ap, ◌∙◌}
use mathlib.Core.List.{List}
use Prim.Native.Nat.{ℕ, ◌+◌, ◌*◌, ◌^◌, ◌≤◌, ◌<◌}
use native.Mathlib.Nat.{mul-zero, mul-suc}
use native.Mathlib.Numerals.{add-one}
use native.Mathlib.Omega.{arith}
use borrow.Author.Rules.{rules}
use lib.ListN.{length, drop}
use Rattle.sys.specs.Bytes.{field}
use Rattle.ring.specs.Counts.{table}
use Rattle.encoding.specs.Words.{words, begins}
use Rattle.encoding.proofs.Laid.{Bytes, length-words, room_at, entry, table-of, begins-none, begins-more, begins-not}
use Rattle.encoding.proofs.words.has_words.Goals as goal

-- room for the number that is compared next
next-room : (w at i : ℕ) (values bytes : List ℕ) → i < length values → at + length (words w values) ≤ length bytes → at + w * i + w ≤ length bytes
next-room w at i values bytes h room = room_at w at i (length values) bytes h (omega (arith, length-words w values))

-- all numbers, as a table
all : (w at : ℕ) (values bytes : List ℕ) (i : ℕ) → i ≡ length values → begins (words w (table (entry values) i)) (drop at bytes) ≡ begins (words w values) (drop at bytes)
all w at values bytes i e = ap (λ (vs : List ℕ). begins (words w vs) (drop at bytes)) (ap (table (entry values)) e ∙ table-of values)

pub loop-value-init : goal.loop-value-init
loop-value-init c = (rw mul-zero (omega arith), begins-none _ _ _)

pub get-requires : goal.get-requires
get-requires c =
    (search rules, omega (arith, next-room c.args.width c.args.at c.loop-value.value-index c.args.values.now c.args.bytes.now c.loop-value-test.true c.requires.width_bound.1))

pub returns-then-get-value : goal.returns-then-get-value
returns-then-get-value c =
    let loop = c.loop-value in
    let args = c.args in
    let room = next-room args.width args.at loop.value-index args.values.now args.bytes.now c.loop-value-test.true c.requires.width_bound.1 in
    let fits : entry args.values.now loop.value-index < 256 ^ args.width = c.requires.by_index loop.value-index (search rules) in
    let below : Bytes args.bytes.now = λ i. search rules in
    let read = c.get.ensures.0 ∙ ap (λ (k : ℕ). field k args.width args.bytes.now) loop.invariant.0 in
    sym
    (sym (all args.width args.at args.values.now args.bytes.now (length args.values.now) refl)
    ∙ begins-not args.width (entry args.values.now) args.at loop.value-index args.bytes.now fits room below
    (length args.values.now) c.loop-value-test.true (λ same. c.if-get-value.true (read ∙ same)))

pub overflow_add-next : goal.overflow_add-next
overflow_add-next c = omega (arith, next-room c.args.width c.args.at c.loop-value.value-index c.args.values.now c.args.bytes.now c.loop-value-test.true c.requires.width_bound.1)

pub loop-value-preserved : goal.loop-value-preserved
loop-value-preserved c =
    let loop = c.loop-value in
    let args = c.args in
    let room = next-room args.width args.at loop.value-index args.values.now args.bytes.now c.loop-value-test.true c.requires.width_bound.1 in
    let fits : entry args.values.now loop.value-index < 256 ^ args.width = c.requires.by_index loop.value-index (search rules) in
    let below : Bytes args.bytes.now = λ i. search rules in
    let read = c.get.ensures.0 ∙ ap (λ (k : ℕ). field k args.width args.bytes.now) loop.invariant.0 in (
      rw (add-one, mul-suc) (omega arith),
      begins-more args.width (entry args.values.now) args.at loop.value-index args.bytes.now fits room below
          loop.invariant.1 (sym read ∙ c.if-get-value.false),
    )

pub returns : goal.returns
returns c =
    let args = c.args in
    sym c.loop-value.invariant.1 ∙ all args.width args.at args.values.now args.bytes.now c.loop-value.value-index (omega arith)
