-- `encoding::put_slots` meets its contract. The loop's invariant: the first i numbers are written, the others are as they were, and the two words have
-- lost their i lowest digits. Assumes nothing.
use mathlib.Core.Path.{◌≡◌}
use mathlib.Core.List.{◌++◌}
use Prim.Native.Nat.{ℕ}
use lib.ListN.{drop}
use Rattle.mask.specs.Bits.{bit}
use Rattle.ring.specs.Counts.{table}
use Rattle.encoding.proofs.Digits.{number_in, Shifted}
use Rattle.encoding.proofs.codes.put_slots.Given as goal

abbrev pub number : ℕ → ℕ → ℕ → ℕ → ℕ
number f i d j = number_in (bit f j) (bit i j) (bit d j)

abbrev pub invariant-loop-code : goal.invariant-loop-code
invariant-loop-code l =
    (l.codes ≡ table (number l.fn.filling l.fn.flying l.fn.discarding) l.code-index ++ drop l.code-index l.initial.codes)
    × Shifted l.code-index l.initial.low l.low × Shifted l.code-index l.initial.high l.high
