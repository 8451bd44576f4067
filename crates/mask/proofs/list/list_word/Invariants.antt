-- The loop's invariant says what is left to do: the list with the places of `left` at its end is the list at entry with those of `word`.
-- Each round stores the lowest. The measure is `left`.
use Rattle.std.proofs.Common.{◌≡◌, ◌+◌, ◌≤◌, ◌<◌, ◌^◌, length}
use Rattle.mask.specs.Bits.{bit, places}
use Rattle.mask.specs.Masks.{with_more}
use Rattle.mask.proofs.list.list_word.Given as goal

abbrev pub invariant-loop-left : goal.invariant-loop-left
invariant-loop-left l =
    (l.left < 2 ^ 64) × (l.list.count + length (places l.base 64 (bit l.left)) ≤ 256) ×
    (with_more l.list (places l.base 64 (bit l.left)) ≡ with_more l.initial.list (places l.base 64 (bit l.word)))

abbrev pub decreases-loop-left : goal.decreases-loop-left
decreases-loop-left l = l.left
