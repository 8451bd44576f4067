-- `encoding::read_slots` meets its contract. The loop's invariant: the two words have the digits of the slots from `at` to the end, and those of them that
-- are out are counted. Assumes nothing.
use mathlib.Core.Path.{◌≡◌}
use mathlib.Core.List.{List}
use Prim.Native.Nat.{ℕ, ◌+◌, ◌≤◌, ◌<◌}
use mathlib.Core.Bool.{Bool}
use Rattle.ring.specs.Counts.{how_many}
use Rattle.ring.specs.Slots.{is_out}
use Rattle.encoding.proofs.StateNumbers.{state_read}
use Rattle.encoding.proofs.Digits.{is_odd, digits_from}
use Rattle.encoding.proofs.codes.read_slots.Given as goal

abbrev pub out_at : List ℕ → ℕ → Bool
out_at codes i = is_out (state_read codes i)

abbrev pub odd-at : List ℕ → ℕ → Bool
odd-at codes i = is_odd (state_read codes i)

abbrev pub invariant-loop-at : goal.invariant-loop-at
invariant-loop-at l =
    (l.at < l.initial.at → l.from ≤ l.at)
    × (l.low ≡ digits_from (odd-at l.codes) l.at l.initial.at) × (l.high ≡ digits_from (out_at l.codes) l.at l.initial.at)
    × (how_many l.at (out_at l.codes) + l.out ≡ how_many l.initial.at (out_at l.codes))
