-- `encoding::put_states` meets its contract. The loop's invariant: the numbers of the first q words' slots are written, the others are as they were.
-- Assumes nothing.
use mathlib.Core.Path.{◌≡◌}
use mathlib.Core.List.{◌++◌}
use Prim.Native.Nat.{ℕ, ◌*◌, min}
use lib.ListN.{drop}
use Rattle.ring.specs.declared.SlotStates.{SlotStates}
use Rattle.ring.specs.Counts.{table}
use Rattle.ring.specs.Masks.{state_at}
use Rattle.encoding.specs.Codes.{state_number}
use Rattle.encoding.proofs.codes.put_states.Given as goal

unfoldable pub number : SlotStates → ℕ → ℕ
number m i = state_number (state_at m i)

abbrev pub invariant-loop-q : goal.invariant-loop-q
invariant-loop-q l =
    l.codes ≡ table (number l.states) (min l.n (l.q * 64)) ++ drop (min l.n (l.q * 64)) l.initial.codes
