-- The moves of a slot: from the queue into the hand, to the kernel, and back.
use Rattle.std.specs.Prelude.{ℕ, ◌+◌, ◌-◌, List, [], ◌∷◌, ◌++◌, Some, None}
use Rattle.ring.specs.declared.SlotState.TheVariants.{Free, Filling, InFlight}
use Rattle.ring.specs.declared.Ring.{Ring}
use Rattle.ring.specs.declared.Taken.{Taken}
use Rattle.ring.specs.Masks.{masks_of, stopped}
use Rattle.ring.specs.Parts.{queue_of, state_of, with_queue, with_masks, with_state, with_out}

-- From an empty queue nothing is taken; else the front slot leaves it and is Filling.
unfoldable pub taken_from : Ring → List ℕ → Taken
taken_from ring [] = record { ring = ring; slot = None }
taken_from ring (slot ∷ rest) = record { ring = with_state (with_queue ring rest) slot Filling; slot = Some slot }

-- The front slot taken.
unfoldable pub taken : Ring → Taken
taken ring = taken_from ring (queue_of ring)

-- Slot i returned: at the queue's end, as Free.
unfoldable pub returned : Ring → ℕ → Ring
returned ring i = with_state (with_queue ring (queue_of ring ++ (i ∷ []))) i Free

-- Slot i accepted by the kernel: InFlight, and one more is out.
unfoldable pub marked_in_flight : Ring → ℕ → Ring
marked_in_flight ring i = with_state (with_out ring (ring.in_flight + 1)) i InFlight

-- Each InFlight slot discarded: Discarding, and still out, so the out count stays.
unfoldable pub discarded : Ring → Ring
discarded ring = with_masks ring (masks_of (λ i. stopped (state_of ring i)))

-- Slot i, out, given back by the kernel: returned, and one less is out.
unfoldable pub completed : Ring → ℕ → Ring
completed ring i = returned (with_out ring (ring.in_flight - 1)) i
