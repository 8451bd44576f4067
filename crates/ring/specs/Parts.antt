-- What a ring shows, queue and states, the ring with one of its parts changed, and a fresh ring. Other crates know the states by state_of,
-- with_state, with_states and ring_with alone.
use Rattle.std.specs.Prelude.{◌≡◌, ℕ, ◌-◌, List, ◌++◌, length, take, drop, replicate}
use Rattle.ring.specs.declared.SlotState.{SlotState}
use Rattle.ring.specs.declared.SlotState.TheVariants.{Free}
use Rattle.ring.specs.declared.Ring.{Ring}
use Rattle.ring.specs.declared.SlotStates.{SlotStates}
use Rattle.ring.specs.Slots.{is_out}
use Rattle.ring.specs.Counts.{slot_numbers, how_many}
use Rattle.ring.specs.Masks.{state_at, masks_of, changed_at, first_of}

-- The free queue, front first.
unfoldable pub queue_of : Ring → List ℕ
queue_of ring = take ring.free_len ring.free

-- Slot i's state.
unfoldable pub state_of : Ring → ℕ → SlotState
state_of ring i = state_at ring.states i

-- The masks are those of the states that they give: no slot is in two. Only internal functions ask for it.
abbrev pub Tabled : Ring → Type 0
Tabled ring = ring.states ≡ masks_of (state_of ring)

-- The ring with another queue; the places behind it are as they were.
unfoldable pub with_queue : Ring → List ℕ → Ring
with_queue ring queue =
    record {
      states = ring.states;
      free = queue ++ drop (length queue) ring.free;
      free_len = length queue;
      in_flight = ring.in_flight;
    }

-- The ring with other masks.
unfoldable pub with_masks : Ring → SlotStates → Ring
with_masks ring masks =
    record { states = masks; free = ring.free; free_len = ring.free_len; in_flight = ring.in_flight }

-- The ring with another state of slot i.
unfoldable pub with_state : Ring → ℕ → SlotState → Ring
with_state ring i state = with_masks ring (masks_of (changed_at i state (state_of ring)))

-- The ring with the states of the slots below n as f gives them, and no other slot in a mask.
unfoldable pub with_states : ℕ → (ℕ → SlotState) → Ring → Ring
with_states n f ring = with_masks ring (masks_of (first_of n f))

-- The ring with another out count.
unfoldable pub with_out : Ring → ℕ → Ring
with_out ring count =
    record { states = ring.states; free = ring.free; free_len = ring.free_len; in_flight = count }

-- A ring of n slots, all Free, queue 0..n-1, none out; the unused places of the queue are zero.
unfoldable pub free_ring : ℕ → Ring
free_ring n =
    record {
      states = masks_of (λ i. Free);
      free = slot_numbers n ++ replicate (256 - n) 0;
      free_len = n;
      in_flight = 0;
    }

-- A ring of n slots with these states, these places of the queue, of which so many are used, and the true out count.
unfoldable pub ring_with : ℕ → (ℕ → SlotState) → List ℕ → ℕ → Ring
ring_with n state free used =
    record {
      states = masks_of (first_of n state);
      free = free;
      free_len = used;
      in_flight = how_many n (λ i. is_out (state i));
    }
