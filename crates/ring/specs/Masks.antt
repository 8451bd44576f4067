-- The states of 256 slots as three masks, and the table of states that they stand for (request 2026-11).
use Rattle.std.specs.Prelude.{ℕ, ◌+◌, cond, List, ◌==◌, nat_lt, slice_index_or}
use Rattle.mask.specs.Masks.{member, mask_of}
use Rattle.ring.specs.declared.SlotState.{SlotState}
use Rattle.ring.specs.declared.SlotState.TheVariants.{Free, Filling, InFlight, Discarding}
use Rattle.ring.specs.declared.SlotStates.{SlotStates}
use Rattle.ring.specs.Slots.{is_filling, is_in_flight, is_discarding, one}
use Rattle.ring.specs.Counts.{table}

-- Slot i's state: that of the mask that has it; Free if none has.
unfoldable pub state_at : SlotStates → ℕ → SlotState
state_at m i =
    cond (member m.filling i) Filling
    (cond (member m.in_flight i) InFlight
    (cond (member m.discarding i) Discarding Free))

-- The masks of given states.
unfoldable pub masks_of : (ℕ → SlotState) → SlotStates
masks_of state =
    record {
      filling = mask_of (λ i. is_filling (state i));
      in_flight = mask_of (λ i. is_in_flight (state i));
      discarding = mask_of (λ i. is_discarding (state i));
    }

-- How many of the three masks have slot i.
unfoldable pub in_masks : SlotStates → ℕ → ℕ
in_masks m i = one (member m.filling i) + one (member m.in_flight i) + one (member m.discarding i)

-- The table form of the masks: a state for each of 256 slots.
unfoldable pub table_of : SlotStates → List SlotState
table_of m = table (state_at m) 256

-- Slot i's entry in a table.
unfoldable pub entry : List SlotState → ℕ → SlotState
entry states i = slice_index_or states i Free

-- These states, but another one of slot i.
unfoldable pub changed_at : ℕ → SlotState → (ℕ → SlotState) → ℕ → SlotState
changed_at i new state j = cond (i == j) new (state j)

-- The states below n; the others Free.
unfoldable pub first_of : ℕ → (ℕ → SlotState) → ℕ → SlotState
first_of n state i = cond (nat_lt i n) (state i) Free

-- The state of a slot once each InFlight one is discarded.
unfoldable pub stopped : SlotState → SlotState
stopped Free = Free
stopped Filling = Filling
stopped InFlight = Discarding
stopped Discarding = Discarding
