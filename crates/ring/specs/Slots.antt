-- What a slot's state and the hand say of one slot.
use Rattle.std.specs.Prelude.{ℕ, Bool, true, false, ◌&&◌, ◌==◌, nat_le, nat_lt}
use Rattle.ring.specs.declared.SlotState.{SlotState}
use Rattle.ring.specs.declared.SlotState.TheVariants.{Free, Filling, InFlight, Discarding}
use Rattle.ring.specs.declared.Hand.{Hand}
use Rattle.ring.specs.declared.Hand.TheVariants.{Idle, Held, Sending, Silent}

-- Free is the state of a slot in the queue.
unfoldable pub is_free : SlotState → Bool
is_free Free = true
is_free Filling = false
is_free InFlight = false
is_free Discarding = false

-- Filling is the state of the slot in hand.
unfoldable pub is_filling : SlotState → Bool
is_filling Free = false
is_filling Filling = true
is_filling InFlight = false
is_filling Discarding = false

unfoldable pub is_in_flight : SlotState → Bool
is_in_flight Free = false
is_in_flight Filling = false
is_in_flight InFlight = true
is_in_flight Discarding = false

unfoldable pub is_discarding : SlotState → Bool
is_discarding Free = false
is_discarding Filling = false
is_discarding InFlight = false
is_discarding Discarding = true

-- InFlight and Discarding are out.
unfoldable pub is_out : SlotState → Bool
is_out Free = false
is_out Filling = false
is_out InFlight = true
is_out Discarding = true

-- 1 for yes, 0 for no.
unfoldable pub one : Bool → ℕ
one true = 1
one false = 0

-- Slot i is the hand's.
unfoldable pub holds : Hand → ℕ → Bool
holds Idle i = false
holds (Held slot) i = slot == i
holds (Sending slot) i = slot == i
holds (Silent slot left) i = slot == i

-- The hand's slot is one of n, and left is 0 or 1.
unfoldable pub hand_within : ℕ → Hand → Bool
hand_within n Idle = true
hand_within n (Held slot) = nat_lt slot n
hand_within n (Sending slot) = nat_lt slot n
hand_within n (Silent slot left) = nat_lt slot n && nat_le left 1
