-- A slot's state as a number: 0 to 3, as the paper lists them.
use Rattle.std.specs.Prelude.{ℕ, cond, eqb}
use Rattle.ring.specs.declared.SlotState.{SlotState}
use Rattle.ring.specs.declared.SlotState.TheVariants.{Free, Filling, InFlight, Discarding}

unfoldable pub state_number : SlotState → ℕ
state_number Free = 0
state_number Filling = 1
state_number InFlight = 2
state_number Discarding = 3

-- Any number above 3 is read as Discarding.
unfoldable pub state_from : ℕ → SlotState
state_from number = cond (eqb number 0) Free (cond (eqb number 1) Filling (cond (eqb number 2) InFlight Discarding))
