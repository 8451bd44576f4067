-- A state's number is a byte, and the state is read back from it; a slot that there is no number of is read as Free. By cases.
-- Assumes nothing.
use Prim.Native.Nat.{ℕ, ◌≤◌, ◌<◌}
use native.Mathlib.Omega.{arith}
use mathlib.Core.Path.{◌≡◌, refl}
use mathlib.Core.List.{List}
use lib.ListN.{length, get_or, get_or-eq_default}
use Rattle.ring.specs.declared.SlotState.{SlotState}
use Rattle.ring.specs.declared.SlotState.TheVariants.{Free, Filling, InFlight, Discarding}
use Rattle.encoding.specs.Codes.{state_number, state_from}

pub state-small : (x : SlotState) → state_number x < 256
unfolding state_number
state-small Free = omega arith
state-small Filling = omega arith
state-small InFlight = omega arith
state-small Discarding = omega arith

pub state-back : (x : SlotState) → state_from (state_number x) ≡ x
unfolding state_from state_number
state-back Free = refl
state-back Filling = refl
state-back InFlight = refl
state-back Discarding = refl

-- the state that is read of slot i
abbrev pub state_read : List ℕ → ℕ → SlotState
state_read codes i = state_from (get_or codes i 0)

pub read_past : (codes : List ℕ) (i : ℕ) → length codes ≤ i → state_read codes i ≡ Free
unfolding state_from
read_past codes i h = rw (get_or-eq_default codes 0 {n = i} h)
