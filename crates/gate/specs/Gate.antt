-- The first tests of every call: 8, then 6 for a block of the wrong length, then 9 for a wrong hand. Only internal functions promise these;
-- the calls promise their rules.
use Rattle.std.specs.Prelude.{ℕ, Bool, cond, eqb, Result, Ok, Err, Option, Some, None}
use Rattle.error.specs.declared.Error.{Error}
use Rattle.layout.specs.declared.Setup.{Setup}
use Rattle.layout.specs.Opening.{total_of}
use Rattle.ring.specs.declared.Hand.{Hand}
use Rattle.stream.specs.declared.Stream.{Stream}
use Rattle.stream.specs.Sound.{sound}

-- Past a refusal nothing is tested.
unfoldable pub and_then : Result (Unit {0}) Error → Result (Unit {0}) Error → Result (Unit {0}) Error
and_then (Ok tt) next = next
and_then (Err e) next = Err e

-- 8, by whether the record is sound.
unfoldable pub sound_gate : Bool → Result (Unit {0}) Error
sound_gate ok = cond ok (Ok tt) (Err Error.Unsound)

-- 6 for a block of the wrong length.
unfoldable pub length_gate : Setup → Option ℕ → Result (Unit {0}) Error
length_gate s (Some len) = cond (eqb len (total_of s)) (Ok tt) (Err Error.BlockLength)
length_gate s None = Ok tt

-- 8, then 6.
unfoldable pub block_test : Bool → Setup → Option ℕ → Result (Unit {0}) Error
block_test ok s lent = and_then (sound_gate ok) (length_gate s lent)

unfoldable pub block_gate : Stream → Option ℕ → Result (Unit {0}) Error
block_gate s lent = block_test (sound s) s.setup lent

-- 9 for a hand that isn't Idle.
unfoldable pub idle_hand : Hand → Result (Unit {0}) Error
idle_hand Hand.Idle = Ok tt
idle_hand (Hand.Held i) = Err Error.WrongHand
idle_hand (Hand.Sending i) = Err Error.WrongHand
idle_hand (Hand.Silent i left) = Err Error.WrongHand

-- 8, 6, 9.
unfoldable pub idle_test : Bool → Setup → Hand → Option ℕ → Result (Unit {0}) Error
idle_test ok s hand lent = and_then (block_test ok s lent) (idle_hand hand)

unfoldable pub idle_gate : Stream → Option ℕ → Result (Unit {0}) Error
idle_gate s lent = idle_test (sound s) s.setup s.hand lent

-- 9 for a hand that isn't Held, or its slot.
unfoldable pub held_hand : Hand → Result ℕ Error
held_hand Hand.Idle = Err Error.WrongHand
held_hand (Hand.Held i) = Ok i
held_hand (Hand.Sending i) = Err Error.WrongHand
held_hand (Hand.Silent i left) = Err Error.WrongHand

unfoldable pub then_held : Result (Unit {0}) Error → Hand → Result ℕ Error
then_held (Ok tt) hand = held_hand hand
then_held (Err e) hand = Err e

unfoldable pub held_test : Bool → Setup → Hand → Option ℕ → Result ℕ Error
held_test ok s hand lent = then_held (block_test ok s lent) hand

unfoldable pub held_gate : Stream → Option ℕ → Result ℕ Error
held_gate s lent = held_test (sound s) s.setup s.hand lent
