-- What demand 3's words mean, by the list of calls and its answers alone. A log is held newest first.
use Rattle.std.specs.Prelude.{ℕ, suc, ◌-◌, ◌/◌, Bool, true, false, cond, not, ◌||◌, ◌&&◌, List, [], ◌∷◌, eqb, length, Ok, Err}
use Rattle.std.proofs.Math.Option.{Option, none, some}
use Rattle.error.specs.Number.{number_of}
use Rattle.layout.specs.declared.Setup.{Setup}
use Rattle.layout.specs.Opening.{masked_of, layout_for}
use Rattle.stream.specs.declared.Answer.{Answer}
use Rattle.ledger.specs.Calls.{Call, turn, commit, commit_full, commit_packets, submitted, reaped, give_back, start, stop, finish, step_of}
use Rattle.history.specs.History.{ledger_after}

-- A call and its answer.
pub record Entry : Type 0 where
  pub call : Call
  pub answer : Answer

-- The log of a history, with the ledger's answers.
unfoldable pub log_of : Setup → List Call → List Entry
log_of s [] = []
log_of s (c ∷ before) =
    record { call = c; answer = (step_of s c (ledger_after s before)).answer } ∷ log_of s before

-- What an answer says. refusal: its number, or 0; submit: the slot in a Submit; named: the slot in a Slot or Submit; done: Done
-- without a number; stopped: stop's Done, with how many; completion: Completion.
pub record Said : Type 0 where
  pub refusal : ℕ
  pub submit : Option ℕ
  pub named : Option ℕ
  pub done : Bool
  pub stopped : Bool
  pub completion : Bool

abbrev pub nothing_said : Said
nothing_said = record { refusal = 0; submit = none; named = none; done = false; stopped = false; completion = false }

unfoldable pub said : Answer → Said
said (Answer.Refused e) =
    record { refusal = number_of e; submit = none; named = none; done = false; stopped = false; completion = false }
said Answer.Done = record { refusal = 0; submit = none; named = none; done = true; stopped = false; completion = false }
said (Answer.Stopped k) = record { refusal = 0; submit = none; named = none; done = false; stopped = true; completion = false }
said Answer.Nothing = nothing_said
said (Answer.Slot i) = record { refusal = 0; submit = none; named = some i; done = false; stopped = false; completion = false }
said (Answer.Submit i) = record { refusal = 0; submit = some i; named = some i; done = false; stopped = false; completion = false }
said (Answer.Completed c) = record { refusal = 0; submit = none; named = none; done = false; stopped = false; completion = true }
said Answer.Foreign = nothing_said
said Answer.Yes = nothing_said

-- What a call asks: whether it is submitted with Accepted, submitted with an errno, give_back; the address of a reaped.
pub record Asked : Type 0 where
  pub accepted : Bool
  pub errno : Bool
  pub gives_back : Bool
  pub address : Option ℕ

abbrev pub nothing_asked : Asked
nothing_asked = record { accepted = false; errno = false; gives_back = false; address = none }

unfoldable pub asked : Call → Asked
asked (turn block) = nothing_asked
asked (commit bytes block) = nothing_asked
asked (commit_full block) = nothing_asked
asked (commit_packets lengths block) = nothing_asked
asked (submitted (Ok tt) block) = record { accepted = true; errno = false; gives_back = false; address = none }
asked (submitted (Err e) block) = record { accepted = false; errno = true; gives_back = false; address = none }
asked (reaped (Err e) block) = nothing_asked
asked (reaped (Ok a) block) = record { accepted = false; errno = false; gives_back = false; address = some a }
asked give_back = record { accepted = false; errno = false; gives_back = true; address = none }
asked start = nothing_asked
asked (stop list) = nothing_asked
asked finish = nothing_asked

-- The first of two that is some slot.
unfoldable pub or_else : Option ℕ → Option ℕ → Option ℕ
or_else none b = b
or_else (some i) b = some i

-- The slot, where the test holds.
unfoldable pub given : Bool → Option ℕ → Option ℕ
given true i = i
given false i = none

-- The slot is i.
unfoldable pub is_slot : Option ℕ → ℕ → Bool
is_slot none i = false
is_slot (some j) i = eqb j i

-- The slot in the last Submit, and in the last Slot or Submit.
unfoldable pub last_submit : List Entry → Option ℕ
last_submit [] = none
last_submit (e ∷ before) = or_else (said e.answer).submit (last_submit before)

unfoldable pub last_named : List Entry → Option ℕ
last_named [] = none
last_named (e ∷ before) = or_else (said e.answer).named (last_named before)

-- The answer gives 6 or 9.
unfoldable pub six_or_nine : Answer → Bool
six_or_nine a = eqb (said a).refusal 6 || eqb (said a).refusal 9

-- An acceptance is taken by submitted with Accepted unless it gives 6 or 9; it is of the slot in the last Submit before that call.
unfoldable pub acceptance : Entry → List Entry → Option ℕ
acceptance e before = given ((asked e.call).accepted && not (six_or_nine e.answer)) (last_submit before)

-- The slot at an address.
unfoldable pub slot_at_address : Setup → ℕ → ℕ
slot_at_address s address = (masked_of s.tagged address - masked_of s.tagged s.base) / (layout_for s).slot_stride

unfoldable pub slot_addressed : Setup → Option ℕ → Option ℕ
slot_addressed s none = none
slot_addressed s (some address) = some (slot_at_address s address)

-- A notice is taken by reaped with an address that gives Completion or 13; it names the slot at that address.
unfoldable pub notice : Setup → Entry → Option ℕ
notice s e =
    given ((said e.answer).completion || eqb (said e.answer).refusal 13) (slot_addressed s (asked e.call).address)

-- The hand's slot is returned by 10, 11, 12, give_back's Done, or submitted with an errno unless that gives 6 or 9.
unfoldable pub from_hand : Entry → Bool
from_hand e =
    eqb (said e.answer).refusal 10 || eqb (said e.answer).refusal 11 || eqb (said e.answer).refusal 12
    || ((asked e.call).gives_back && (said e.answer).done)
    || ((asked e.call).errno && not (six_or_nine e.answer))

-- A slot is returned by a notice taken that names it, and from the hand, where it is the slot of the last Slot or Submit.
unfoldable pub return : Setup → Entry → List Entry → Option ℕ
return s e before = or_else (notice s e) (given (from_hand e) (last_named before))

-- Slot i is out: an acceptance of it was taken, and no notice naming it since.
unfoldable pub is_out : Setup → ℕ → List Entry → Bool
is_out s i [] = false
is_out s i (e ∷ before) =
    cond (is_slot (acceptance e before) i) true (cond (is_slot (notice s e) i) false (is_out s i before))

-- Slot i is in hand: since the last Slot or Submit naming it, it was neither accepted nor returned.
unfoldable pub in_hand : Setup → ℕ → List Entry → Bool
in_hand s i [] = false
in_hand s i (e ∷ before) =
    cond (is_slot (said e.answer).named i) true
    (cond (is_slot (acceptance e before) i || is_slot (return s e before) i) false (in_hand s i before))

-- Slot i never left the queue: no Slot or Submit named it.
unfoldable pub never_left : ℕ → List Entry → Bool
never_left i [] = true
never_left i (e ∷ before) = not (is_slot (said e.answer).named i) && never_left i before

-- A notice of slot i now would be after a discard: a stop gave Done since the slot's last acceptance.
unfoldable pub after_discard : ℕ → List Entry → Bool
after_discard i [] = false
after_discard i (e ∷ before) =
    cond (said e.answer).stopped true (cond (is_slot (acceptance e before) i) false (after_discard i before))

-- When slot i was last returned: the number of that call in the list, from 1, or 0.
unfoldable pub last_return : Setup → ℕ → List Entry → ℕ
last_return s i [] = 0
last_return s i (e ∷ before) = cond (is_slot (return s e before) i) (suc (length before)) (last_return s i before)
