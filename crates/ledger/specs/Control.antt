-- give_back (Held); start, stop, finish (Idle).
use Rattle.std.specs.Prelude.{ℕ, suc, Bool, true, false, cond, List, [], ◌∷◌, ◌++◌, ltb, eqb, length, drop}
use Rattle.error.specs.declared.Error.{Error}
use Rattle.stream.specs.declared.Answer.{Answer}
use Rattle.ledger.specs.Ledger.{Ledger, Mark, home, out, discarded, with_flags, with_marks, outs}
use Rattle.ledger.specs.Step.{Rule, refused, when_idle, when_held, put_back}

-- Returned, Idle, Done.
unfoldable pub give_back_held : ℕ → Rule
give_back_held i s l lent = put_back i Answer.Done l lent

unfoldable pub give_back : Rule
give_back = when_held give_back_held

-- If not started: started, armed off; else no effect.
unfoldable pub started_ledger : Bool → Ledger → Ledger
started_ledger true l = l
started_ledger false l = with_flags true false l

-- Done either way.
unfoldable pub start_idle : Rule
start_idle s l lent = record { ledger = started_ledger l.started l; answer = Answer.Done; lent = lent }

unfoldable pub start : Rule
start = when_idle start_idle

-- Each InFlight slot becomes Discarding.
unfoldable pub discard_all : List Mark → List Mark
discard_all [] = []
discard_all (home ∷ rest) = home ∷ discard_all rest
discard_all (out ∷ rest) = discarded ∷ discard_all rest
discard_all (discarded ∷ rest) = discarded ∷ discard_all rest

-- The numbers of the InFlight slots, ascending, the first mark being slot i's.
unfoldable pub in_flight_from : ℕ → List Mark → List ℕ
in_flight_from i [] = []
in_flight_from i (home ∷ rest) = in_flight_from (suc i) rest
in_flight_from i (out ∷ rest) = i ∷ in_flight_from (suc i) rest
in_flight_from i (discarded ∷ rest) = in_flight_from (suc i) rest

-- Refused 20, nothing differing, if the list is too short; else both flags off, their numbers into the list, its rest
-- unchanged, and Done with how many.
unfoldable pub stop_idle : Rule
stop_idle s l list =
    let slots = in_flight_from 0 l.marks in
    cond (ltb (length list) (length slots)) (refused Error.ListTooShort l list)
    (record {
      ledger = with_flags false false (with_marks (discard_all l.marks) l);
      answer = Answer.Stopped (length slots);
      lent = slots ++ drop (length slots) list;
    })

unfoldable pub stop : Rule
stop = when_idle stop_idle

-- Yes exactly when none is out, else 13; nothing differs.
unfoldable pub finish_idle : Rule
finish_idle s l lent =
    record { ledger = l; answer = cond (eqb (outs l.marks) 0) Answer.Yes (Answer.Refused Error.Disconnected); lent = lent }

unfoldable pub finish : Rule
finish = when_idle finish_idle
