-- Demand 3, for every ring that opening opens and every list of calls: the record keeps step with the ledger (Runs), so its log is the ledger's
-- (Logs) and it is as the sentences about the list say (Holds). Assumes nothing.
use Prim.Native.Nat.{ℕ}
use mathlib.Core.Path.{◌≡◌}
use mathlib.Core.Bool.{true}
use mathlib.Core.List.{List}
use Rattle.layout.specs.declared.Setup.{Setup}
use Rattle.layout.specs.Opening.{admissible}
use Rattle.stream.specs.declared.Answer.{Answer}
use Rattle.opening.specs.Opened.{opened_stream}
use Rattle.opening.specs.Open.{open_outcome}
use Rattle.opening.proofs.Outcome.{done-admissible, admissible-done}
use Rattle.ledger.specs.Calls.{Call}
use Rattle.history.specs.Demand3.{Demand3}
use Rattle.history.proofs.Runs.{opened-in-step, in_step}
use Rattle.history.proofs.Logs.{logs-agree}
use Rattle.history.proofs.Holds.{holds_after}

-- From the record that opening makes of admissible values.
pub demand-3-admissible : (s : Setup) → admissible s ≡ true → (h : List Call) → Demand3 s (opened_stream s) h
demand-3-admissible s ok h =
    let start = opened-in-step s ok in
    record { log = logs-agree s (opened_stream s) start h; after = holds_after s ok h _ (in_step s (opened_stream s) start h) }

-- THE THEOREM: demand 3, wherever opening answers Done, for every list of calls.
pub demand-3 : (s : Setup) (block : List ℕ) → (open_outcome s block).answer ≡ Answer.Done → (h : List Call) → Demand3 s (open_outcome s block).stream h
demand-3 s block done h =
    let opened = done-admissible s block done in
    rw (admissible-done s block opened.0 opened.1) (demand-3-admissible s opened.0 h)
