-- What is compared after each call of a list: by the record, and by the ledger. Logs are held newest first, as histories are.
use Rattle.std.specs.Prelude.{ℕ, List, [], ◌∷◌}
use Rattle.layout.specs.declared.Setup.{Setup}
use Rattle.stream.specs.declared.Answer.{Answer}
use Rattle.stream.specs.declared.Stream.{Stream}
use Rattle.ledger.specs.Shown.{Shown, shown_by, shown_in}
use Rattle.ledger.specs.Calls.{Call, step_of, made}
use Rattle.history.specs.History.{ledger_after, record_after}

-- A call's line: its answer, what it left in the block or the list that was lent, and what is shown after it.
pub record Line : Type 0 where
  pub answer : Answer
  pub lent : List ℕ
  pub shown : Shown

-- The record's own log, from its first record on: each call is made on the record that the last one left.
unfoldable pub record_log : Stream → List Call → List Line
record_log first [] = []
record_log first (c ∷ before) =
    let outcome = made c (record_after first before) in
    record { answer = outcome.answer; lent = outcome.lent; shown = shown_by outcome.stream } ∷ record_log first before

-- The ledger's log, from opening's values, the calls and what is lent to them alone.
unfoldable pub ledger_log : Setup → List Call → List Line
ledger_log s [] = []
ledger_log s (c ∷ before) =
    let next = step_of s c (ledger_after s before) in
    record { answer = next.answer; lent = next.lent; shown = shown_in s next.ledger } ∷ ledger_log s before
