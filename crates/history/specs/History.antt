-- A list of calls, on the ledger and on the record. Histories are held newest first.
use Rattle.std.specs.Prelude.{List, [], ◌∷◌}
use Rattle.layout.specs.declared.Setup.{Setup}
use Rattle.stream.specs.declared.Stream.{Stream}
use Rattle.ledger.specs.Ledger.{Ledger, opened_ledger}
use Rattle.ledger.specs.Calls.{Call, step_of, made}

-- The ledger after a history: it starts as opening says.
unfoldable pub ledger_after : Setup → List Call → Ledger
ledger_after s [] = opened_ledger s.slots
ledger_after s (c ∷ before) = (step_of s c (ledger_after s before)).ledger

-- The record after a history that starts with this one.
unfoldable pub record_after : Stream → List Call → Stream
record_after first [] = first
record_after first (c ∷ before) = (made c (record_after first before)).stream
