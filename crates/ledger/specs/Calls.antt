-- The ten calls: what each is given, its rule, and what it does to a ledger and to a record. The contracts of the calls and demand 3 cite
-- this one table.
use Rattle.std.specs.Prelude.{ℕ, List, [], Result}
use Rattle.layout.specs.declared.Setup.{Setup}
use Rattle.stream.specs.declared.Stream.{Stream}
use Rattle.ledger.specs.Ledger.{Ledger}
use Rattle.ledger.specs.Step.{Next, Rule}
use Rattle.ledger.specs.Record.{Outcome, call}
use Rattle.ledger.specs.Turn as Turn
use Rattle.ledger.specs.Commit as Commit
use Rattle.ledger.specs.Submitted as Submitted
use Rattle.ledger.specs.Reaped as Reaped
use Rattle.ledger.specs.Control as Control

-- One of the ten calls, with its arguments, the kernel's reply and the block or list that is lent to it.
pub data Call : Type 0 where
  turn : (block : List ℕ) → Call
  commit : (bytes : ℕ) (block : List ℕ) → Call
  commit_full : (block : List ℕ) → Call
  commit_packets : (lengths : List ℕ) (block : List ℕ) → Call
  submitted : (reply : Result (Unit {0}) ℕ) (block : List ℕ) → Call
  reaped : (reply : Result ℕ ℕ) (block : List ℕ) → Call
  give_back : Call
  start : Call
  stop : (list : List ℕ) → Call
  finish : Call

-- The call's rule.
unfoldable pub rule : Call → Rule
rule (turn block) = Turn.turn
rule (commit bytes block) = Commit.commit bytes
rule (commit_full block) = Commit.commit_full
rule (commit_packets lengths block) = Commit.commit_packets lengths
rule (submitted reply block) = Submitted.submitted reply
rule (reaped reply block) = Reaped.reaped reply
rule give_back = Control.give_back
rule start = Control.start
rule (stop list) = Control.stop
rule finish = Control.finish

-- What is lent to the call.
unfoldable pub lent_to : Call → List ℕ
lent_to (turn block) = block
lent_to (commit bytes block) = block
lent_to (commit_full block) = block
lent_to (commit_packets lengths block) = block
lent_to (submitted reply block) = block
lent_to (reaped reply block) = block
lent_to give_back = []
lent_to start = []
lent_to (stop list) = list
lent_to finish = []

-- The call on a ledger.
unfoldable pub step_of : Setup → Call → Ledger → Next
step_of s c l = rule c s l (lent_to c)

-- The call on a record.
unfoldable pub made : Call → Stream → Outcome
made c s = call (rule c) s (lent_to c)
