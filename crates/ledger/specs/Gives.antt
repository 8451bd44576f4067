-- What a part of a call gives behind the first tests, where the record is sound. Only internal functions promise this.
use Rattle.std.specs.Prelude.{◌≡◌, List, ℕ}
use Rattle.stream.specs.declared.Reply.{Reply}
use Rattle.stream.specs.declared.Stream.{Stream}
use Rattle.ledger.specs.Step.{Next}
use Rattle.ledger.specs.Record.{stored}

-- The rule's answer, the record that shows its ledger, and in the block what it leaves there.
pub record Gives (s : Stream) (next : Next) (r : Reply) (left : List ℕ) : Type 0 where
  pub answer : r.answer ≡ next.answer
  pub stream : r.stream ≡ stored s next.ledger
  pub block : left ≡ next.lent
