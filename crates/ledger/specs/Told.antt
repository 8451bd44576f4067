-- What every call promises: by value, on a lent record, and by way of one.
use Rattle.std.specs.Prelude.{ℕ, List, ◌≡◌}
use Rattle.stream.specs.declared.Answer.{Answer}
use Rattle.stream.specs.declared.Stream.{Stream}
use Rattle.stream.specs.Numbers.{numbers_of}
use Rattle.ledger.specs.Calls.{Call, made}

-- The call c on the record s: kind, number and values of the answer, the record after it, and what the lent slice is left with ([] where
-- nothing is lent). numbers_of tells all answers apart, so the answer itself is the rule's.
pub record Told (c : Call) (s : Stream) (a : Answer) (after : Stream) (left : List ℕ) : Type 0 where
  pub answer : numbers_of a ≡ numbers_of (made c s).answer
  pub stream : after ≡ (made c s).stream
  pub lent : left ≡ (made c s).lent
