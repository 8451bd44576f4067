-- A host whose calls keep their promise: by value, on a lent record, or by way of one.
use Rattle.std.specs.Prelude.{ℕ, List, [], ◌∷◌}
use Rattle.stream.specs.declared.Answer.{Answer}
use Rattle.stream.specs.declared.Stream.{Stream}
use Rattle.ledger.specs.Calls.{Call}
use Rattle.ledger.specs.Told.{Told}

-- The host has the record r after a list of calls from the record `first` on: each call got the record that the last one left, and kept
-- Told.
pub data Reached (first : Stream) : List Call → Stream → Type 0 where
  none : Reached first [] first
  next :
      {before : List Call} {was r : Stream} {c : Call} {a : Answer} {left : List ℕ} →
      Reached first before was → Told c was a r left → Reached first (c ∷ before) r
