-- Kind, number and values of each answer. Kinds: 0 refusal, 1 Done, 2 Nothing, 3 Slot, 4 Submit, 5 Completion, 6 Foreign, 7 Yes. The number
-- is the refusal's, else 0. Values stand in the paper's order; only stop's Done has one, and a refusal without a value of its own has 0.
use Rattle.std.specs.Prelude.{ℕ, List, [], ◌∷◌, ℤ, pos}
use Rattle.error.specs.Number.{number_of, value_of}
use Rattle.ring.specs.Slots.{one}
use Rattle.stream.specs.declared.Answer.{Answer}
use Rattle.stream.specs.declared.Completion.{Completion}

pub record Numbers : Type 0 where
  pub kind : ℕ
  pub number : ℕ
  pub values : List ℤ

-- Status, actual bytes, sum of lengths, short bytes, packet errors, discarded (1 or 0).
unfoldable pub figures_of : Completion → List ℤ
figures_of c =
    c.status
    ∷ pos c.actual_bytes
    ∷ pos c.requested_bytes
    ∷ pos c.short_bytes
    ∷ pos c.packet_errors
    ∷ pos (one c.was_discarded)
    ∷ []

unfoldable pub numbers_of : Answer → Numbers
numbers_of (Answer.Refused e) = record { kind = 0; number = number_of e; values = pos (value_of e) ∷ [] }
numbers_of Answer.Done = record { kind = 1; number = 0; values = [] }
numbers_of (Answer.Stopped count) = record { kind = 1; number = 0; values = pos count ∷ [] }
numbers_of Answer.Nothing = record { kind = 2; number = 0; values = [] }
numbers_of (Answer.Slot i) = record { kind = 3; number = 0; values = pos i ∷ [] }
numbers_of (Answer.Submit i) = record { kind = 4; number = 0; values = pos i ∷ [] }
numbers_of (Answer.Completed c) = record { kind = 5; number = 0; values = figures_of c }
numbers_of Answer.Foreign = record { kind = 6; number = 0; values = [] }
numbers_of Answer.Yes = record { kind = 7; number = 0; values = [] }
