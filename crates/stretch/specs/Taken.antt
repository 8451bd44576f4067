-- What a host is told of a step: the numbers, and what take_stretch leaves.
use Rattle.std.specs.Prelude.{ℕ, ◌≡◌, List, [], Option, Some, None}
use Rattle.error.specs.Number.{number_of}
use Rattle.error.specs.declared.Error.{Error}
use Rattle.error.specs.declared.Error.TheVariants.{PositionBeyond}
use Rattle.stretch.specs.declared.Positions.{Positions}
use Rattle.stretch.specs.declared.Source.{Source}
use Rattle.stretch.specs.declared.Source.TheVariants.{Programme, Message}
use Rattle.stretch.specs.declared.Stretch.{Stretch}
use Rattle.stretch.specs.Stretch.{part_of}

-- Which buffer, as a number.
abbrev pub source_number : Option Source → ℕ
source_number (Some Programme) = 0
source_number (Some Message) = 1
source_number None = 2

-- The step's number: a step of neither buffer is refused with 34.
abbrev pub refusal_number : Option Source → ℕ
refusal_number (Some Programme) = 0
refusal_number (Some Message) = 0
refusal_number None = number_of PositionBeyond

abbrev pub positions : ℕ → ℕ → Positions
positions p m = record { programme = p; message = m }

-- What take_stretch leaves of a step, an equation each: the stretch itself and the next positions, and that it is not refused.
pub record Taken (p m : List ℕ) (s : Stretch) (given : List ℕ) (at : Positions) : Type 0 where
  pub part : given ≡ part_of p m s
  pub next : at ≡ s.next
  pub number : refusal_number s.source ≡ 0

-- And of one that is: 34, with an empty part and the positions as they were.
pub record Refused (p m : List ℕ) (s : Stretch) (e : Error) (before at : Positions) : Type 0 where
  pub error : e ≡ PositionBeyond
  pub number : refusal_number s.source ≡ number_of e
  pub part : part_of p m s ≡ []
  pub next : at ≡ s.next
  pub unmoved : at ≡ before
