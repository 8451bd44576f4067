-- A list of steps, each from the positions that the last one gave, on unchanged buffers.
use Rattle.std.specs.Prelude.{ℕ, ◌-◌, ◌≤◌, ◌≡◌, Bool, List, [], ◌∷◌, ◌++◌, take, drop, Option, Some, None}
use Rattle.stretch.specs.declared.Positions.{Positions}
use Rattle.stretch.specs.declared.Source.{Source}
use Rattle.stretch.specs.declared.Source.TheVariants.{Programme, Message}
use Rattle.stretch.specs.declared.Stretch.{Stretch}
use Rattle.stretch.specs.Stretch.{next_stretch, part_of}

-- What a step is asked: the message flag and the capacity.
pub record Ask : Type 0 where
  pub flag : Bool
  pub capacity : ℕ

-- The steps, one for each ask.
unfoldable pub steps : List ℕ → List ℕ → Positions → List Ask → List Stretch
steps p m at [] = []
steps p m at (a ∷ asks) =
    let s : Stretch = next_stretch p m a.flag a.capacity at in
    s ∷ steps p m s.next asks

-- The positions that the last step gave.
unfoldable pub last : Positions → List Stretch → Positions
last at [] = at
last at (s ∷ rest) = last s.next rest

-- A stretch that is of the programme; of the message. A refused step is of neither.
abbrev pub of_programme : Option Source → List ℕ → List ℕ
of_programme (Some Programme) part = part
of_programme (Some Message) part = []
of_programme None part = []

abbrev pub of_message : Option Source → List ℕ → List ℕ
of_message (Some Programme) part = []
of_message (Some Message) part = part
of_message None part = []

-- The stretches of one buffer, joined.
unfoldable pub joined : (Option Source → List ℕ → List ℕ) → List ℕ → List ℕ → List Stretch → List ℕ
joined of_buffer p m [] = []
joined of_buffer p m (s ∷ rest) = of_buffer s.source (part_of p m s) ++ joined of_buffer p m rest

-- The part of a buffer that has been passed from one position to another.
abbrev pub passed : ℕ → ℕ → List ℕ → List ℕ
passed from to buffer = take (to - from) (drop from buffer)

-- Positions never go back, and the stretches of each buffer join to the part of it that has been passed.
pub record Joins (p m : List ℕ) (from to : Positions) (ss : List Stretch) : Type 0 where
  pub programme-on : from.programme ≤ to.programme
  pub message-on : from.message ≤ to.message
  pub programme : joined of_programme p m ss ≡ passed from.programme to.programme p
  pub message : joined of_message p m ss ≡ passed from.message to.message m
