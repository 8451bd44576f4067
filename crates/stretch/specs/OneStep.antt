-- What request 2026-06 says of one step, and of positions that are not beyond their buffers' ends.
use Rattle.std.specs.Prelude.{ℕ, ◌≤◌, ◌<◌, ◌≡◌, Bool, true, false, List, [], length, Some}
use Rattle.stretch.specs.declared.Positions.{Positions}
use Rattle.stretch.specs.declared.Source.TheVariants.{Programme, Message}
use Rattle.stretch.specs.declared.Stretch.{Stretch}
use Rattle.stretch.specs.Stretch.{next_stretch, part_of}
use Rattle.stretch.specs.Taken.{refusal_number}

-- Neither position is beyond its buffer's end.
pub record Within (p m : List ℕ) (at : Positions) : Type 0 where
  pub programme : at.programme ≤ length p
  pub message : at.message ≤ length m

-- An empty part, and nothing moved.
pub record Unmoved (p m : List ℕ) (at : Positions) (s : Stretch) : Type 0 where
  pub part : part_of p m s ≡ []
  pub next : s.next ≡ at

module _ (p m : List ℕ) (flag : Bool) (capacity : ℕ) (at : Positions) where
  abbrev step : Stretch
  step = next_stretch p m flag capacity at

  pub record OneStep : Type 0 where
    -- 34: a position beyond its buffer's end: empty part, nothing moved.
    pub programme-beyond : length p < at.programme → refusal_number step.source ≡ 34
    pub message-beyond : length m < at.message → refusal_number step.source ≡ 34
    pub refused : refusal_number step.source ≡ 34 → Unmoved p m at step
    -- Else no refusal, and so from the next positions on.
    pub within : Within p m at → refusal_number step.source ≡ 0
    pub stays_within : Within p m at → Within p m step.next
    -- When the message flag is set and the message isn't used up, the stretch comes from the message, else from the programme.
    pub from-message : Within p m at → flag ≡ true → at.message < length m → step.source ≡ Some Message
    pub from-programme : Within p m at → flag ≡ false → step.source ≡ Some Programme
    pub used-up : Within p m at → at.message ≡ length m → step.source ≡ Some Programme
    -- Programme used up: an empty part. Capacity 0: the same.
    pub programme-used-up : Within p m at → step.source ≡ Some Programme → at.programme ≡ length p → Unmoved p m at step
    pub no-capacity : capacity ≡ 0 → Unmoved p m at step
    -- The part has as many bytes as the step says.
    pub long : length (part_of p m step) ≡ step.len
