-- Request 2026-06: the next stretch of two lent sound buffers, from a reading position in each.
use Rattle.std.specs.Prelude.{ℕ, ◌+◌, ◌-◌, min, Bool, cond, not, ◌&&◌, ◌||◌, List, [], ltb, leb, length, take, drop, Option, Some, None}
use Rattle.stretch.specs.declared.Positions.{Positions}
use Rattle.stretch.specs.declared.Source.{Source}
use Rattle.stretch.specs.declared.Source.TheVariants.{Programme, Message}
use Rattle.stretch.specs.declared.Stretch.{Stretch}

-- Refusal 34's test, of one buffer: a position beyond its end. At the end is not beyond it.
abbrev pub is_beyond : List ℕ → ℕ → Bool
is_beyond buffer at = ltb (length buffer) at

-- A buffer is used up when nothing of it is left from the position on.
abbrev pub is_used_up : List ℕ → ℕ → Bool
is_used_up buffer at = leb (length buffer) at

-- 34 judges both positions, whatever the flag. When the message flag is set and the message isn't used up, the next stretch comes from the
-- message, else from the programme.
unfoldable pub source_of : List ℕ → List ℕ → Bool → Positions → Option Source
source_of p m flag at =
    cond (is_beyond p at.programme || is_beyond m at.message) None
    (cond (flag && not (is_used_up m at.message)) (Some Message) (Some Programme))

-- The given capacity long, or all that is left if less.
abbrev pub stretch_length : ℕ → ℕ → List ℕ → ℕ
stretch_length capacity at buffer = min capacity (length buffer - at)

-- The position in the chosen buffer moves by the stretch's length, the other stays. The programme used up: of length 0. 34: empty, nothing
-- moved.
unfoldable pub stretch_from : Option Source → List ℕ → List ℕ → ℕ → Positions → Stretch
stretch_from (Some Programme) p m capacity at =
    record {
      source = Some Programme;
      start = at.programme;
      len = stretch_length capacity at.programme p;
      next = record { programme = at.programme + stretch_length capacity at.programme p; message = at.message };
    }
stretch_from (Some Message) p m capacity at =
    record {
      source = Some Message;
      start = at.message;
      len = stretch_length capacity at.message m;
      next = record { programme = at.programme; message = at.message + stretch_length capacity at.message m };
    }
stretch_from None p m capacity at = record { source = None; start = 0; len = 0; next = at }

-- The step.
abbrev pub next_stretch : List ℕ → List ℕ → Bool → ℕ → Positions → Stretch
next_stretch p m flag capacity at = stretch_from (source_of p m flag at) p m capacity at

-- The buffer that was chosen.
abbrev pub buffer_of : Option Source → List ℕ → List ℕ → List ℕ
buffer_of (Some Programme) p m = p
buffer_of (Some Message) p m = m
buffer_of None p m = []

-- The stretch is a part of whichever buffer was chosen.
abbrev pub part_of : List ℕ → List ℕ → Stretch → List ℕ
part_of p m s = take s.len (drop s.start (buffer_of s.source p m))
