-- What C is told of the next stretch: which buffer (0 programme, 1 message, 2 neither), offset, length and the next positions; and the
-- step's number. A refused step is told too: of neither buffer, nothing moved.
use Rattle.std.specs.Prelude.{ℕ, not, List, [], ◌∷◌, eqb}
use Rattle.encoding.specs.Words.{written}
use Rattle.stretch.specs.declared.Stretch.{Stretch}
use Rattle.stretch.specs.Stretch.{next_stretch}
use Rattle.stretch.specs.Taken.{source_number, refusal_number, positions}
use Rattle.figures.specs.Figures.{Figures}

-- The stretch's five numbers.
abbrev pub stretch_numbers : Stretch → List ℕ
stretch_numbers s =
    source_number s.source ∷ s.start ∷ s.len ∷ s.next.programme ∷ s.next.message ∷ []

unfoldable pub stretch_figures : Stretch → List ℕ → Figures
stretch_figures s out = record { returned = refusal_number s.source; out = written (stretch_numbers s) out }

-- The flag is set by any number but 0.
unfoldable pub stretch_from_c : List ℕ → List ℕ → ℕ → ℕ → ℕ → ℕ → List ℕ → Figures
stretch_from_c p m flag capacity programme_at message_at out =
    stretch_figures (next_stretch p m (not (eqb flag 0)) capacity (positions programme_at message_at)) out
