-- The words of a record's masks have their bits, and its array its places: what a function knows of a record that it is handed. With `c.good.0` of a
-- function whose first parameter is the record, `arrays` gives what every law of the ring asks. Assumes nothing.
use mathlib.Core.List.{List, [], ◌∷◌}
use borrow.Author.Rules.{rules}
use denote.Laws.{Is}
use denote.Shadow.{shadow}
use denote.Struct.Laws as LL
use mir.Val.{Val}
use Rattle.mask.specs.contracts.Mask as M
use Rattle.mask.proofs.Masks.{Fits, fits}
use Rattle.ring.proofs.Wide.{Wide, masks-known}
use Rattle.stream.specs.declared.Stream.{Stream}
use Rattle.stream.specs.contracts.Stream as S
use Rattle.stream.proofs.Stream.TheLaws as S'

-- a mask that stands in a record
known : (m : (M.the_field).row.Denot) (vs : List Val) → shadow ((M.the_field).row.own_val m vs) → Fits (record { a = m.0; b = m.1.0; c = m.1.1.0; d = m.1.1.1.0 })
known m vs is = fits _ (search rules) (search rules) (search rules) (search rules)

pub arrays : (s : Stream) → Is S.the_row s (LL.val S.the_type S'.the_laws s ∷ []) → Wide s.ring
arrays s is =
    let ring = is.1.1.1.1.1.0 in
    let states = ring.1.1.0.1.1 in
    record {
      states = masks-known s.ring.states (known _ _ states.0) (known _ _ states.1.0) (known _ _ states.1.1.0);
      places = search rules;
    }
