-- `opening::open` meets its contract. By the answer of `opens`, either nothing is written and the record is that of no slots,
-- or the values are admissible and the block has their total, and record and block are made anew. Assumes nothing.
use mathlib.Core.Path.{refl, sym, ◌∙◌}
use Rattle.layout.proofs.Admission.{admits}
use Rattle.opening.specs.Open.{opened_or, open_outcome}
use Rattle.opening.proofs.Refusals.{opened-layout}
use Rattle.opening.proofs.open.Goals as goal

pub init_headers-requires : goal.init_headers-requires
init_headers-requires c =
    let granted = opened-layout _ _ _ (sym c.opens.ensures ∙ c.in-Ok.is) in
    (granted.admissible, granted.length)

pub opened-requires : goal.opened-requires
opened-requires c = (admits _ (opened-layout _ _ _ (sym c.opens.ensures ∙ c.in-Ok.is)).admissible).limits.slots

pub returns-in-Err : goal.returns-in-Err
unfolding open_outcome opened_or
returns-in-Err c = rw (sym c.opens.ensures ∙ c.in-Err.is) (refl, c.no_stream.ensures, refl)

pub returns-in-Ok : goal.returns-in-Ok
unfolding open_outcome opened_or
returns-in-Ok c = rw (sym c.opens.ensures ∙ c.in-Ok.is) (refl, c.opened.ensures, c.init_headers.ensures)
