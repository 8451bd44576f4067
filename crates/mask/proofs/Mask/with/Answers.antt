-- `mask::Mask::with`.
use Rattle.std.proofs.Common.{◌∙◌, ◌||◌}
use Rattle.mask.proofs.Operations.{alone-law}
use Rattle.mask.proofs.Mask.with.Goals as goal

pub returns : goal.returns
returns c = c.union.ensures ∙ rw c.only.ensures (alone-law (λ x y. x || y) c.args.self c.args.i)
