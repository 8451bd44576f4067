-- `mask::Mask::without`.
use Rattle.std.proofs.Common.{◌∙◌, not, ◌&&◌}
use Rattle.mask.proofs.Operations.{alone-law}
use Rattle.mask.proofs.Mask.without.Goals as goal

pub returns : goal.returns
returns c = c.difference.ensures ∙ rw c.only.ensures (alone-law (λ x y. x && not y) c.args.self c.args.i)
