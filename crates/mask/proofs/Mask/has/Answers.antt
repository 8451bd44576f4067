-- `mask::Mask::has`.
use Rattle.std.proofs.Common.{◌&&◌}
use Rattle.mask.proofs.Operations.{alone-law, has-law}
use Rattle.mask.proofs.Mask.has.Goals as goal

pub returns : goal.returns
returns c =
    rw (c.is_empty.ensures, c.intersection.ensures, c.only.ensures, alone-law (λ x y. x && y) c.args.self c.args.i)
    (has-law c.args.self c.args.i)
