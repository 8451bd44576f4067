-- `mask::Mask::is_empty`: the words together are 0 where each is.
use Rattle.mask.proofs.Operations.{empty-test}
use Rattle.mask.proofs.Mask.is_empty.Goals as goal

pub returns : goal.returns
returns c = empty-test c.args.self
