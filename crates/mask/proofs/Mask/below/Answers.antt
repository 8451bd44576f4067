-- `mask::Mask::below`, word by word.
use Rattle.mask.specs.Masks.{mask_of}
use Rattle.mask.proofs.Masks.{mask-made}
use Rattle.mask.proofs.Mask.below.Goals as goal

pub returns : goal.returns
unfolding mask_of
returns c = mask-made c.low.ensures c.low-2.ensures c.low-3.ensures c.low-4.ensures
