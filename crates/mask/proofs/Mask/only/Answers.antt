-- `mask::Mask::only`, word by word.
use Rattle.mask.specs.Masks.{mask_of}
use Rattle.mask.proofs.Masks.{mask-made}
use Rattle.mask.proofs.Mask.only.Goals as goal

pub returns : goal.returns
unfolding mask_of
returns c = mask-made c.bit_in.ensures c.bit_in-2.ensures c.bit_in-3.ensures c.bit_in-4.ensures
