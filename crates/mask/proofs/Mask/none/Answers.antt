-- `mask::Mask::none`: the table of no place computes to four words that are 0.
use Rattle.std.proofs.Common.{rules}
use Rattle.mask.specs.Bits.{word}
use Rattle.mask.specs.Masks.{table_word, mask_of}
use Rattle.mask.proofs.Mask.none.Goals as goal

pub returns : goal.returns
unfolding mask_of table_word word
returns c = search rules
