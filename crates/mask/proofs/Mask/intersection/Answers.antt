-- `mask::Mask::intersection`, word by word.
use Rattle.std.proofs.Common.{◌&&◌, rules}
use lib.Bits.{bit_and, and_lt}
use Rattle.mask.proofs.Laws.{bit-and}
use Rattle.mask.proofs.Masks.{fits}
use Rattle.mask.proofs.Operations.{words-law}
use Rattle.mask.proofs.Mask.intersection.Goals as goal

pub returns : goal.returns
returns c =
    words-law bit_and (λ x y. x && y) (and_lt 64) (λ j x y h l. bit-and j x y) c.args.self c.args.other _
    (search (rules, fits)) (search (rules, fits)) (search rules)
