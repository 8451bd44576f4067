-- `mask::Mask::union`, word by word.
use Rattle.std.proofs.Common.{◌||◌, rules}
use lib.Bits.{bit_or, or_lt}
use Rattle.mask.proofs.Laws.{bit-or}
use Rattle.mask.proofs.Masks.{fits}
use Rattle.mask.proofs.Operations.{words-law}
use Rattle.mask.proofs.Mask.union.Goals as goal

pub returns : goal.returns
returns c =
    words-law bit_or (λ x y. x || y) (or_lt 64) (λ j x y h l. bit-or j x y) c.args.self c.args.other _
    (search (rules, fits)) (search (rules, fits)) (search rules)
