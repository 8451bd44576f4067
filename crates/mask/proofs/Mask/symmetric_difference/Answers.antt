-- `mask::Mask::symmetric_difference`, word by word.
use Rattle.std.proofs.Common.{not, rules}
use Rattle.std.specs.Bool.{beq}
use lib.Bits.{bit_xor, xor_lt}
use Rattle.mask.proofs.Laws.{bit-xor}
use Rattle.mask.proofs.Masks.{fits}
use Rattle.mask.proofs.Operations.{words-law}
use Rattle.mask.proofs.Mask.symmetric_difference.Goals as goal

pub returns : goal.returns
returns c =
    words-law bit_xor (λ x y. not (beq x y)) (xor_lt 64) (λ j x y h l. bit-xor j x y) c.args.self c.args.other _
    (search (rules, fits)) (search (rules, fits)) (search rules)
