-- `mask::Mask::difference`, word by word.
use Rattle.std.proofs.Common.{◌-◌, ◌^◌, ap, ◌∙◌, Bool, not, ◌&&◌, rules}
use lib.Bits.{bit_and, and_lt}
use lib.Pow.{ones_sub-lt}
use Rattle.mask.specs.Bits.{bit}
use Rattle.mask.proofs.Laws.{bit-and, bit_not}
use Rattle.mask.proofs.Masks.{fits}
use Rattle.mask.proofs.Operations.{words-law}
use Rattle.mask.proofs.Mask.difference.Goals as goal

pub returns : goal.returns
returns c =
    words-law (λ x y. bit_and x ((2 ^ 64 - 1) - y)) (λ x y. x && not y)
    (λ x y h l. and_lt 64 x ((2 ^ 64 - 1) - y) h (ones_sub-lt 64 y))
    (λ j x y h l. bit-and j x ((2 ^ 64 - 1) - y) ∙ ap (λ (t : Bool). bit x j && t) (bit_not 64 j y l h))
    c.args.self c.args.other _ (search (rules, fits)) (search (rules, fits)) (search rules)
