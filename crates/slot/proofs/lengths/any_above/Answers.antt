-- `slot::lengths::any_above` meets its contract: the library's test of each length is the definition's.
-- Assumes nothing.
use Rattle.std.proofs.Common.{ℕ, rules, tests, ◌<◌, ◌≤◌}
use Rattle.std.proofs.lemmas.Iterator.{cases_from_any, YieldsList-from_slice}
use Rattle.slot.proofs.PacketLengths.{any-is}
use Rattle.slot.proofs.lengths.any_above.Goals as goal

pub returns : goal.returns
returns c =
    any-is c.args.most c.args.lengths.now c.any.result
    (cases_from_any _ _ _ (λ (n : ℕ). c.args.most < n) (λ (n : ℕ). n ≤ c.args.most) c.any.ensures.ran
    (YieldsList-from_slice c.args.lengths.now (cc)) (λ x q k. search (rules, tests)) (λ x q k. search (rules, tests)))
