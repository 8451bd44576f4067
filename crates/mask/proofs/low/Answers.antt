-- `mask::low`: none, all, or the lowest of the word's places.
use Rattle.std.proofs.Common.{ℕ, ◌-◌, ◌*◌, ap, ◌∙◌, arith}
use Rattle.mask.proofs.Laws.{shifted_one}
use Rattle.mask.proofs.Operations.{low-none, low-some}
use Rattle.mask.proofs.low.Goals as goal

pub returns-then-n-from : goal.returns-then-n-from
returns-then-n-from c = low-none c.args.n c.args.q (omega arith)

pub returns-then-from-n : goal.returns-then-from-n
returns-then-from-n c = low-some c.args.n c.args.q 64 (omega arith) (omega arith) (λ h. omega arith)

pub returns : goal.returns
returns c =
    let k = c.args.n - c.args.q * 64 in
    ap (λ (x : ℕ). x - 1) (shifted_one k (omega arith)) ∙
    low-some c.args.n c.args.q k (omega arith) (omega arith) (λ h. omega arith)
