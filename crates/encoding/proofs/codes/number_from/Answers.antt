-- `encoding::number_from` meets its contract: a number below 3 is its own, and any other is read as 3. Assumes nothing.
use Prim.Native.Nat.{ℕ, zero, suc, min}
use mathlib.Core.Path.{◌≡◌, refl, ◌∙◌}
use native.Mathlib.Omega.{arith}
use borrow.Author.Tests.{ne_eqb}
use Rattle.encoding.specs.Codes.{state_number, state_from}
use Rattle.encoding.proofs.codes.number_from.Goals as goal

capped : (code : ℕ) → min code 3 ≡ state_number (state_from code)
unfolding state_number state_from
capped zero = refl
capped (suc zero) = refl
capped (suc (suc zero)) = refl
capped (suc (suc (suc code))) =
    let n = suc (suc (suc code)) in
    rw (ne_eqb n 0 (λ e. omega arith), ne_eqb n 1 (λ e. omega arith), ne_eqb n 2 (λ e. omega arith)) (omega arith)

pub returns : goal.returns
returns c = c.from.ensures ∙ c.min.ensures ∙ capped c.args.code
