-- `opening::opens` meets its contract: the limits come first in the list of tests, then 6, then 7, which decides whether the values are
-- admissible. Assumes nothing.
use Prim.Native.Nat.{ℕ}
use Rattle.std.proofs.Common.{rules}
use mathlib.Core.Path.{◌≡◌, sym, ◌∙◌}
use mathlib.Core.Bool.{Bool, true, false, not}
use mathlib.Core.List.{[], ◌∷◌}
use mathlib.Core.Option.{none}
use borrow.Author.Tests.{eq-eqb, ne_eqb, not-true, not-false}
use Rattle.error.specs.declared.Error.{Error}
use Rattle.layout.specs.declared.Setup.{Setup}
use Rattle.layout.specs.Layout.{laid}
use Rattle.layout.specs.Opening.{layout_for, total_of, limits, bad_base, base_address, admissible}
use Rattle.layout.specs.Tests.{first}
use Rattle.layout.proofs.Admission.{base-decides}
use Rattle.layout.proofs.Limits.{limited, layout-total}
use Rattle.layout.proofs.Refusals.{first-early, first-late, passed_none, refused-some}
use Rattle.opening.specs.Refusals.{block_length, refusal_of, opens}
use Rattle.opening.proofs.opens.Goals as goal

-- A block of the right length leaves refusal 7 to decide.
judged : (s : Setup) (len : ℕ) (bad : Bool) → first (limits s) ≡ none → len ≡ total_of s → bad_base s.tagged s.base (total_of s) ≡ bad → opens s len ≡ laid (first ((bad, Error.BaseAddress) ∷ [])) (layout_for s)
unfolding opens refusal_of block_length base_address first
judged s len bad p whole e = rw (first-late _ _ p, eq-eqb len (total_of s) whole, e)

-- Values that pass the limits are admissible where their base is not bad.
bad : (s : Setup) (r : Bool) → first (limits s) ≡ none → r ≡ admissible s → r ≡ not (bad_base s.tagged s.base (total_of s))
bad s r p e = e ∙ base-decides s p

pub layout_of-layout-requires : goal.layout_of-layout-requires
layout_of-layout-requires c = limited _ (passed_none _ _ c.test_limits.ensures c.in_ok-test_limits.was)

pub returns-then-block_len-layout : goal.returns-then-block_len-layout
unfolding opens refusal_of laid block_length first
returns-then-block_len-layout c =
    let p : first (limits c.args.setup) ≡ none = passed_none _ _ c.test_limits.ensures c.in_ok-test_limits.was in
    let whole : c.layout_of-layout.result.total_bytes ≡ total_of c.args.setup = layout-total _ _ c.layout_of-layout.ensures in
    rw (first-late _ _ p, ← whole, ne_eqb _ _ c.if-block_len-layout.true)

pub returns-then-not-admissible : goal.returns-then-not-admissible
unfolding laid first
returns-then-not-admissible c =
    let s = c.args.setup in
    let p : first (limits s) ≡ none = passed_none _ _ c.test_limits.ensures c.in_ok-test_limits.was in
    let b = bad s c.admissible.result p c.admissible.ensures in
    let j = judged s c.args.block_len true p (c.if-block_len-layout.false ∙ layout-total _ _ c.layout_of-layout.ensures) (not-false _ (sym b ∙ c.if-not-admissible.true)) in rw j

pub returns-in_err-test_limits : goal.returns-in_err-test_limits
unfolding opens refusal_of laid
returns-in_err-test_limits c = rw (first-early _ _ _ (refused-some _ _ _ c.test_limits.ensures c.in_err-test_limits.was)) (search rules)

pub returns : goal.returns
unfolding laid first
returns c =
    let s = c.args.setup in
    let p : first (limits s) ≡ none = passed_none _ _ c.test_limits.ensures c.in_ok-test_limits.was in
    let b = bad s c.admissible.result p c.admissible.ensures in
    rw (
      judged s c.args.block_len false p (c.if-block_len-layout.false ∙ layout-total _ _ c.layout_of-layout.ensures) (not-true _ (sym b ∙ c.if-not-admissible.false)),
      c.layout_of-layout.ensures,
    )
