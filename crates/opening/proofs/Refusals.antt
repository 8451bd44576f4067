-- Opening gives a layout exactly for admissible values with a block of their total, and it is theirs.
-- By the tests in their order. Assumes nothing.
use Rattle.std.specs.Prelude.{Ok}
use Prim.Native.Nat.{ℕ, ◌+◌, ◌%◌}
use mathlib.Core.Path.{◌≡◌, refl, sym, ◌∙◌}
use mathlib.Core.Bool.{true, not}
use mathlib.Core.Option.{Option, none, some}
use lib.Dec.{eqb}
use borrow.Author.Tests.{eq-eqb, le-ltb, eqb-true, not-false}
use Rattle.error.specs.declared.Error.{Error}
use Rattle.layout.specs.declared.RingLayout.{RingLayout}
use Rattle.layout.specs.declared.Setup.{Setup}
use Rattle.layout.specs.Layout.{laid}
use Rattle.layout.specs.Opening as Opening
use Rattle.layout.specs.Opening.{layout_for, total_of, masked_of, limit, bad_base, base_address, admissible}
use Rattle.layout.specs.Tests.{first}
use Rattle.layout.proofs.Admission.{admits, admissible-true, good-base}
use Rattle.layout.proofs.Limits.{limited, limited-passes}
use Rattle.layout.proofs.Refusals.{first-late, none-front, none-next}
use Rattle.opening.specs.Refusals.{block_length, refusal_of, opens}

laid_none : (o : Option Error) (l m : RingLayout) → laid o l ≡ Ok m → (o ≡ none) × (m ≡ l)
unfolding laid
laid_none none l m h = (refl, cc)
laid_none (some e) l m h = (cc, cc)

pub record Opened (s : Setup) (len : ℕ) (l : RingLayout) : Type 0 where
  pub admissible : admissible s ≡ true
  pub length : len ≡ total_of s
  pub layout : l ≡ layout_for s

pub opened-layout : (s : Setup) (len : ℕ) (l : RingLayout) → opens s len ≡ Ok l → Opened s len l
unfolding opens refusal_of block_length base_address
opened-layout s len l h =
    let o = laid_none (refusal_of s len) (layout_for s) l h in
    let front = none-front (Opening.limits s) _ o.0 in
    let rest = sym (first-late _ _ front) ∙ o.0 in
    let six = none-next (not (eqb len (total_of s))) _ _ rest in
    let seven = none-next (bad_base s.tagged s.base (total_of s)) _ _ six.1 in
    let base = good-base s.tagged s.base (total_of s) seven.0 in
    record {
      admissible = admissible-true s (record { limits = limited s front; aligned = base.0; room = base.1 });
      length = eqb-true len (total_of s) (not-false _ six.0);
      layout = o.1;
    }

pub admissible-opens : (s : Setup) → admissible s ≡ true → opens s (total_of s) ≡ Ok (layout_for s)
unfolding opens refusal_of laid block_length base_address bad_base first
admissible-opens s h =
    let a = admits s h in
    rw (
      first-late _ _ (limited-passes s a.limits),
      eq-eqb (total_of s) (total_of s) refl,
      eq-eqb (s.base % 64) 0 a.aligned,
      le-ltb (limit s.tagged) (masked_of s.tagged s.base + total_of s) a.room,
    )
