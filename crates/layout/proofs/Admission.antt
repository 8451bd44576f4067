-- The values that opening takes, as named facts: within the limits, the base a multiple of 64, the block below the end of the addresses.
-- Refusal 8's part on the setup is that these facts hold. Assumes nothing.
use Prim.Native.Nat.{ℕ, ◌+◌, ◌%◌, ◌^◌, ◌≤◌}
use mathlib.Core.Path.{◌≡◌, sym, ◌∙◌}
use mathlib.Core.Bool.{Bool, true, false, not}
use mathlib.Core.Option.{none}
use native.Mathlib.Omega.{arith}
use lib.Dec.{ltb, eqb}
use borrow.Author.Tests.{eq-eqb, le-ltb, ltb-false, eqb-true, not-false}
use Rattle.layout.specs.declared.Setup.{Setup}
use Rattle.layout.specs.Tests.{first, passed}
use Rattle.layout.specs.Layout.{largest}
use Rattle.layout.specs.Opening
use Rattle.layout.specs.Opening.{total_of, masked_of, limit, bad_base, base_address, admissible, Limited}
use Rattle.layout.proofs.Refusals.{first-late, none-front, none-next, or-falses, passed_first, passed-only}
use Rattle.layout.proofs.Limits.{limited, limited-passes}

pub record Admissible (s : Setup) : Type 0 where
  pub limits : Limited s
  pub aligned : s.base % 64 ≡ 0
  pub room : masked_of s.tagged s.base + total_of s ≤ limit s.tagged

pub good-base : (tagged : Bool) (base bytes : ℕ) → bad_base tagged base bytes ≡ false → (base % 64 ≡ 0) × (masked_of tagged base + bytes ≤ limit tagged)
unfolding bad_base
good-base tagged base bytes h =
    let both = or-falses (not (eqb (base % 64) 0)) (ltb (limit tagged) (masked_of tagged base + bytes)) h in
    (eqb-true (base % 64) 0 (not-false _ both.0), ltb-false (limit tagged) (masked_of tagged base + bytes) both.1)

pub admits : (s : Setup) → admissible s ≡ true → Admissible s
unfolding admissible base_address
admits s h =
    let all = passed_first _ h in
    let front = none-front (Opening.limits s) _ all in
    let seven = none-next (bad_base s.tagged s.base (total_of s)) _ _ (sym (first-late _ _ front) ∙ all) in
    let base = good-base s.tagged s.base (total_of s) seven.0 in
    record { limits = limited s front; aligned = base.0; room = base.1 }

pub admissible-true : (s : Setup) → Admissible s → admissible s ≡ true
unfolding admissible base_address bad_base first passed
admissible-true s a =
    rw (
      first-late _ _ (limited-passes s a.limits),
      eq-eqb (s.base % 64) 0 a.aligned,
      le-ltb (limit s.tagged) (masked_of s.tagged s.base + total_of s) a.room,
    )

-- An address, tag and all, is at most 255 × 2^56 above its masked part, so the block's addresses fit.
pub addressed : (s : Setup) → Admissible s → s.base ≤ largest → s.base + total_of s ≤ 2 ^ 64
unfolding masked_of limit
addressed s a h = fit s.tagged s.base (total_of s) h a.room
  where
    fit : (tagged : Bool) (base bytes : ℕ) → base ≤ largest → masked_of tagged base + bytes ≤ limit tagged → base + bytes ≤ 2 ^ 64
    fit true base bytes hb hr = omega arith
    fit false base bytes hb hr = hr

-- Within the limits the base decides.
pub base-decides : (s : Setup) → first (Opening.limits s) ≡ none → admissible s ≡ not (bad_base s.tagged s.base (total_of s))
unfolding admissible base_address
base-decides s h = rw (first-late _ _ h) (passed-only _ _)
