-- Laws of masked addresses: they lie below the limit, and refusal 7's test on the sum is the same on the block's last byte.
-- Assumes nothing.
use Prim.Native.Nat.{ℕ, ◌+◌, ◌-◌, ◌%◌, ◌≤◌, ◌<◌}
use mathlib.Core.Path.{◌≡◌, refl, sym, ◌∙◌}
use mathlib.Core.Bool.{Bool, true, false}
use native.Mathlib.Omega.{arith}
use lib.Dec.{ltb}
use borrow.Author.Tests.{lt-ltb, le-ltb, eq-eqb, ltb-true, ltb-false}
use Rattle.layout.specs.Layout.{largest}
use Rattle.layout.specs.Opening.{masked_of, limit, bad_base}

pub masked_below : (tagged : Bool) (address : ℕ) → address ≤ largest → masked_of tagged address < limit tagged
unfolding masked_of limit
masked_below true address h = omega arith
masked_below false address h = omega arith

-- Two tests of orders that hold together are equal.
pub ltb-same : (a b c d : ℕ) → (a < b → c < d) → (b ≤ a → d ≤ c) → ltb a b ≡ ltb c d
ltb-same a b c d f g = same (ltb a b) refl
  where
    same : (t : Bool) → ltb a b ≡ t → ltb a b ≡ ltb c d
    same true q = q ∙ sym (lt-ltb c d (f (ltb-true a b q)))
    same false q = q ∙ sym (le-ltb c d (g (ltb-false a b q)))

-- At a base that is a multiple of 64, refusal 7 compares the block's last byte with the last address.
pub bad_last : (tagged : Bool) (base bytes : ℕ) → base ≤ largest → 0 < bytes → base % 64 ≡ 0 → ltb (limit tagged - 1 - masked_of tagged base) (bytes - 1) ≡ bad_base tagged base bytes
unfolding bad_base
bad_last tagged base bytes hb hs h =
    let m = masked_below tagged base hb in
    rw (eq-eqb (base % 64) 0 h)
    (ltb-same (limit tagged - 1 - masked_of tagged base) (bytes - 1) (limit tagged) (masked_of tagged base + bytes)
    (λ l. omega arith)
    (λ l. omega arith))
