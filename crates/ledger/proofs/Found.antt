-- The tests that look for a slot: what is left where one was found. By the test. Assumes nothing.
use Rattle.std.specs.Prelude.{Option, Some, None}
use mathlib.Core.Path.{◌≡◌, refl}
use mathlib.Core.Bool.{Bool, true, false, cond}
use Prim.Native.Nat.{ℕ}
use native.Mathlib.Omega.{arith}

-- a test that finds nothing leaves what the next one finds
pub found-past : (b : Bool) (f : Option ℕ) (i : ℕ) → cond b None f ≡ Some i → (b ≡ false) × (f ≡ Some i)
found-past true f i e = let z : ◌≡◌ {A = ℕ} 0 1 = cc in absurd (omega arith)
found-past false f i e = (refl, e)

pub found_at : (b : Bool) (i j : ℕ) → cond b (Some i) None ≡ Some j → i ≡ j
found_at true i j e = cc
found_at false i j e = let z : ◌≡◌ {A = ℕ} 0 1 = cc in absurd (omega arith)
