-- Laws of two's complement at 32 bits: `signed` undoes `unsigned`, and a number read back from the bits that hold it is itself.
-- Assumes nothing.
use mathlib.Core.Path.{◌≡◌, sym, ap, ◌∙◌}
use Prim.Native.Nat.{ℕ, suc, ◌-◌, ◌^◌, ◌≤◌, ◌<◌}
use native.Mathlib.Omega.{arith}
use borrow.Author.Tests.{lt-ltb, le-ltb}
use lib.IntN.{ℤ, pos, negsuc}
use lib.Signed.{mag}
use mir.Syntax.{w32}
use mir.Val.{SFits, to_z, of_z}
use mir.ValLaws.{to_z-of_z}
use Rattle.sys.specs.Signed.{signed, unsigned}

pub signed-small : (n : ℕ) → n < 2 ^ 31 → signed n ≡ pos n
unfolding signed
signed-small n h = rw (lt-ltb n (2 ^ 31) h)

pub signed-large : (n : ℕ) → 2 ^ 31 ≤ n → signed n ≡ negsuc (2 ^ 32 - suc n)
unfolding signed
signed-large n h = rw (le-ltb n (2 ^ 31) h)

-- a signed number of 32 bits is read back from the bits that stand for it
pub signed-unsigned : (z : ℤ) → SFits w32 z → signed (unsigned z) ≡ z
signed-unsigned (pos n) f = signed-small n f.sfits
signed-unsigned (negsuc n) f =
    let h : n < 2 ^ 31 = f.sfits in
    signed-large (2 ^ 32 - suc n) (omega arith) ∙ ap negsuc (omega arith)

pub unsigned-below : (z : ℤ) → SFits w32 z → unsigned z < 2 ^ 32
unsigned-below (pos n) f = let h : n < 2 ^ 31 = f.sfits in omega arith
unsigned-below (negsuc n) f = omega arith

-- the number that has these bits
pub of-bits : (z : ℤ) (k : ℕ) → SFits w32 z → of_z w32 z ≡ k → z ≡ to_z w32 k
of-bits z k f e = sym (to_z-of_z w32 z f) ∙ ap (to_z w32) e

-- a signed number as it is read from the bits that hold it
pub read_back : (z : ℤ) → mag z < 2 ^ 31 → to_z w32 (of_z w32 z) ≡ z
read_back z h = to_z-of_z w32 z (record { sfits = h })

-- the number that stands for a signed one that is read from the bits that hold it
pub stands : (z : ℤ) (n : ℕ) → mag z < 2 ^ 31 → n ≡ unsigned (to_z w32 (of_z w32 z)) → n ≡ unsigned z
stands z n h e = e ∙ ap unsigned (to_z-of_z w32 z (record { sfits = h }))
