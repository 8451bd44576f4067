-- Laws of whole frames in a packet: the definition is the largest multiple of f not above b, at f = 1 it is b, and refusal 33 leaves
-- room for one frame at least. By the laws of quotients. Assumes nothing.
use Prim.Native.Nat.{ℕ, ◌*◌, ◌/◌, ◌%◌, ◌≤◌, ◌<◌}
use mathlib.Core.Path.{◌≡◌}
use mathlib.Core.Bool.{false}
use native.Mathlib.Nat.{div-mul-le_self, div-add-mod', mul-mod_left, mul-le-mul_left, mul-le-mul_right, mul-pos, le-div_iff_mul-le}
use native.Mathlib.Omega.{arith}
use lib.Dec.{ltb, eqb}
use borrow.Author.Tests.{ltb-false, eqb-false, le-ltb, ne_eqb}
use Rattle.layout.specs.Layout.{whole_frames, bad_frame}
use Rattle.layout.proofs.Refusals.{or-falses}

pub frames-below : (b f : ℕ) → whole_frames b f ≤ b
unfolding whole_frames
frames-below b f = div-mul-le_self b f

-- A slot's capacity is at most p × b.
pub capacity-below : (p b f : ℕ) → p * whole_frames b f ≤ p * b
capacity-below p b f = mul-le-mul_left p (frames-below b f)

pub frames-multiple : (b f : ℕ) → whole_frames b f % f ≡ 0
unfolding whole_frames
frames-multiple b f = mul-mod_left (b / f) f

pub frames-largest : (b f m : ℕ) → 0 < f → m % f ≡ 0 → m ≤ b → m ≤ whole_frames b f
unfolding whole_frames
frames-largest b f m h multiple within =
    let whole : m / f * f ≡ m = omega (arith, div-add-mod' m f) in
    let quotients : m / f ≤ b / f = (le-div_iff_mul-le h).1 (omega arith) in
    omega (arith, mul-le-mul_right f quotients)

pub frames-some : (b f : ℕ) → 0 < f → f ≤ b → 0 < whole_frames b f
unfolding whole_frames
frames-some b f h l =
    let one : 1 ≤ b / f = (le-div_iff_mul-le h).1 (omega arith) in
    mul-pos one h

pub frames-of-one : (b : ℕ) → whole_frames b 1 ≡ b
unfolding whole_frames
frames-of-one b = omega arith

-- What 33 leaves, and nothing else.
pub good-frame : (b f : ℕ) → bad_frame b f ≡ false → (0 < f) × (f ≤ b)
unfolding bad_frame
good-frame b f h =
    let both = or-falses (eqb f 0) (ltb b f) h in
    (omega (arith, eqb-false f 0 both.0), ltb-false b f both.1)

pub frame-passes : (b f : ℕ) → 0 < f → f ≤ b → bad_frame b f ≡ false
unfolding bad_frame
frame-passes b f h l = simp (ne_eqb f 0 (omega arith), le-ltb b f l)
