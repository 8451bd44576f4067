-- Products and quotients of 64-bit numbers.
-- Assumes nothing.
use mathlib.Core.Path.{◌≡◌}
use Prim.Native.Nat.{ℕ, ◌+◌, ◌*◌, ◌/◌, ◌%◌, ◌^◌, ◌≤◌, ◌<◌, min}
use native.Mathlib.Nat.{le-div_iff_mul-le, div-lt_iff_lt-mul, le-mul_of_pos_right, add-mul}
use native.Mathlib.Omega.{arith}
use Rattle.std.proofs.lemmas.Grind.{div_ceil_times}
use Rattle.schedule.specs.Derive.{ceil_div}

-- a further factor that is not zero leaves a product above
pub still_above : (a c : ℕ) → 0 < c → 2 ^ 64 ≤ a → 2 ^ 64 ≤ a * c
still_above a c p h = omega (arith, h, le-mul_of_pos_right {m = c} a p)

-- the library's quotient, rounded up
pub rounded_up : (a b : ℕ) → 0 < b → a / b + min 1 (a % b) ≡ ceil_div a b
rounded_up a b p =
    let q = a / b + min 1 (a % b) in
    let around = div_ceil_times a b p in
    let more : (q + 1) * b ≡ q * b + b = omega (arith, add-mul q 1 b) in
    let low : q ≤ ceil_div a b = (le-div_iff_mul-le p).1 (omega (arith, around.0)) in
    let high : ceil_div a b < q + 1 = (div-lt_iff_lt-mul p).1 (omega (arith, around.1, more)) in
    omega (arith, low, high)
