-- Laws of the layout's numbers. Raising adds less than the multiple, and the data stride is a multiple of 64, so the total is
-- n × (header stride + data stride) raised to 64, and no step before it is larger. Assumes nothing.
use Prim.Native.Nat.{ℕ, ◌+◌, ◌-◌, ◌*◌, ◌/◌, ◌%◌, ◌≤◌, ◌<◌}
use mathlib.Core.Path.{◌≡◌, refl, sym, ◌∙◌}
use mathlib.Core.Bool.{Bool, true, false, or-true}
use native.Mathlib.Nat.{mul-add, mul_assoc, mul-le-mul, le-mul_of_pos_right, mul_comm, mul-mod_left}
use native.Mathlib.Omega.{arith}
use lib.Dec.{ltb}
use borrow.Author.Tests.{le-ltb, ltb-false}
use Rattle.layout.specs.Layout.{raised, largest, slot_stride, data_base, data_stride, total, any_above, overflowing, Sized}

-- The header stride holds the header and its p descriptors, and is a multiple of 8.
pub record Stride (p : ℕ) : Type 0 where
  pub holds : 56 + 12 * p ≤ slot_stride p
  pub near : slot_stride p ≤ 63 + 12 * p
  pub even : slot_stride p % 8 ≡ 0

pub stride : (p : ℕ) → Stride p
unfolding slot_stride raised
stride p = record { holds = omega arith; near = omega arith; even = omega arith }

pub headers-even : (i p : ℕ) → i * slot_stride p % 8 ≡ 0
unfolding slot_stride raised
headers-even i p = rw (← mul_assoc i ((56 + 12 * p + 7) / 8) 8) (mul-mod_left (i * ((56 + 12 * p + 7) / 8)) 8)

-- A number raised to 64.
pub record Up (v r : ℕ) : Type 0 where
  pub above : v ≤ r
  pub near : r ≤ v + 63
  pub even : r % 64 ≡ 0

pub up : (v : ℕ) → Up v (raised 64 v)
unfolding raised
up v = record { above = omega arith; near = omega arith; even = omega arith }

pub base-up : (n p : ℕ) → Up (n * slot_stride p) (data_base n p)
unfolding data_base
base-up n p = up (n * slot_stride p)

pub stride_up : (p b : ℕ) → Up (p * b) (data_stride p b)
unfolding data_stride
stride_up p b = up (p * b)

-- n data strides are a multiple of 64.
strides-even : (n p b : ℕ) → n * data_stride p b ≡ n * ((p * b + 63) / 64) * 64
unfolding data_stride raised
strides-even n p b = sym (mul_assoc n ((p * b + 63) / 64) 64)

-- The total is n × (header stride + data stride) raised to 64.
pub total-raised : (n p b : ℕ) → total n p b ≡ raised 64 (n * (slot_stride p + data_stride p b))
unfolding total data_base raised
total-raised n p b = omega (arith, strides-even n p b, mul-add n (slot_stride p) (data_stride p b))

-- What n slots need before the total is raised to 64.
abbrev pub whole : ℕ → ℕ → ℕ → ℕ
whole n p b = n * (slot_stride p + data_stride p b)

-- The largest multiple of 64 that a usize holds.
abbrev pub room : ℕ
room = largest - 63

-- No step is above the total, and the total is a multiple of 64.
pub record Steps (n p b : ℕ) : Type 0 where
  pub headers : n * slot_stride p ≤ data_base n p
  pub header : slot_stride p ≤ n * slot_stride p
  pub payload : data_stride p b ≤ n * data_stride p b
  pub capacity : p * b ≤ data_stride p b
  pub sum : total n p b ≡ data_base n p + n * data_stride p b
  pub even : total n p b % 64 ≡ 0
  pub least : whole n p b ≤ total n p b

pub steps : (n p b : ℕ) → 0 < n → Steps n p b
unfolding total
steps n p b h =
    let t : Up (whole n p b) (total n p b) = rw (total-raised n p b) (up (whole n p b)) in
    record {
      headers = (base-up n p).above;
      header = omega (arith, mul_comm n (slot_stride p), le-mul_of_pos_right (slot_stride p) h);
      payload = omega (arith, mul_comm n (data_stride p b), le-mul_of_pos_right (data_stride p b) h);
      capacity = (stride_up p b).above;
      sum = refl;
      even = t.even;
      least = t.above;
    }

-- The total is above the largest usize exactly when the whole is above the room.
pub total-over : (n p b : ℕ) → 0 < n → room < whole n p b → largest < total n p b
total-over n p b h o = omega (arith, steps n p b h)

pub total-within : (n p b : ℕ) → whole n p b ≤ room → total n p b ≤ room
unfolding raised
total-within n p b h = rw (total-raised n p b) (omega arith)

-- Refusal 4 is that the total is above the largest usize.
pub overflowing-total : (n p b : ℕ) → Sized n p b → overflowing n p b ≡ ltb largest (total n p b)
unfolding overflowing any_above
overflowing-total n p b s = decided (ltb largest (total n p b)) refl
  where
    decided : (t : Bool) → ltb largest (total n p b) ≡ t → overflowing n p b ≡ ltb largest (total n p b)
    decided true q = simp (q, or-true)
    decided false q =
        let h = ltb-false largest (total n p b) q in
        let f = steps n p b (omega arith) in
        let g = stride p in
        simp (
          le-ltb largest (12 * p) (omega arith),
          le-ltb largest (56 + 12 * p) (omega arith),
          le-ltb largest (slot_stride p) (omega arith),
          le-ltb largest (n * slot_stride p) (omega arith),
          le-ltb largest (data_base n p) (omega arith),
          le-ltb largest (p * b) (omega arith),
          le-ltb largest (data_stride p b) (omega arith),
          le-ltb largest (n * data_stride p b) (omega arith),
          q,
        )

pub total-fits : (n p b : ℕ) → Sized n p b → overflowing n p b ≡ false → total n p b ≤ largest
total-fits n p b s h = ltb-false largest (total n p b) (sym (overflowing-total n p b s) ∙ h)

-- A ring within opening's limits is small: at most 256 × 1592 bytes of headers and 256 × 6,291,456 of payloads.
pub record Small (n p b : ℕ) : Type 0 where
  pub header : slot_stride p ≤ 1592
  pub headers : data_base n p ≤ 407552
  pub capacity : p * b ≤ 6291456
  pub payload : data_stride p b ≤ 6291456
  pub some : 0 < total n p b
  pub all : total n p b ≤ 1611020288

pub small : (n p b : ℕ) → Sized n p b → n ≤ 256 → b ≤ 49152 → Small n p b
unfolding slot_stride data_base data_stride total raised
small n p b s hn hb =
    let one : slot_stride p ≤ 1592 = omega arith in
    let headers : n * slot_stride p ≤ 256 * 1592 = mul-le-mul hn one in
    let capacity : p * b ≤ 128 * 49152 = mul-le-mul s.few hb in
    let one-data : data_stride p b ≤ 6291456 = omega arith in
    let payloads : n * data_stride p b ≤ 256 * 6291456 = mul-le-mul hn one-data in
    record {
      header = one;
      headers = omega arith;
      capacity = capacity;
      payload = one-data;
      some = omega (arith, steps n p b (omega arith), stride p);
      all = omega arith;
    }
