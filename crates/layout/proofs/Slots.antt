-- Laws of the slots' places. A header and its descriptors fit one header stride and a payload fits one data stride, so slots with
-- different numbers lie apart; all headers end at the data base at the latest, where the payloads begin. Assumes nothing.
use Prim.Native.Nat.{ℕ, ◌+◌, ◌*◌, ◌≤◌, ◌<◌}
use mathlib.Core.Path.{◌≡◌, refl}
use mathlib.Core.Bool.{Bool, true, false}
use mathlib.Core.Logic.{◌⊎◌, inl, inr}
use native.Mathlib.Nat.{add-mul, mul-le-mul_right, mul-pos}
use native.Mathlib.Omega.{arith}
use lib.Dec.{ltb}
use borrow.Author.Tests.{ltb-true, ltb-false}
use Rattle.layout.specs.declared.Setup.{Setup}
use Rattle.layout.specs.Layout.{largest, layout_of, slot_stride, data_stride, total}
use Rattle.layout.specs.Opening.{layout_for, total_of}
use Rattle.layout.specs.Places.{places_of, Placed}
use Rattle.layout.proofs.Frames.{frames-below, frames-some, capacity-below}
use Rattle.layout.proofs.Strides.{stride, headers-even, base-up, stride_up}
use Rattle.layout.proofs.Limits.{limited-small}
use Rattle.layout.proofs.Admission.{Admissible, addressed}

-- A slot's stride ends where the next slot's begins, or before.
apart : (i j stride : ℕ) → i < j → i * stride + stride ≤ j * stride
apart i j stride h =
    let next : i + 1 ≤ j = omega arith in
    omega (arith, mul-le-mul_right stride next, add-mul i 1 stride)

-- The bytes of the header and its descriptors.
abbrev pub header_bytes : Setup → ℕ
header_bytes s = 56 + 12 * s.packets_per_urb

pub placed : (s : Setup) (i : ℕ) → Admissible s → s.base ≤ largest → i < s.slots → Placed s i (places_of s i)
unfolding places_of layout_for layout_of total_of total
placed s i a hb h =
    let n = s.slots in
    let p = s.packets_per_urb in
    let b = s.packet_bytes in
    let f = s.frame_bytes in
    let z = a.limits.sizes in
    let most = capacity-below p b f in
    let m = limited-small s a.limits in
    let g = stride p in
    let d = stride_up p b in
    let u = base-up n p in
    let hs = apart i n (slot_stride p) h in
    let ds = apart i n (data_stride p b) h in
    record {
      is = refl;
      descs = refl;
      aligned = headers-even i p;
      headers = omega arith;
      payloads = omega arith;
      within = omega arith;
      packets = refl;
      some-packets = z.packets;
      few-packets = z.few;
      some_bytes = z.bytes;
      few_bytes = a.limits.bytes;
      fill = refl;
      small-fill = frames-below b f;
      capacity = refl;
      some-capacity = mul-pos z.packets (frames-some b f a.limits.some-frame a.limits.frame);
      small-capacity = omega arith;
      small-payload = m.capacity;
      small-total = m.all;
      addressed = addressed s a hb;
    }

-- Slots with different numbers lie apart: one's header and descriptors end before the other's begin, and so do the payloads.
pub headers-ordered : (s : Setup) (i j : ℕ) → i < j → (places_of s i).header + header_bytes s ≤ (places_of s j).header
unfolding places_of layout_for layout_of
headers-ordered s i j h =
    let p = s.packets_per_urb in
    omega (arith, apart i j (slot_stride p) h, stride p)

pub payloads-ordered : (s : Setup) (i j : ℕ) → i < j → (places_of s i).payload + (places_of s i).capacity ≤ (places_of s j).payload
unfolding places_of layout_for layout_of
payloads-ordered s i j h =
    let p = s.packets_per_urb in
    let b = s.packet_bytes in
    omega (arith, apart i j (data_stride p b) h, stride_up p b, capacity-below p b s.frame_bytes)

-- What is ordered by the slots' numbers is one way round or the other for two different slots.
either : (f g : ℕ → ℕ) → ((i j : ℕ) → i < j → f i ≤ g j) → (i j : ℕ) → (i ≡ j → ⊥) → (f i ≤ g j) ⊎ (f j ≤ g i)
either f g ordered i j h = side (ltb i j) refl
  where
    side : (t : Bool) → ltb i j ≡ t → (f i ≤ g j) ⊎ (f j ≤ g i)
    side true q = inl (ordered i j (ltb-true i j q))
    side false q = let le = ltb-false i j q in inr (ordered j i (omega arith))

pub headers-apart : (s : Setup) (i j : ℕ) → (i ≡ j → ⊥) → ((places_of s i).header + header_bytes s ≤ (places_of s j).header) ⊎ ((places_of s j).header + header_bytes s ≤ (places_of s i).header)
headers-apart s =
    either (λ (i : ℕ). (places_of s i).header + header_bytes s) (λ (i : ℕ). (places_of s i).header) (headers-ordered s)

pub payloads-apart : (s : Setup) (i j : ℕ) → (i ≡ j → ⊥) → ((places_of s i).payload + (places_of s i).capacity ≤ (places_of s j).payload) ⊎ ((places_of s j).payload + (places_of s j).capacity ≤ (places_of s i).payload)
payloads-apart s =
    either
    (λ (i : ℕ). (places_of s i).payload + (places_of s i).capacity)
    (λ (i : ℕ). (places_of s i).payload)
    (payloads-ordered s)

-- Every header, with its descriptors, ends before every payload begins.
pub headers-first : (s : Setup) (i j : ℕ) → i < s.slots → (places_of s i).header + header_bytes s ≤ (places_of s j).payload
unfolding places_of layout_for layout_of
headers-first s i j h =
    let p = s.packets_per_urb in
    omega (arith, apart i s.slots (slot_stride p) h, stride p, base-up s.slots p)
