-- The paper's section Opening, as far as the values alone decide: their layout, the limits and the base. What the block decides stands in
-- crate opening.
use Rattle.std.specs.Prelude.{ℕ, ◌+◌, ◌%◌, ◌^◌, ◌≤◌, ◌<◌, Bool, true, false, ◌||◌, not, List, [], ◌∷◌, ◌++◌, ltb, eqb}
use Rattle.error.specs.declared.Error.TheVariants.{TooLarge, BaseAddress, FrameSize}
use Rattle.layout.specs.declared.RingLayout.{RingLayout}
use Rattle.layout.specs.declared.Setup.{Setup}
use Rattle.layout.specs.Tests.{Test, first, passed}
use Rattle.layout.specs.Layout.{sizes, Sized, total, capacity, layout_of, bad_frame}

-- The part of an address that compares: the low 56 bits where addresses carry a tag, else all of it.
unfoldable pub masked_of : Bool → ℕ → ℕ
masked_of true address = address % 2 ^ 56
masked_of false address = address

-- Where masked addresses end: 2^56 (tagged) or 2^64.
unfoldable pub limit : Bool → ℕ
limit true = 2 ^ 56
limit false = 2 ^ 64

-- The layout of these values, its total and its slots' capacity.
unfoldable pub layout_for : Setup → RingLayout
layout_for s = layout_of s.slots s.packets_per_urb s.packet_bytes s.frame_bytes

unfoldable pub total_of : Setup → ℕ
total_of s = total s.slots s.packets_per_urb s.packet_bytes

abbrev pub capacity_of : Setup → ℕ
capacity_of s = capacity s.packets_per_urb s.packet_bytes s.frame_bytes

-- Refusals 1, 2 and 3, then 5: n above 256 or b above 49,152; then 33.
unfoldable pub limits : Setup → List Test
limits s =
    sizes s.slots s.packets_per_urb s.packet_bytes
    ++ (ltb 256 s.slots || ltb 49152 s.packet_bytes, TooLarge)
    ∷ (bad_frame s.packet_bytes s.frame_bytes, FrameSize)
    ∷ []

-- Base no multiple of 64, or masked base + total above the limit.
unfoldable pub bad_base : Bool → ℕ → ℕ → Bool
bad_base tagged base bytes = not (eqb (base % 64) 0) || ltb (limit tagged) (masked_of tagged base + bytes)

-- Refusal 7.
unfoldable pub base_address : Setup → List Test
base_address s = (bad_base s.tagged s.base (total_of s), BaseAddress) ∷ []

-- Opening would take these values with a block of the right length.
unfoldable pub admissible : Setup → Bool
admissible s = passed (first (limits s ++ base_address s))

-- What refusals 1, 2, 3, 5 and 33 leave.
pub record Limited (s : Setup) : Type 0 where
  pub sizes : Sized s.slots s.packets_per_urb s.packet_bytes
  pub slots : s.slots ≤ 256
  pub bytes : s.packet_bytes ≤ 49152
  pub some-frame : 0 < s.frame_bytes
  pub frame : s.frame_bytes ≤ s.packet_bytes
