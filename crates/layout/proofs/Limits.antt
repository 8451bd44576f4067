-- What opening's limits leave, as named facts, and back.
-- Assumes nothing.
use Rattle.std.specs.Prelude.{Ok}
use Prim.Native.Nat.{◌+◌, ◌*◌, ◌≤◌}
use mathlib.Core.Path.{◌≡◌, refl, sym, ◌∙◌, ap}
use mathlib.Core.Bool.{◌||◌}
use mathlib.Core.Option.{none}
use native.Mathlib.Omega.{arith}
use lib.Dec.{ltb}
use borrow.Author.Tests.{ltb-false, le-ltb}
use Rattle.layout.specs.declared.RingLayout.{RingLayout}
use Rattle.layout.specs.declared.Setup.{Setup}
use Rattle.layout.specs.Tests.{first}
use Rattle.layout.specs.Layout.{largest, sizes, total, layout_of, bad_frame, laid, laid_out}
use Rattle.layout.specs.Opening.{layout_for, total_of, limits, Limited}
use Rattle.layout.proofs.Refusals.{first-late, none-next, none-front, or-falses, sized, sized-passes}
use Rattle.layout.proofs.Frames.{capacity-below, good-frame, frame-passes}
use Rattle.layout.proofs.Strides.{stride, base-up, stride_up, overflowing-total, Small, small}

-- Refusals 1, 2, 3, 5 and 33 leave what Limited says, and nothing else.
pub limited : (s : Setup) → first (limits s) ≡ none → Limited s
unfolding limits
limited s h =
    let front = none-front (sizes s.slots s.packets_per_urb s.packet_bytes) _ h in
    let five = none-next (ltb 256 s.slots || ltb 49152 s.packet_bytes) _ _ (sym (first-late _ _ front) ∙ h) in
    let both = or-falses (ltb 256 s.slots) (ltb 49152 s.packet_bytes) five.0 in
    let last = none-next (bad_frame s.packet_bytes s.frame_bytes) _ _ five.1 in
    let frame = good-frame s.packet_bytes s.frame_bytes last.0 in
    record {
      sizes = sized _ _ _ front;
      slots = ltb-false 256 s.slots both.0;
      bytes = ltb-false 49152 s.packet_bytes both.1;
      some-frame = frame.0;
      frame = frame.1;
    }

pub limited-passes : (s : Setup) → Limited s → first (limits s) ≡ none
unfolding limits first
limited-passes s l =
    rw (
      first-late _ _ (sized-passes _ _ _ l.sizes),
      le-ltb 256 s.slots l.slots,
      le-ltb 49152 s.packet_bytes l.bytes,
      frame-passes s.packet_bytes s.frame_bytes l.some-frame l.frame,
    )

pub limited-small : (s : Setup) → Limited s → Small s.slots s.packets_per_urb s.packet_bytes
limited-small s l = small _ _ _ l.sizes l.slots l.bytes

pub layout-total : (s : Setup) (l : RingLayout) → l ≡ layout_for s → l.total_bytes ≡ total_of s
unfolding layout_for layout_of total_of
layout-total s l e = ap (λ (k : RingLayout). k.total_bytes) e

-- Within the limits refusal 4 can't arise: RingLayout::new gives the layout.
pub limited-laid : (s : Setup) → Limited s → laid_out s.slots s.packets_per_urb s.packet_bytes s.frame_bytes ≡ Ok (layout_for s)
unfolding laid_out layout_for first laid
limited-laid s l =
    rw (
      first-late _ _ (sized-passes _ _ _ l.sizes),
      overflowing-total _ _ _ l.sizes,
      le-ltb largest (total s.slots s.packets_per_urb s.packet_bytes) (omega (arith, limited-small s l)),
      frame-passes s.packet_bytes s.frame_bytes l.some-frame l.frame,
    )

-- The layout's values within the limits.
pub record Bounds (s : Setup) : Type 0 where
  pub stride : 56 + 12 * s.packets_per_urb ≤ (layout_for s).slot_stride
  pub small-stride : (layout_for s).slot_stride ≤ 1592
  pub headers : s.slots * (layout_for s).slot_stride ≤ (layout_for s).data_base
  pub payloads : (layout_for s).data_base + s.slots * (layout_for s).data_stride ≡ total_of s
  pub capacity : (layout_for s).slot_capacity ≤ (layout_for s).data_stride
  pub total : (layout_for s).total_bytes ≡ total_of s
  pub small-total : total_of s ≤ 1611020288

pub bounds : (s : Setup) → Limited s → Bounds s
unfolding layout_for layout_of total_of total
bounds s l =
    let p = s.packets_per_urb in
    let b = s.packet_bytes in
    let m = limited-small s l in
    record {
      stride = (stride p).holds;
      small-stride = m.header;
      headers = (base-up s.slots p).above;
      payloads = refl;
      capacity = omega (arith, stride_up p b, capacity-below p b s.frame_bytes);
      total = refl;
      small-total = m.all;
    }
