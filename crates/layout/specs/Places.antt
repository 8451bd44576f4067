-- Where a slot's parts lie in the block.
use Rattle.std.specs.Prelude.{ℕ, ◌+◌, ◌*◌, ◌%◌, ◌^◌, ◌≤◌, ◌<◌, ◌≡◌}
use Rattle.layout.specs.declared.Setup.{Setup}
use Rattle.layout.specs.declared.Places.{Places}
use Rattle.layout.specs.Layout.{whole_frames}
use Rattle.layout.specs.Opening.{layout_for, total_of}

-- Slot i: its header at i × stride, its descriptors after the 56 bytes of the header, its payload at data base + i × data stride. A packet
-- is filled up to the whole frames that fit it.
unfoldable pub places_of : Setup → ℕ → Places
places_of s i =
    record {
      header = i * (layout_for s).slot_stride;
      descs = i * (layout_for s).slot_stride + 56;
      payload = (layout_for s).data_base + i * (layout_for s).data_stride;
      capacity = (layout_for s).slot_capacity;
      packets = (layout_for s).packets_per_urb;
      fill = whole_frames s.packet_bytes s.frame_bytes;
    }

-- What a caller knows of a slot's places: the equation, and bounds with no product of variables in them.
pub record Placed (s : Setup) (i : ℕ) (r : Places) : Type 0 where
  pub is : r ≡ places_of s i
  pub descs : r.descs ≡ r.header + 56
  pub aligned : r.header % 8 ≡ 0
  pub headers : r.header + 56 + 12 * r.packets ≤ (layout_for s).data_base
  pub payloads : (layout_for s).data_base ≤ r.payload
  pub within : r.payload + r.capacity ≤ total_of s
  pub packets : r.packets ≡ s.packets_per_urb
  pub some-packets : 0 < r.packets
  pub few-packets : r.packets ≤ 128
  pub some_bytes : 0 < s.packet_bytes
  pub few_bytes : s.packet_bytes ≤ 49152
  pub fill : r.fill ≡ whole_frames s.packet_bytes s.frame_bytes
  pub small-fill : r.fill ≤ s.packet_bytes
  pub capacity : r.capacity ≡ r.packets * r.fill
  pub some-capacity : 0 < r.capacity
  pub small-capacity : r.capacity ≤ 6291456
  pub small-payload : s.packets_per_urb * s.packet_bytes ≤ 6291456
  pub small-total : total_of s ≤ 1611020288
  pub addressed : s.base + total_of s ≤ 2 ^ 64
