-- What the calls read from the block: a slot's buffer length, the slot that an address names, and the figures of a completion.
use Rattle.std.specs.Prelude.{ℕ, zero, suc, ◌+◌, ◌-◌, ◌*◌, ◌/◌, ◌%◌, Bool, cond, not, List, [], ◌∷◌, ltb, leb, eqb, Option, Some, None}
use Rattle.sys.specs.Signed.{non_negative}
use Rattle.sys.specs.Header.{header_at}
use Rattle.sys.specs.Descriptor.{desc_size, desc_at}
use Rattle.sys.specs.declared.descriptor.IsoPacketDesc.{IsoPacketDesc}
use Rattle.layout.specs.declared.Setup.{Setup}
use Rattle.layout.specs.Opening.{masked_of, layout_for}
use Rattle.layout.specs.Places.{places_of}
use Rattle.stream.specs.declared.Completion.{Completion}

-- The buffer length in the block, or 0 where it is negative.
unfoldable pub buffer_bytes : Setup → ℕ → List ℕ → ℕ
buffer_bytes s i block = non_negative (header_at (places_of s i).header block).buffer_length

-- The cookie of slot i.
unfoldable pub cookie_of : Setup → ℕ → List ℕ → ℕ
cookie_of s i block = (header_at (places_of s i).header block).usercontext

-- An offset from the base names a slot unless it is at or past n × stride, not a multiple of the stride, or the cookie there isn't that
-- index.
unfoldable pub slot_at : Setup → ℕ → List ℕ → Option ℕ
slot_at s offset block =
    let stride = (layout_for s).slot_stride in
    let i = offset / stride in
    cond (leb (s.slots * stride) offset) None
    (cond (not (eqb (offset % stride) 0)) None
    (cond (eqb (cookie_of s i block) i) (Some i) None))

-- The slot that an address names: offset from the base, both masked; none below the base.
unfoldable pub slot_of_urb : Setup → ℕ → List ℕ → Option ℕ
slot_of_urb s address block =
    let base = masked_of s.tagged s.base in
    let at = masked_of s.tagged address in
    cond (ltb at base) None (slot_at s (at - base) block)

-- The p descriptors that stand at an offset.
unfoldable pub packets_at : ℕ → ℕ → List ℕ → List IsoPacketDesc
packets_at zero at block = []
packets_at (suc p) at block = desc_at at block ∷ packets_at p (at + desc_size) block

-- The sum of lengths.
unfoldable pub requested : List IsoPacketDesc → ℕ
requested [] = 0
requested (d ∷ rest) = d.length + requested rest

-- The sum of max(0, length - actual).
unfoldable pub short : List IsoPacketDesc → ℕ
short [] = 0
short (d ∷ rest) = (d.length - d.actual_length) + short rest

-- The six figures of a completion, from slot i's header and descriptors.
unfoldable pub completion_of : Setup → ℕ → Bool → List ℕ → Completion
completion_of s i discarded block =
    let at = places_of s i in
    let header = header_at at.header block in
    let packets = packets_at s.packets_per_urb at.descs block in
    record {
      status = header.status;
      actual_bytes = non_negative header.actual_length;
      requested_bytes = requested packets;
      short_bytes = short packets;
      packet_errors = non_negative header.error_count;
      was_discarded = discarded;
    }
