-- A packet's descriptor: struct usbdevfs_iso_packet_desc, three unsigned numbers of 4 bytes.
use Rattle.error.specs.declared.Error.{Error}
use Rattle.std.specs.Prelude.{ℕ, ◌+◌, cond, List, [], ◌∷◌, leb, length, Result, Ok, Err}
use Rattle.error.specs.declared.Error.TheVariants.{BlockLength}
use Rattle.sys.specs.declared.descriptor.IsoPacketDesc.{IsoPacketDesc}
use Rattle.sys.specs.Bytes.{field, laid}

-- Byte offsets of the fields.
abbrev pub length_at : ℕ
length_at = 0

abbrev pub desc_actual_length_at : ℕ
desc_actual_length_at = 4

abbrev pub desc_status_at : ℕ
desc_status_at = 8

-- The descriptor's size.
abbrev pub desc_size : ℕ
desc_size = 12

-- The widths of its fields, in order.
abbrev pub desc_widths : List ℕ
desc_widths = 4 ∷ 4 ∷ 4 ∷ []

-- Its fields, in order.
abbrev pub desc_values : IsoPacketDesc → List ℕ
desc_values d = d.length ∷ d.actual_length ∷ d.status ∷ []

-- The descriptor's 12 bytes.
unfoldable pub desc_bytes : IsoPacketDesc → List ℕ
desc_bytes d = laid desc_widths (desc_values d)

-- The descriptor that stands at an offset of a block.
unfoldable pub desc_at : ℕ → List ℕ → IsoPacketDesc
desc_at at block = record {
  length = field (at + length_at) 4 block;
  actual_length = field (at + desc_actual_length_at) 4 block;
  status = field (at + desc_status_at) 4 block;
}

-- Reading it: refused with 6 where the block has no 12 bytes there.
unfoldable pub desc_read : ℕ → List ℕ → Result IsoPacketDesc Error
desc_read at block = cond (leb (at + desc_size) (length block)) (Ok (desc_at at block)) (Err BlockLength)

-- A packet that is to be sent: its length, actual 0, status 0.
abbrev pub packet_of : ℕ → IsoPacketDesc
packet_of bytes = record { length = bytes; actual_length = 0; status = 0 }
