-- The URB header of usbfs: struct usbdevfs_urb without its packet descriptors, 64-bit little-endian.
use Rattle.error.specs.declared.Error.{Error}
use Rattle.std.specs.Prelude.{ℕ, ◌+◌, cond, List, [], ◌∷◌, leb, ℤ, pos, length, Result, Ok, Err}
use Rattle.error.specs.declared.Error.TheVariants.{BlockLength}
use Rattle.sys.specs.declared.header.Urb.{Urb}
use Rattle.sys.specs.Bytes.{field, laid}
use Rattle.sys.specs.Signed.{signed, unsigned}

-- Byte offsets of the fields.
abbrev pub type_at : ℕ
type_at = 0

abbrev pub endpoint_at : ℕ
endpoint_at = 1

abbrev pub status_at : ℕ
status_at = 4

abbrev pub flags_at : ℕ
flags_at = 8

abbrev pub buffer_at : ℕ
buffer_at = 16

abbrev pub buffer_length_at : ℕ
buffer_length_at = 24

abbrev pub actual_length_at : ℕ
actual_length_at = 28

abbrev pub start_frame_at : ℕ
start_frame_at = 32

abbrev pub packet_count_at : ℕ
packet_count_at = 36

abbrev pub error_count_at : ℕ
error_count_at = 40

abbrev pub signal_at : ℕ
signal_at = 44

abbrev pub cookie_at : ℕ
cookie_at = 48

-- The header's size.
abbrev pub header_size : ℕ
header_size = 56

-- The widths of what stands in the header, in order; the third and the sixth are padding.
abbrev pub header_widths : List ℕ
header_widths = 1 ∷ 1 ∷ 2 ∷ 4 ∷ 4 ∷ 4 ∷ 8 ∷ 4 ∷ 4 ∷ 4 ∷ 4 ∷ 4 ∷ 4 ∷ 8 ∷ []

-- What stands there, padding as zero.
abbrev pub header_values : Urb → List ℕ
header_values u =
    u.typ ∷ u.endpoint ∷ 0 ∷ unsigned u.status ∷ u.flags ∷ 0 ∷ u.buffer ∷ unsigned u.buffer_length
    ∷ unsigned u.actual_length ∷ unsigned u.start_frame ∷ unsigned u.number_of_packets
    ∷ unsigned u.error_count ∷ u.signr ∷ u.usercontext ∷ []

-- The header's 56 bytes.
unfoldable pub header_bytes : Urb → List ℕ
header_bytes u = laid header_widths (header_values u)

-- The header that stands at an offset of a block.
unfoldable pub header_at : ℕ → List ℕ → Urb
header_at at block = record {
  typ = field (at + type_at) 1 block;
  endpoint = field (at + endpoint_at) 1 block;
  status = signed (field (at + status_at) 4 block);
  flags = field (at + flags_at) 4 block;
  buffer = field (at + buffer_at) 8 block;
  buffer_length = signed (field (at + buffer_length_at) 4 block);
  actual_length = signed (field (at + actual_length_at) 4 block);
  start_frame = signed (field (at + start_frame_at) 4 block);
  number_of_packets = signed (field (at + packet_count_at) 4 block);
  error_count = signed (field (at + error_count_at) 4 block);
  signr = field (at + signal_at) 4 block;
  usercontext = field (at + cookie_at) 8 block;
}

-- Reading it: refused with 6 where the block has no 56 bytes there.
unfoldable pub header_read : ℕ → List ℕ → Result Urb Error
header_read at block = cond (leb (at + header_size) (length block)) (Ok (header_at at block)) (Err BlockLength)

-- A slot's header as opening makes it: type 0, the endpoint, flags 2, the buffer's address and length, the packet count and the cookie; all
-- else 0.
abbrev pub slot_header : ℕ → ℕ → ℤ → ℤ → ℕ → Urb
slot_header endpoint buffer buffer_length packets cookie = record {
  typ = 0;
  endpoint = endpoint;
  status = pos 0;
  flags = 2;
  buffer = buffer;
  buffer_length = buffer_length;
  actual_length = pos 0;
  start_frame = pos 0;
  number_of_packets = packets;
  error_count = pos 0;
  signr = 0;
  usercontext = cookie;
}
