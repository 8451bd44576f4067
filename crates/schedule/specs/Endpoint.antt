-- An endpoint descriptor's fields, by USB 2.0, table 9-13.
use Rattle.std.specs.Prelude.{ℕ, ◌+◌, ◌-◌, ◌*◌, ◌/◌, ◌%◌, ◌^◌, cond, eqb}
use Rattle.schedule.specs.declared.descriptor.Endpoint.{Endpoint}
use Rattle.schedule.specs.declared.descriptor.Direction.{Direction}
use Rattle.schedule.specs.declared.descriptor.TransferType.{TransferType}

-- Bits high..low of a number.
abbrev pub bits : ℕ → ℕ → ℕ → ℕ
bits high low v = v / 2 ^ low % 2 ^ (high + 1 - low)

-- Bit 7 of the address.
abbrev pub direction_of : Endpoint → Direction
direction_of e = cond (eqb (bits 7 7 e.address) 1) Direction.In Direction.Out

-- The low two bits of the attributes.
abbrev pub transfer_type : Endpoint → TransferType
transfer_type e =
    cond (eqb (bits 1 0 e.attributes) 0) TransferType.Control
    (cond (eqb (bits 1 0 e.attributes) 1) TransferType.Isochronous
    (cond (eqb (bits 1 0 e.attributes) 2) TransferType.Bulk
    TransferType.Interrupt))

-- Low 11 bits of wMaxPacketSize times (1 + bits 12..11). Value 3 there is reserved in USB 2.0; the Rust's times 4 is kept.
abbrev pub bytes_per_interval : Endpoint → ℕ
bytes_per_interval e = bits 10 0 e.max_packet_size * (1 + bits 12 11 e.max_packet_size)
