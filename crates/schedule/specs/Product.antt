-- The two durations and the memory of a schedule, on unbounded numbers: 25 where the whole product is above 2^64 - 1.
use Rattle.std.specs.Prelude.{ℕ, ◌*◌, ◌^◌, cond, ltb, Result, Ok, Err}
use Rattle.error.specs.declared.Error.{Error}
use Rattle.schedule.specs.declared.Schedule.{Schedule}

unfoldable pub product_of : ℕ → Result ℕ Error
product_of v = cond (ltb v (2 ^ 64)) (Ok v) (Err Error.ProductOverflow)

-- One URB: interval × packets.
abbrev pub urb_duration_us : Schedule → Result ℕ Error
urb_duration_us s = product_of (s.packet_interval_us * s.packets_per_urb)

-- A full ring: interval × packets × URBs.
abbrev pub in_flight_us : Schedule → Result ℕ Error
in_flight_us s = product_of (s.packet_interval_us * s.packets_per_urb * s.urbs)

-- URBs × packets × packet bytes.
abbrev pub memory_bytes : Schedule → Result ℕ Error
memory_bytes s = product_of (s.urbs * s.packets_per_urb * s.packet_bytes)
