-- Schedule::derive and plan: the refusals in the paper's order, and the number of URBs.
use Rattle.schedule.specs.declared.Schedule.{Schedule}
use Rattle.std.specs.Prelude.{ℕ, ◌+◌, ◌-◌, ◌*◌, ◌/◌, max, cond, ltb, eqb, Result, Ok, Err, Option, Some, None}
use Rattle.error.specs.declared.Error.{Error}
use Rattle.schedule.specs.declared.speed.Speed.{Speed}
use Rattle.schedule.specs.declared.descriptor.Endpoint.{Endpoint}
use Rattle.schedule.specs.declared.descriptor.TransferType.{TransferType}
use Rattle.schedule.specs.declared.Depth.{Depth}
use Rattle.schedule.specs.Interval.{packet_interval_us}
use Rattle.schedule.specs.Endpoint.{transfer_type, bytes_per_interval}

-- Absent packets are 1.
abbrev pub packets_or_one : Option ℕ → ℕ
packets_or_one None = 1
packets_or_one (Some p) = p

-- a / b rounded up.
abbrev pub ceil_div : ℕ → ℕ → ℕ
ceil_div a b = (a + (b - 1)) / b

-- The count given, or ceil(ceil(µs / interval) / packets), a ms being 1000 µs.
abbrev pub urbs_asked : Depth → ℕ → ℕ → ℕ
urbs_asked (Depth.Urbs n) interval packets = n
urbs_asked (Depth.Micros us) interval packets = ceil_div (ceil_div us interval) packets
urbs_asked (Depth.Millis ms) interval packets = ceil_div (ceil_div (ms * 1000) interval) packets

-- At least 2.
abbrev pub urbs_of : Depth → ℕ → ℕ → ℕ
urbs_of depth interval packets = max 2 (urbs_asked depth interval packets)

-- After 21 and 22, which the interval carries: 23 packet bytes zero, 24 packets zero, 3 packets above 128.
unfoldable pub derived_from : Speed → ℕ → Result ℕ Error → ℕ → Depth → ℕ → Result Schedule Error
derived_from speed b_interval (Err e) bytes depth packets = Err e
derived_from speed b_interval (Ok us) bytes depth packets =
    cond (eqb bytes 0) (Err Error.ZeroPacketBytes)
    (cond (eqb packets 0) (Err Error.ZeroPackets)
    (cond (ltb 128 packets) (Err Error.TooManyPackets)
    (Ok
    (record {
      speed = speed;
      b_interval = b_interval;
      packet_interval_us = us;
      packets_per_urb = packets;
      urbs = urbs_of depth us packets;
      packet_bytes = bytes;
    }))))

unfoldable pub derived : Speed → ℕ → ℕ → Depth → Option ℕ → Result Schedule Error
derived speed b_interval bytes depth packets =
    derived_from speed b_interval (packet_interval_us speed b_interval) bytes depth (packets_or_one packets)

-- 26 where the endpoint is not isochronous, then derive with its bytes per interval.
unfoldable pub planned_from : TransferType → Result Schedule Error → Result Schedule Error
planned_from TransferType.Control d = Err Error.NotIsochronous
planned_from TransferType.Isochronous d = d
planned_from TransferType.Bulk d = Err Error.NotIsochronous
planned_from TransferType.Interrupt d = Err Error.NotIsochronous

unfoldable pub planned : Speed → Endpoint → Depth → Option ℕ → Result Schedule Error
planned speed endpoint depth packets =
    planned_from (transfer_type endpoint) (derived speed endpoint.interval (bytes_per_interval endpoint) depth packets)
