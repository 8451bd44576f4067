-- IsoOutBuilder::build: 27 interval unknown, 28 packet size unknown, 29 packet bytes above it, 30 endpoint bit 7 set, derive's,
-- opening's, in this order.
use Rattle.layout.specs.declared.RingLayout.{RingLayout}
use Rattle.std.specs.Prelude.{ℕ, Bool, cond, List, ltb, eqb, length, Result, Ok, Err, Option, Some, None}
use Rattle.error.specs.declared.Error.{Error}
use Rattle.layout.specs.declared.Setup.{Setup}
use Rattle.opening.specs.Refusals.{opens}
use Rattle.opening.specs.Opened.{no_stream}
use Rattle.opening.specs.Open.{open_outcome}
use Rattle.schedule.specs.declared.Schedule.{Schedule}
use Rattle.schedule.specs.Derive.{derived}
use Rattle.schedule.specs.Endpoint.{bits}
use Rattle.stream.specs.declared.Stream.{Stream}
use Rattle.builder.specs.declared.IsoOutBuilder.{IsoOutBuilder}

-- Absent packet bytes are the packet size.
abbrev pub bytes_or : Option ℕ → ℕ → ℕ
bytes_or None size = size
bytes_or (Some bytes) size = bytes

-- 29 packet bytes above the packet size, 30 endpoint bit 7 set, derive's.
unfoldable pub sized_plan : IsoOutBuilder → ℕ → ℕ → Result Schedule Error
sized_plan b b_interval size =
    cond (ltb size (bytes_or b.packet_bytes size)) (Err Error.PacketBytesTooLarge)
    (cond (eqb (bits 7 7 b.endpoint) 1) (Err Error.InvalidEndpoint)
    (derived b.speed b_interval (bytes_or b.packet_bytes size) b.depth b.packets_per_urb))

-- 28 packet size unknown, then as above.
abbrev pub plan_with_size : IsoOutBuilder → ℕ → Option ℕ → Result Schedule Error
plan_with_size b b_interval None = Err Error.PacketSizeUnknown
plan_with_size b b_interval (Some size) = sized_plan b b_interval size

-- 27 interval unknown, then as above.
abbrev pub plan_with_interval : IsoOutBuilder → Option ℕ → Result Schedule Error
plan_with_interval b None = Err Error.IntervalUnknown
plan_with_interval b (Some b_interval) = plan_with_size b b_interval b.max_packet_size

unfoldable pub plan_of : IsoOutBuilder → Result Schedule Error
plan_of b = plan_with_interval b b.interval

-- Opening's values: the schedule's URBs are the slots.
abbrev pub setup_of : IsoOutBuilder → Schedule → ℕ → Bool → Setup
setup_of b schedule base tagged =
    record {
      slots = schedule.urbs;
      packets_per_urb = schedule.packets_per_urb;
      packet_bytes = schedule.packet_bytes;
      endpoint = b.endpoint;
      underrun = b.underrun;
      silence_byte = b.silence_byte;
      base = base;
      tagged = tagged;
      frame_bytes = b.frame_bytes;
    }

-- Opening's refusal, or the schedule.
unfoldable pub opening_answer : Result RingLayout Error → Schedule → Result Schedule Error
opening_answer (Err e) schedule = Err e
opening_answer (Ok layout) schedule = Ok schedule

-- All that build gives: its answer, the record and the block.
pub record BuildResult : Type 0 where
  pub answer : Result Schedule Error
  pub stream : Stream
  pub block : List ℕ

-- Refused before opening: the record of no slots, block untouched. Else opening's answer, record and block.
unfoldable pub built_or : Result Schedule Error → IsoOutBuilder → ℕ → Bool → List ℕ → BuildResult
built_or (Err e) b base tagged block = record { answer = Err e; stream = no_stream; block = block }
built_or (Ok schedule) b base tagged block =
    record {
      answer = opening_answer (opens (setup_of b schedule base tagged) (length block)) schedule;
      stream = (open_outcome (setup_of b schedule base tagged) block).stream;
      block = (open_outcome (setup_of b schedule base tagged) block).block;
    }

-- What build does with a builder, the block's base, whether addresses carry a tag, and the block.
unfoldable pub build_outcome : IsoOutBuilder → ℕ → Bool → List ℕ → BuildResult
build_outcome b base tagged block = built_or (plan_of b) b base tagged block
