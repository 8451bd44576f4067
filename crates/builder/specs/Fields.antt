-- A builder with one of its values set. Only this file lists its fields.
use Rattle.std.specs.Prelude.{ℕ, Some, None}
use Rattle.layout.specs.declared.Underrun.{Underrun}
use Rattle.schedule.specs.declared.speed.Speed.{Speed}
use Rattle.schedule.specs.declared.Depth.{Depth}
use Rattle.builder.specs.declared.IsoOutBuilder.{IsoOutBuilder}

-- The Rust's defaults: 8 ms, Continue, silence byte 0; frames of one byte, as before request 2026-04; the rest is unknown or absent.
abbrev pub new_builder : ℕ → Speed → IsoOutBuilder
new_builder endpoint speed =
    record {
      endpoint = endpoint;
      max_packet_size = None;
      interval = None;
      speed = speed;
      packet_bytes = None;
      packets_per_urb = None;
      depth = Depth.Millis 8;
      underrun = Underrun.Continue;
      silence_byte = 0;
      frame_bytes = 1;
    }

abbrev pub with_max_packet_size : ℕ → IsoOutBuilder → IsoOutBuilder
with_max_packet_size bytes b =
    record {
      endpoint = b.endpoint;
      max_packet_size = Some bytes;
      interval = b.interval;
      speed = b.speed;
      packet_bytes = b.packet_bytes;
      packets_per_urb = b.packets_per_urb;
      depth = b.depth;
      underrun = b.underrun;
      silence_byte = b.silence_byte;
      frame_bytes = b.frame_bytes;
    }

abbrev pub with_interval : ℕ → IsoOutBuilder → IsoOutBuilder
with_interval b_interval b =
    record {
      endpoint = b.endpoint;
      max_packet_size = b.max_packet_size;
      interval = Some b_interval;
      speed = b.speed;
      packet_bytes = b.packet_bytes;
      packets_per_urb = b.packets_per_urb;
      depth = b.depth;
      underrun = b.underrun;
      silence_byte = b.silence_byte;
      frame_bytes = b.frame_bytes;
    }

abbrev pub with_speed : Speed → IsoOutBuilder → IsoOutBuilder
with_speed speed b =
    record {
      endpoint = b.endpoint;
      max_packet_size = b.max_packet_size;
      interval = b.interval;
      speed = speed;
      packet_bytes = b.packet_bytes;
      packets_per_urb = b.packets_per_urb;
      depth = b.depth;
      underrun = b.underrun;
      silence_byte = b.silence_byte;
      frame_bytes = b.frame_bytes;
    }

abbrev pub with_packet_bytes : ℕ → IsoOutBuilder → IsoOutBuilder
with_packet_bytes bytes b =
    record {
      endpoint = b.endpoint;
      max_packet_size = b.max_packet_size;
      interval = b.interval;
      speed = b.speed;
      packet_bytes = Some bytes;
      packets_per_urb = b.packets_per_urb;
      depth = b.depth;
      underrun = b.underrun;
      silence_byte = b.silence_byte;
      frame_bytes = b.frame_bytes;
    }

abbrev pub with_packets_per_urb : ℕ → IsoOutBuilder → IsoOutBuilder
with_packets_per_urb packets b =
    record {
      endpoint = b.endpoint;
      max_packet_size = b.max_packet_size;
      interval = b.interval;
      speed = b.speed;
      packet_bytes = b.packet_bytes;
      packets_per_urb = Some packets;
      depth = b.depth;
      underrun = b.underrun;
      silence_byte = b.silence_byte;
      frame_bytes = b.frame_bytes;
    }

abbrev pub with_depth : Depth → IsoOutBuilder → IsoOutBuilder
with_depth depth b =
    record {
      endpoint = b.endpoint;
      max_packet_size = b.max_packet_size;
      interval = b.interval;
      speed = b.speed;
      packet_bytes = b.packet_bytes;
      packets_per_urb = b.packets_per_urb;
      depth = depth;
      underrun = b.underrun;
      silence_byte = b.silence_byte;
      frame_bytes = b.frame_bytes;
    }

abbrev pub with_underrun : Underrun → IsoOutBuilder → IsoOutBuilder
with_underrun underrun b =
    record {
      endpoint = b.endpoint;
      max_packet_size = b.max_packet_size;
      interval = b.interval;
      speed = b.speed;
      packet_bytes = b.packet_bytes;
      packets_per_urb = b.packets_per_urb;
      depth = b.depth;
      underrun = underrun;
      silence_byte = b.silence_byte;
      frame_bytes = b.frame_bytes;
    }

abbrev pub with_silence_byte : ℕ → IsoOutBuilder → IsoOutBuilder
with_silence_byte byte b =
    record {
      endpoint = b.endpoint;
      max_packet_size = b.max_packet_size;
      interval = b.interval;
      speed = b.speed;
      packet_bytes = b.packet_bytes;
      packets_per_urb = b.packets_per_urb;
      depth = b.depth;
      underrun = b.underrun;
      silence_byte = byte;
      frame_bytes = b.frame_bytes;
    }

abbrev pub with_frame_bytes : ℕ → IsoOutBuilder → IsoOutBuilder
with_frame_bytes bytes b =
    record {
      endpoint = b.endpoint;
      max_packet_size = b.max_packet_size;
      interval = b.interval;
      speed = b.speed;
      packet_bytes = b.packet_bytes;
      packets_per_urb = b.packets_per_urb;
      depth = b.depth;
      underrun = b.underrun;
      silence_byte = b.silence_byte;
      frame_bytes = bytes;
    }
