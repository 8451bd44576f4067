-- Counters at zero, and a record with all but opening's values replaced.
use Rattle.ring.specs.declared.Hand.{Hand}
use Rattle.ring.specs.declared.Ring.{Ring}
use Rattle.stream.specs.declared.Flags.{Flags}
use Rattle.stream.specs.declared.IsoStats.{IsoStats}
use Rattle.stream.specs.declared.Stream.{Stream}

-- All counters zero.
abbrev pub no_stats : IsoStats
no_stats =
    record {
      urbs_submitted = 0;
      urbs_completed = 0;
      bytes_submitted = 0;
      bytes_transferred = 0;
      short_bytes = 0;
      packet_errors = 0;
      urb_errors = 0;
      underruns = 0;
    }

-- The record with all but opening's values replaced.
unfoldable pub with_state : Stream → Ring → Hand → Flags → IsoStats → Stream
with_state s ring hand flags stats = record { setup = s.setup; ring = ring; hand = hand; flags = flags; stats = stats }
