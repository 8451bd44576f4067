-- The record that opening makes, and the one that comes with its refusal.
use Rattle.std.specs.Prelude.{false, []}
use Rattle.layout.specs.declared.Setup.{Setup}
use Rattle.layout.specs.Numbers.{setup_from}
use Rattle.ring.specs.declared.Hand.{Hand}
use Rattle.ring.specs.Parts.{free_ring}
use Rattle.stream.specs.declared.Stream.{Stream}
use Rattle.stream.specs.Parts.{no_stats}

-- Opening's values, queue 0..n-1, hand Idle, not started, not armed, counters 0.
unfoldable pub opened_stream : Setup → Stream
opened_stream s =
    record {
      setup = s;
      ring = free_ring s.slots;
      hand = Hand.Idle;
      flags = record { started = false; armed = false };
      stats = no_stats;
    }

-- A setup of zeros, which opening refuses.
unfoldable pub no_setup : Setup
no_setup = setup_from []

-- The record that comes with a refusal: that of no slots. Every call gives 8 on it.
unfoldable pub no_stream : Stream
no_stream = opened_stream no_setup
