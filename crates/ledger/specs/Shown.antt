-- What is shown of a ring: by a record, and by the ledger. It is what demand 3 compares after each call, and what an image holds beside
-- opening's values.
use Rattle.std.specs.Prelude.{ℕ, Bool, List}
use Rattle.layout.specs.declared.Setup.{Setup}
use Rattle.ring.specs.declared.Hand.{Hand}
use Rattle.ring.specs.declared.SlotState.{SlotState}
use Rattle.ring.specs.Counts.{table}
use Rattle.ring.specs.Parts.{queue_of, state_of}
use Rattle.stream.specs.declared.IsoStats.{IsoStats}
use Rattle.stream.specs.declared.Stream.{Stream}
use Rattle.ledger.specs.Ledger.{Ledger, outs, state_in}

-- States, queue, out count, hand, flags, counters.
pub record Shown : Type 0 where
  pub states : List SlotState
  pub queue : List ℕ
  pub out_count : ℕ
  pub hand : Hand
  pub started : Bool
  pub armed : Bool
  pub counters : IsoStats

-- What a record shows.
unfoldable pub shown_by : Stream → Shown
shown_by r =
    record {
      states = table (state_of r.ring) r.setup.slots;
      queue = queue_of r.ring;
      out_count = r.ring.in_flight;
      hand = r.hand;
      started = r.flags.started;
      armed = r.flags.armed;
      counters = r.stats;
    }

-- What a ledger of a ring with opening's values s has.
unfoldable pub shown_in : Setup → Ledger → Shown
shown_in s l =
    record {
      states = table (state_in l) s.slots;
      queue = l.queue;
      out_count = outs l.marks;
      hand = l.hand;
      started = l.started;
      armed = l.armed;
      counters = l.totals;
    }
