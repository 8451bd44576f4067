-- turn (Idle; the middle of the Rust's next_slot).
use Rattle.std.specs.Prelude.{ℕ, Bool, false, cond, ◌&&◌, List, [], ◌∷◌, eqb}
use Rattle.error.specs.declared.Error.{Error}
use Rattle.layout.specs.declared.Setup.{Setup}
use Rattle.layout.specs.declared.Underrun.{Underrun}
use Rattle.layout.specs.Opening.{capacity_of}
use Rattle.ring.specs.declared.Hand.{Hand}
use Rattle.stream.specs.declared.Answer.{Answer}
use Rattle.stream.specs.declared.IsoStats.{IsoStats}
use Rattle.ledger.specs.Ledger.{Ledger, with_hand, with_queue, with_flags, with_totals, outs, plus}
use Rattle.ledger.specs.Slot.{lengths_of, committed, silenced}
use Rattle.ledger.specs.Step.{Next, Rule, refused, on_block, when_idle}

-- Front slot taken, Held(i), answer Slot(i); empty queue: Idle, Nothing.
unfoldable pub take_front : List ℕ → Ledger → List ℕ → Next
take_front [] l block = record { ledger = with_hand Hand.Idle l; answer = Answer.Nothing; lent = block }
take_front (i ∷ rest) l block =
    record { ledger = with_hand (Hand.Held i) (with_queue rest l); answer = Answer.Slot i; lent = block }

-- Front slot taken, its capacity filled with the silence byte, full lengths set, Silent(i, left), answer Submit(i); empty queue: Idle,
-- Nothing.
unfoldable pub silence_front : Setup → ℕ → List ℕ → Ledger → List ℕ → Next
silence_front s left [] l block = take_front [] l block
silence_front s left (i ∷ rest) l block =
    record {
      ledger = with_hand (Hand.Silent i left) (with_queue rest l);
      answer = Answer.Submit i;
      lent = committed s i (lengths_of s (capacity_of s)) (silenced s i block);
    }

-- Started, armed and none out.
unfoldable pub drained : Ledger → Bool
drained l = l.started && l.armed && eqb (outs l.marks) 0

-- The totals with one more underrun.
unfoldable pub one_underrun : IsoStats → IsoStats
one_underrun t =
    record {
      urbs_submitted = t.urbs_submitted;
      urbs_completed = t.urbs_completed;
      bytes_submitted = t.bytes_submitted;
      bytes_transferred = t.bytes_transferred;
      short_bytes = t.short_bytes;
      packet_errors = t.packet_errors;
      urb_errors = t.urb_errors;
      underruns = plus t.underruns 1;
    }

-- Armed off, underruns + 1.
unfoldable pub underrun : Ledger → Ledger
underrun l = with_totals (one_underrun l.totals) (with_flags l.started false l)

-- By the policy: Error gives 19 with the count; FillSilence: the front slot silenced, left 1; Continue: as without an underrun.
unfoldable pub on_underrun : Underrun → Rule
on_underrun Underrun.Continue s l block = take_front l.queue l block
on_underrun Underrun.FillSilence s l block = silence_front s 1 l.queue l block
on_underrun Underrun.Error s l block = refused (Error.Underrun l.totals.underruns) l block

unfoldable pub turn_idle : Rule
turn_idle s l block = cond (drained l) (on_underrun s.underrun s (underrun l) block) (take_front l.queue l block)

unfoldable pub turn : Rule
turn = on_block (when_idle turn_idle)
