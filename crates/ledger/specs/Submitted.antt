-- submitted (Sending, Silent).
use Rattle.std.specs.Prelude.{ℕ, zero, suc, ◌*◌, true, List, Result, Ok, Err}
use Rattle.error.specs.declared.Error.{Error}
use Rattle.error.specs.Errno.{from_errno}
use Rattle.error.specs.declared.ErrnoContext.{ErrnoContext}
use Rattle.layout.specs.declared.Setup.{Setup}
use Rattle.ring.specs.declared.Hand.{Hand}
use Rattle.stream.specs.declared.Answer.{Answer}
use Rattle.stream.specs.declared.IsoStats.{IsoStats}
use Rattle.ledger.specs.Ledger.{Ledger, out, with_hand, with_flags, with_totals, marked, plus}
use Rattle.ledger.specs.Notice.{buffer_bytes}
use Rattle.ledger.specs.Step.{Next, Rule, refused, on_block, put_back}
use Rattle.ledger.specs.Turn.{take_front, silence_front}

-- The totals with one more submission of that many bytes.
unfoldable pub one_submitted : ℕ → IsoStats → IsoStats
one_submitted bytes t =
    record {
      urbs_submitted = plus t.urbs_submitted 1;
      urbs_completed = t.urbs_completed;
      bytes_submitted = plus t.bytes_submitted bytes;
      bytes_transferred = t.bytes_transferred;
      short_bytes = t.short_bytes;
      packet_errors = t.packet_errors;
      urb_errors = t.urb_errors;
      underruns = t.underruns;
    }

-- InFlight, submitted + 1, bytes submitted + max(0, buffer length in the block), armed. Hand Idle.
unfoldable pub accepted_ledger : Setup → ℕ → Ledger → List ℕ → Ledger
accepted_ledger s i l block =
    with_hand Hand.Idle (with_totals (one_submitted (buffer_bytes s i block) l.totals) (with_flags l.started true (marked i out l)))

-- Slot returned, Idle, then 13 to 17 by the errno; 14 with n × p × b.
unfoldable pub submit_failed : Setup → ℕ → ℕ → Ledger → List ℕ → Next
submit_failed s i errno l block =
    put_back i
    (Answer.Refused (from_errno errno (ErrnoContext.Submit (s.slots * s.packets_per_urb * s.packet_bytes))))
    l block

-- From Sending: Idle, Done.
unfoldable pub sent : Result (Unit {0}) ℕ → ℕ → Rule
sent (Ok tt) i s l block =
    record { ledger = accepted_ledger s i l block; answer = Answer.Done; lent = block }
sent (Err e) i s l block = submit_failed s i e l block

-- From Silent left 1: next front slot silenced with left 0; left 0 or empty queue: as turn's taking.
unfoldable pub chained : Setup → ℕ → Ledger → List ℕ → Next
chained s zero l block = take_front l.queue l block
chained s (suc more) l block = silence_front s more l.queue l block

unfoldable pub silent : Result (Unit {0}) ℕ → ℕ → ℕ → Rule
silent (Ok tt) i left s l block = chained s left (accepted_ledger s i l block) block
silent (Err e) i left s l block = submit_failed s i e l block

-- By the hand; 9 for a wrong one.
unfoldable pub by_sending : Result (Unit {0}) ℕ → Hand → Rule
by_sending reply Hand.Idle s l block = refused Error.WrongHand l block
by_sending reply (Hand.Held i) s l block = refused Error.WrongHand l block
by_sending reply (Hand.Sending i) s l block = sent reply i s l block
by_sending reply (Hand.Silent i left) s l block = silent reply i left s l block

unfoldable pub submitted_hand : Result (Unit {0}) ℕ → Rule
submitted_hand reply s l block = by_sending reply l.hand s l block

unfoldable pub submitted : Result (Unit {0}) ℕ → Rule
submitted reply = on_block (submitted_hand reply)
