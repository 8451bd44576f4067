-- reaped (Idle).
use Rattle.std.specs.Prelude.{ℕ, Bool, true, false, cond, ◌||◌, List, eqb, ℤ, pos, negsuc, Option, Some, None, Result, Ok, Err}
use Rattle.error.specs.declared.Error.{Error}
use Rattle.error.specs.Errno.{from_errno}
use Rattle.error.specs.declared.ErrnoContext.{ErrnoContext}
use Rattle.layout.specs.declared.Setup.{Setup}
use Rattle.stream.specs.declared.Answer.{Answer}
use Rattle.stream.specs.declared.Completion.{Completion}
use Rattle.stream.specs.declared.IsoStats.{IsoStats}
use Rattle.ledger.specs.Ledger.{Ledger, Mark, home, out, discarded, with_totals, mark_of, returned, plus}
use Rattle.ledger.specs.Notice.{slot_of_urb, completion_of}
use Rattle.ledger.specs.Step.{Next, Rule, refused, on_block, when_idle}

-- Status 0.
unfoldable pub is_zero : ℤ → Bool
is_zero (pos n) = eqb n 0
is_zero (negsuc n) = false

-- Status -19 or -108: the device is gone. negsuc n is -(n + 1).
unfoldable pub is_gone : ℤ → Bool
is_gone (pos n) = false
is_gone (negsuc n) = eqb n 18 || eqb n 107

-- 1 for a URB with an error.
unfoldable pub urb_error : ℤ → ℕ
urb_error status = cond (is_zero status) 0 1

-- Completed + 1; transferred, short bytes and packet errors added; status not 0: URB errors + 1.
unfoldable pub one_completed : Completion → IsoStats → IsoStats
one_completed c t =
    record {
      urbs_submitted = t.urbs_submitted;
      urbs_completed = plus t.urbs_completed 1;
      bytes_submitted = t.bytes_submitted;
      bytes_transferred = plus t.bytes_transferred c.actual_bytes;
      short_bytes = plus t.short_bytes c.short_bytes;
      packet_errors = plus t.packet_errors c.packet_errors;
      urb_errors = plus t.urb_errors (urb_error c.status);
      underruns = t.underruns;
    }

-- A slot's notice, by its mark. home is Free here, since the hand is Idle: 18, nothing differs. Else it is returned, answer Completion; if
-- not discarded the counters move, and status -19 or -108 answers 13, all this having been done.
unfoldable pub noticed : Setup → Mark → ℕ → Ledger → List ℕ → Next
noticed s home i l block = refused Error.StrayNotice l block
noticed s out i l block =
    let c = completion_of s i false block in
    record {
      ledger = with_totals (one_completed c l.totals) (returned i l);
      answer = cond (is_gone c.status) (Answer.Refused Error.Disconnected) (Answer.Completed c);
      lent = block;
    }
noticed s discarded i l block =
    record { ledger = returned i l; answer = Answer.Completed (completion_of s i true block); lent = block }

-- Foreign where the address names no slot.
unfoldable pub by_address : Setup → Option ℕ → Ledger → List ℕ → Next
by_address s None l block = record { ledger = l; answer = Answer.Foreign; lent = block }
by_address s (Some i) l block = noticed s (mark_of l i) i l block

-- Errno 11: Nothing. Others by the errno; nothing differs.
unfoldable pub by_errno : ℕ → Ledger → List ℕ → Next
by_errno errno l block =
    record {
      ledger = l;
      answer = cond (eqb errno 11) Answer.Nothing (Answer.Refused (from_errno errno ErrnoContext.Other));
      lent = block;
    }

-- By the kernel's reply.
unfoldable pub reaped_idle : Result ℕ ℕ → Rule
reaped_idle (Err e) s l block = by_errno e l block
reaped_idle (Ok a) s l block = by_address s (slot_of_urb s a block) l block

unfoldable pub reaped : Result ℕ ℕ → Rule
reaped reply = on_block (when_idle (reaped_idle reply))
