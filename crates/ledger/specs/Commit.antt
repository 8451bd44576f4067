-- commit, commit_full, commit_packets (Held).
use Rattle.std.specs.Prelude.{ℕ, cond, not, List, ltb, eqb, length}
use Rattle.error.specs.declared.Error.{Error}
use Rattle.layout.specs.declared.Setup.{Setup}
use Rattle.layout.specs.Layout.{any_above}
use Rattle.layout.specs.Opening.{capacity_of}
use Rattle.ring.specs.declared.Hand.{Hand}
use Rattle.stream.specs.declared.Answer.{Answer}
use Rattle.ledger.specs.Ledger.{Ledger, with_hand}
use Rattle.ledger.specs.Slot.{lengths_of, committed}
use Rattle.ledger.specs.Step.{Next, Rule, on_block, when_held, put_back}

-- The lengths are written; hand Sending(i), answer Submit(i).
unfoldable pub send : Setup → ℕ → List ℕ → Ledger → List ℕ → Next
send s i lengths l block =
    record { ledger = with_hand (Hand.Sending i) l; answer = Answer.Submit i; lent = committed s i lengths block }

-- Refused 10 for more than the capacity: the block is untouched and the slot is returned, Idle.
unfoldable pub commit_held : ℕ → ℕ → Rule
commit_held bytes i s l block =
    cond (ltb (capacity_of s) bytes) (put_back i (Answer.Refused Error.CommitTooLong) l block)
    (send s i (lengths_of s bytes) l block)

unfoldable pub commit : ℕ → Rule
commit bytes = on_block (when_held (commit_held bytes))

-- commit_full is commit of the capacity.
unfoldable pub commit_full : Rule
commit_full s = commit (capacity_of s) s

-- commit_packets takes its list: 11 not p lengths, then 12 a length above b.
unfoldable pub packets_held : List ℕ → ℕ → Rule
packets_held lengths i s l block =
    cond (not (eqb (length lengths) s.packets_per_urb)) (put_back i (Answer.Refused Error.PacketCount) l block)
    (cond (any_above s.packet_bytes lengths) (put_back i (Answer.Refused Error.PacketTooLong) l block)
    (send s i lengths l block))

unfoldable pub commit_packets : List ℕ → Rule
commit_packets lengths = on_block (when_held (packets_held lengths))
