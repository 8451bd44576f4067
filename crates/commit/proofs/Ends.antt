-- The ends of a commit: put back for its refusal, or sent. Each follows the rule for the slot in hand under the tests that led there.
-- Assumes nothing.
use mathlib.Core.Path.{◌≡◌}
use mathlib.Core.Bool.{true, false}
use mathlib.Core.List.{List, []}
use Prim.Native.Nat.{ℕ, ◌≤◌, ◌<◌}
use lib.ListN.{length}
use borrow.Author.Tests.{lt-ltb, le-ltb, eq-eqb, ne_eqb}
use Rattle.error.specs.declared.Error.{Error}
use Rattle.layout.specs.declared.Setup.{Setup}
use Rattle.layout.specs.Layout.{any_above}
use Rattle.layout.specs.Opening.{capacity_of}
use Rattle.ring.specs.declared.Hand.{Hand}
use Rattle.stream.specs.declared.Answer.{Answer}
use Rattle.stream.specs.declared.Reply.{Reply}
use Rattle.stream.specs.declared.Stream.{Stream}
use Rattle.ledger.specs.Slot.{lengths_of, committed}
use Rattle.ledger.specs.Commit.{send, commit_held, packets_held}
use Rattle.ledger.specs.Ledger.{Ledger, with_hand}
use Rattle.ledger.specs.Record.{view}
use Rattle.ledger.specs.Step.{Next, put_back}
use Rattle.ledger.specs.Gives.{Gives}
use Rattle.ledger.proofs.Calls.{back-lent}

module _ (s : Stream) (i : ℕ) (next : Next) (r : Reply) (block : List ℕ) where
  pub ends-back : (a : Answer) → next ≡ put_back i a (view s) block → Gives s (put_back i a (view s) []) r [] → Gives s next r block
  ends-back a rule done = rw rule (back-lent s i a (view s) r block done)

  pub ends-sent : (lengths lent : List ℕ) → next ≡ send s.setup i lengths (view s) block → Gives s (record { ledger = with_hand (Hand.Sending i) (view s); answer = Answer.Submit i; lent = [] }) r [] → lent ≡ committed s.setup i lengths block → Gives s next r lent
  unfolding send
  ends-sent lengths lent rule done written = rw rule (record { answer = done.answer; stream = done.stream; block = written })

module _ (s : Setup) (i : ℕ) (l : Ledger) (block : List ℕ) where
  module _ (bytes : ℕ) where
    pub too_long : capacity_of s < bytes → commit_held bytes i s l block ≡ put_back i (Answer.Refused Error.CommitTooLong) l block
    unfolding commit_held
    too_long h = rw (lt-ltb (capacity_of s) bytes h)

    pub fits : bytes ≤ capacity_of s → commit_held bytes i s l block ≡ send s i (lengths_of s bytes) l block
    unfolding commit_held
    fits h = rw (le-ltb (capacity_of s) bytes h)

  module _ (lengths : List ℕ) where
    pub wrong-count : (length lengths ≡ s.packets_per_urb → ⊥) → packets_held lengths i s l block ≡ put_back i (Answer.Refused Error.PacketCount) l block
    unfolding packets_held
    wrong-count h = rw (ne_eqb (length lengths) s.packets_per_urb h)

    pub one-above : length lengths ≡ s.packets_per_urb → any_above s.packet_bytes lengths ≡ true → packets_held lengths i s l block ≡ put_back i (Answer.Refused Error.PacketTooLong) l block
    unfolding packets_held
    one-above h a = rw (eq-eqb (length lengths) s.packets_per_urb h, a)

    pub none_above : length lengths ≡ s.packets_per_urb → any_above s.packet_bytes lengths ≡ false → packets_held lengths i s l block ≡ send s i lengths l block
    unfolding packets_held
    none_above h a = rw (eq-eqb (length lengths) s.packets_per_urb h, a)
