-- An acceptance: the record with the slot InFlight, the counters and armed is the one that shows the ledger after it, which is valid, with the
-- queue as it was and the hand Idle. So the chain goes on from there. Assumes nothing.
use Rattle.std.proofs.Common.{◌≡◌, ℕ, true, List, sym, refl, ap}
use Rattle.ring.specs.declared.Hand.{Hand}
use Rattle.ring.specs.declared.Ring.{Ring}
use Rattle.ring.specs.Moves.{marked_in_flight}
use Rattle.ring.specs.Parts.{queue_of}
use Rattle.ring.specs.Slots.{holds}
use Rattle.ring.proofs.Wide.{Wide}
use Rattle.stream.specs.declared.Stream.{Stream}
use Rattle.stream.specs.Parts.{with_state}
use Rattle.stream.specs.Sound.{sound}
use Rattle.ledger.specs.Notice.{buffer_bytes}
use Rattle.ledger.specs.Ledger.{out, with_hand, with_marks, with_flags, with_totals, marked}
use Rattle.ledger.specs.Record.{view, stored}
use Rattle.ledger.specs.Submitted.{one_submitted, accepted_ledger}
use Rattle.ledger.proofs.Kept.{flagged, totalled}
use Rattle.ledger.proofs.Moves.{sent-out, held-not-free}
use Rattle.ledger.proofs.Rings.{ring-accepted}
use Rattle.ledger.proofs.Valid.{Valid, sound-valid}
use Rattle.ledger.proofs.InHand.{slot-below, alone}

module _ (s : Stream) (ok : sound s ≡ true) (wide : Wide s.ring) (i : ℕ) (held : holds s.hand i ≡ true) (block : List ℕ) where
  pub accepted-stored : with_state s (marked_in_flight s.ring i) Hand.Idle (record { started = s.flags.started; armed = true }) (one_submitted (buffer_bytes s.setup i block) s.stats) ≡ stored s (accepted_ledger s.setup i (view s) block)
  unfolding stored accepted_ledger with_hand with_totals with_flags marked with_marks view
  accepted-stored =
      ap (λ (r : Ring). with_state s r Hand.Idle (record { started = s.flags.started; armed = true }) (one_submitted (buffer_bytes s.setup i block) s.stats))
      (sym
      (ring-accepted s ok wide (accepted_ledger s.setup i (view s) block) i (slot-below s ok wide i held) refl refl refl held (alone s ok wide i held)))

  out-valid : Valid s.setup.slots (with_hand Hand.Idle (marked i out (view s)))
  unfolding view
  out-valid =
      sent-out s.setup.slots (view s) (sound-valid s ok wide) i (slot-below s ok wide i held) (alone s ok wide i held)
      (held-not-free (view s) i held)

  pub accepted-valid : Valid s.setup.slots (accepted_ledger s.setup i (view s) block)
  unfolding accepted_ledger with_hand with_totals with_flags
  accepted-valid = totalled s.setup.slots _ _ (flagged s.setup.slots (view s).started true _ out-valid)

  pub accepted-queue : (accepted_ledger s.setup i (view s) block).queue ≡ queue_of s.ring
  unfolding accepted_ledger with_hand with_totals with_flags marked with_marks view
  accepted-queue = refl

  pub accepted-hand : (accepted_ledger s.setup i (view s) block).hand ≡ Hand.Idle
  unfolding accepted_ledger with_hand
  accepted-hand = refl
