-- A slot that was out, given back: it is not Free, so there is room in the queue, and it counts as out. The record that shows the ledger after
-- its return is the record with the slot completed. Assumes nothing.
use Rattle.std.proofs.Common.{◌≡◌, ℕ, ◌<◌, true, sym, refl, ap, ◌∙◌, arith}
use mathlib.Core.Bool.{false≢true}
use Rattle.ring.specs.declared.Hand.{Hand}
use Rattle.ring.specs.declared.Ring.{Ring}
use Rattle.ring.specs.declared.SlotState.{SlotState}
use Rattle.ring.specs.Moves.{completed}
use Rattle.ring.specs.Parts.{state_of, Tabled}
use Rattle.ring.specs.Slots.{is_out}
use Rattle.ring.proofs.Pigeonhole.{room, out_some}
use Rattle.ring.proofs.States.{out-not-free}
use Rattle.ring.proofs.Wide.{Wide}
use Rattle.stream.specs.declared.IsoStats.{IsoStats}
use Rattle.stream.specs.declared.Stream.{Stream}
use Rattle.stream.specs.Parts.{with_state}
use Rattle.stream.specs.Sound.{sound}
use Rattle.ledger.specs.Ledger.{with_queue, with_marks, with_totals, marked, returned}
use Rattle.ledger.specs.Record.{mark_for, view, stored}
use Rattle.ledger.proofs.Rings.{away, ring-completed}
use Rattle.ledger.proofs.View.{facts, own-tabled, view-mark}

out-away : (x : SlotState) → is_out x ≡ true → away (mark_for x) ≡ 1
unfolding is_out away mark_for
out-away SlotState.Free e = absurd (false≢true e)
out-away SlotState.Filling e = absurd (false≢true e)
out-away SlotState.InFlight e = refl
out-away SlotState.Discarding e = refl

module _ (s : Stream) (ok : sound s ≡ true) (wide : Wide s.ring) (i : ℕ) (below : i < s.setup.slots) (out : is_out (state_of s.ring i) ≡ true) where
  -- what the ring's complete asks
  pub room_back : (i < 256) × (s.ring.free_len < 256) × (0 < s.ring.in_flight) × Tabled s.ring × (is_out (state_of s.ring i) ≡ true)
  room_back =
      let short = room (facts s ok wide) wide i below (out-not-free (state_of s.ring i) out) in
      (omega (arith, (facts s ok wide).few), omega (arith, (facts s ok wide).few), out_some (facts s ok wide) i below out, own-tabled s ok wide, out)

  pub put_back : s.hand ≡ Hand.Idle → (stats : IsoStats) → with_state s (completed s.ring i) s.hand s.flags stats ≡ stored s (with_totals stats (returned i (view s)))
  unfolding stored with_totals returned with_queue marked with_marks view
  put_back idle stats =
      ap (λ (r : Ring). with_state s r s.hand s.flags stats)
      (sym
      (ring-completed s ok wide (with_totals stats (returned i (view s))) i below idle idle refl refl
      (ap away (view-mark s ok wide i below) ∙ out-away (state_of s.ring i) out)))
