-- The slot in hand of a sound record: it is one of the n, Filling, and the only one in hand. So the queue and the out count have room for
-- it, and the record with the slot released and the hand Idle shows the ledger after its return. Assumes nothing.
use mathlib.Core.Path.{◌≡◌, refl, sym, ap, ◌∙◌}
use mathlib.Core.Bool.{true, false}
use Prim.Native.Nat.{ℕ, ◌<◌}
use native.Mathlib.Omega.{arith}
use borrow.Author.Tests.{eq-eqb}
use Rattle.ring.specs.declared.Hand.{Hand}
use Rattle.ring.specs.declared.Ring.{Ring}
use Rattle.ring.specs.declared.SlotState.{SlotState}
use Rattle.ring.specs.Moves.{returned as Ring·returned}
use Rattle.ring.specs.Parts.{state_of, Tabled}
use Rattle.ring.specs.Slots.{is_free, is_out, holds}
use Rattle.ring.proofs.Hands.{held_below, held-only}
use Rattle.ring.proofs.Pigeonhole.{room, out-room}
use Rattle.ring.proofs.States.{filling-is}
use Rattle.ring.proofs.Wide.{Wide}
use Rattle.stream.specs.declared.Stream.{Stream}
use Rattle.stream.specs.Parts.{with_state}
use Rattle.stream.specs.Sound.{sound}
use Rattle.ledger.specs.Ledger.{with_hand, with_queue, with_marks, marked, returned}
use Rattle.ledger.specs.Record.{view, stored}
use Rattle.ledger.proofs.Rings.{ring-back}
use Rattle.ledger.proofs.View.{facts, own-tabled}

pub holding : (h : Hand) (i : ℕ) → h ≡ Hand.Held i → holds h i ≡ true
unfolding holds
holding h i e = rw (e, eq-eqb i i refl)

filling-not-free : is_free SlotState.Filling ≡ false
unfolding is_free
filling-not-free = refl

filling-not-out : is_out SlotState.Filling ≡ false
unfolding is_out
filling-not-out = refl

module _ (s : Stream) (ok : sound s ≡ true) (wide : Wide s.ring) (i : ℕ) (held : holds s.hand i ≡ true) where
  pub slot-below : i < s.setup.slots
  slot-below = held_below s.setup.slots s.hand i (facts s ok wide).within held

  pub alone : (j : ℕ) → (j ≡ i → ⊥) → holds s.hand j ≡ false
  alone = held-only s.hand i held

  filling : state_of s.ring i ≡ SlotState.Filling
  filling = filling-is (state_of s.ring i) ((facts s ok wide).held i slot-below ∙ held)

  -- what release asks
  pub queue-room : (i < 256) × (s.ring.free_len < 256) × Tabled s.ring × (state_of s.ring i ≡ SlotState.Filling)
  queue-room =
      let n = (facts s ok wide).few in
      let short = room (facts s ok wide) wide i slot-below (ap is_free filling ∙ filling-not-free) in
      (omega (arith, n, slot-below), omega (arith, n, short), own-tabled s ok wide, filling)

  -- what mark_in_flight asks
  pub out-count-room : (i < 256) × (s.ring.in_flight < 256) × Tabled s.ring × (state_of s.ring i ≡ SlotState.Filling)
  out-count-room =
      let n = (facts s ok wide).few in
      let short = out-room (facts s ok wide) i slot-below (ap is_out filling ∙ filling-not-out) in
      (omega (arith, n, slot-below), omega (arith, n, short), own-tabled s ok wide, filling)

  -- the slot released and the hand Idle
  pub returned-stored : with_state s (Ring·returned s.ring i) Hand.Idle s.flags s.stats ≡ stored s (with_hand Hand.Idle (returned i (view s)))
  unfolding stored with_hand returned with_queue marked with_marks view
  returned-stored =
      ap (λ (r : Ring). with_state s r Hand.Idle s.flags s.stats)
      (sym (ring-back s ok wide (with_hand Hand.Idle (returned i (view s))) i slot-below refl refl refl held alone))
