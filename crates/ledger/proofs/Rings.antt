-- The ring that shows a ledger after one move is the ring after that move: taking, returning, accepting, completing.
-- Assumes nothing.
use mathlib.Core.Path.{◌≡◌, refl, sym, ap, ap₂, ◌∙◌}
use mathlib.Core.Bool.{true, false}
use mathlib.Core.List.{List, [], ◌∷◌, ◌++◌}
use Prim.Native.Nat.{ℕ, zero, suc, ◌+◌, ◌-◌, ◌≤◌, ◌<◌}
use native.Mathlib.Omega.{arith}
use lib.Dec.{eqb}
use lib.ListN.{length, get_or, set}
use lib.Seq.{get_or-set_same, get_or-set_other}
use borrow.Author.Tests.{eq-eqb, ne_eqb}
use Rattle.ring.specs.declared.Hand.{Hand}
use Rattle.ring.specs.declared.Ring.{Ring}
use Rattle.ring.specs.declared.SlotState.{SlotState}
use Rattle.ring.specs.Moves.{returned, marked_in_flight, completed}
use Rattle.ring.specs.Parts.{queue_of, state_of, with_queue, with_out, with_masks, with_state}
use Rattle.ring.specs.Slots.{holds}
use Rattle.ring.proofs.Pigeonhole.{front-free}
use Rattle.ring.proofs.Queue.{queue-kept}
use Rattle.ring.proofs.Wide.{Wide}
use Rattle.stream.specs.declared.Stream.{Stream}
use Rattle.stream.specs.Sound.{sound}
use Rattle.ledger.specs.Ledger.{Ledger, Mark, home, out, discarded, mark_of, outs, slot_state, state_in}
use Rattle.ledger.specs.Record.{view, ring_for}
use Rattle.ledger.proofs.View.{facts, view-marks-long, view-state, view-outs, one-changed, none-changed}
use Rattle.ledger.proofs.Valid.{sound-valid}

-- what a mark adds to the out count
unfoldable pub away : Mark → ℕ
away home = 0
away out = 1
away discarded = 1

pub outs-set : (ms : List Mark) (i : ℕ) (m : Mark) → i < length ms → outs (set ms i m) + away (get_or ms i home) ≡ outs ms + away m
unfolding outs away
outs-set [] i m h = absurd (omega arith)
outs-set (home ∷ ms) zero home h = refl
outs-set (home ∷ ms) zero out h = omega arith
outs-set (home ∷ ms) zero discarded h = omega arith
outs-set (out ∷ ms) zero home h = omega arith
outs-set (out ∷ ms) zero out h = refl
outs-set (out ∷ ms) zero discarded h = refl
outs-set (discarded ∷ ms) zero home h = omega arith
outs-set (discarded ∷ ms) zero out h = refl
outs-set (discarded ∷ ms) zero discarded h = refl
outs-set (home ∷ ms) (suc i) m h = outs-set ms i m (omega arith)
outs-set (out ∷ ms) (suc i) m h = omega (arith, outs-set ms i m (omega arith))
outs-set (discarded ∷ ms) (suc i) m h = omega (arith, outs-set ms i m (omega arith))

-- the out count as it was
settle : (r : Ring) (i : ℕ) (q q' : List ℕ) (x x' : SlotState) (k : ℕ) → q ≡ q' → x ≡ x' → k ≡ r.in_flight → with_out (with_state (with_queue r q) i x) k ≡ with_state (with_queue r q') i x'
unfolding with_out with_state with_masks with_queue state_of
settle r i q q' x x' k a b c = rw (a, b, c)

settle-out : (r : Ring) (i : ℕ) (q : List ℕ) (k : ℕ) → r.free_len ≤ 256 → Wide r → q ≡ queue_of r → k ≡ r.in_flight + 1 → with_out (with_state (with_queue r q) i (slot_state false out)) k ≡ marked_in_flight r i
unfolding marked_in_flight with_out with_state with_masks state_of slot_state
settle-out r i q k short wide a b =
    rw (a, queue-kept r (omega (arith, wide.places)), b)

settle-less : (r : Ring) (i : ℕ) (q : List ℕ) (k : ℕ) → q ≡ queue_of r ++ (i ∷ []) → k ≡ r.in_flight - 1 → with_out (with_state (with_queue r q) i (slot_state false home)) k ≡ completed r i
unfolding completed returned with_out with_state with_masks with_queue queue_of state_of slot_state
settle-less r i q k a b = rw (a, b)

state-home : slot_state false home ≡ SlotState.Free
unfolding slot_state
state-home = refl

held-filling : (l : Ledger) (i : ℕ) → holds l.hand i ≡ true → state_in l i ≡ SlotState.Filling
unfolding state_in slot_state
held-filling l i e = rw e

module _ (s : Stream) (ok : sound s ≡ true) (wide : Wide s.ring) where
  -- a slot that neither hand holds, and whose mark stays, stays in its state
  same-state : (l : Ledger) (j : ℕ) → j < s.setup.slots → holds l.hand j ≡ false → holds s.hand j ≡ false → mark_of l j ≡ mark_of (view s) j → state_in l j ≡ state_of s.ring j
  unfolding state_in view
  same-state l j h p q e = ap₂ slot_state (p ∙ sym q) e ∙ view-state s ok wide j h

  pub unheld : (h : Hand) → h ≡ Hand.Idle → (j : ℕ) → holds h j ≡ false
  unfolding holds
  unheld h e j = rw e

  marks-same : (l : Ledger) → l.marks ≡ (view s).marks → (j : ℕ) → mark_of l j ≡ mark_of (view s) j
  unfolding mark_of
  marks-same l e j = ap (λ (m : List Mark). get_or m j home) e

  marks-other : (l : Ledger) (i : ℕ) (m : Mark) → l.marks ≡ set (view s).marks i m → (j : ℕ) → (j ≡ i → ⊥) → mark_of l j ≡ mark_of (view s) j
  unfolding mark_of
  marks-other l i m e j d = ap (λ (ms : List Mark). get_or ms j home) e ∙ get_or-set_other (view s).marks i j m home d

  -- a slot that no hand holds is in the state of its mark
  state-of-mark : (l : Ledger) (i : ℕ) (m : Mark) → i < s.setup.slots → l.hand ≡ Hand.Idle → l.marks ≡ set (view s).marks i m → state_in l i ≡ slot_state false m
  unfolding state_in mark_of
  state-of-mark l i m h idle e =
      ap₂ slot_state (unheld l.hand idle i)
      (ap (λ (ms : List Mark). get_or ms i home) e ∙ get_or-set_same (view s).marks i m home (rw (view-marks-long s ok wide) h))

  -- the out count after one mark was set
  outs-after : (l : Ledger) (i : ℕ) (m : Mark) → i < s.setup.slots → l.marks ≡ set (view s).marks i m → outs l.marks + away (mark_of (view s) i) ≡ s.ring.in_flight + away m
  unfolding mark_of
  outs-after l i m h e =
      ap (λ (ms : List Mark). outs ms + away (get_or (view s).marks i home)) e ∙
      outs-set (view s).marks i m (rw (view-marks-long s ok wide) h) ∙
      ap (λ (k : ℕ). k + away m) (view-outs s ok wide)

  -- a slot in hand is at home
  hand-home : (i : ℕ) → i < s.setup.slots → holds s.hand i ≡ true → mark_of (view s) i ≡ home
  unfolding view
  hand-home i h e = (sound-valid s ok wide).at_home i h e

  -- the front slot into a hand
  pub ring-taken : (l : Ledger) (i : ℕ) (rest : List ℕ) → queue_of s.ring ≡ i ∷ rest → s.hand ≡ Hand.Idle → l.queue ≡ rest → l.marks ≡ (view s).marks → ((j : ℕ) → holds l.hand j ≡ eqb i j) → ring_for s.setup.slots s.ring l ≡ with_state (with_queue s.ring rest) i SlotState.Filling
  ring-taken l i rest q idle lq lm held =
      one-changed s ok wide l i (front-free (facts s ok wide) i rest q).0 others ∙
      settle s.ring i _ _ _ _ _ lq filling (ap outs lm ∙ view-outs s ok wide)
    where
      others : (j : ℕ) → j < s.setup.slots → (j ≡ i → ⊥) → state_in l j ≡ state_of s.ring j
      others j h d =
          same-state l j h (held j ∙ ne_eqb i j (λ z. d (sym z))) (unheld s.hand idle j) (marks-same l lm j)

      filling : state_in l i ≡ SlotState.Filling
      filling = held-filling l i (held i ∙ eq-eqb i i refl)

  -- slot i alone has another mark, and no other slot was or is in hand
  module _ (l : Ledger) (i : ℕ) (below : i < s.setup.slots) (m : Mark) (idle : l.hand ≡ Hand.Idle) (lm : l.marks ≡ set (view s).marks i m) (alone : (j : ℕ) → (j ≡ i → ⊥) → holds s.hand j ≡ false) where
    ring-marked : ring_for s.setup.slots s.ring l ≡ with_out (with_state (with_queue s.ring l.queue) i (slot_state false m)) (outs l.marks)
    ring-marked =
        one-changed s ok wide l i below
        (λ j h d. same-state l j h (unheld l.hand idle j) (alone j d) (marks-other l i m lm j d)) ∙
        ap (λ (x : SlotState). with_out (with_state (with_queue s.ring l.queue) i x) (outs l.marks))
        (state-of-mark l i m below idle lm)

  -- the hand's slot returned
  pub ring-back : (l : Ledger) (i : ℕ) → i < s.setup.slots → l.hand ≡ Hand.Idle → l.queue ≡ queue_of s.ring ++ (i ∷ []) → l.marks ≡ set (view s).marks i home → holds s.hand i ≡ true → ((j : ℕ) → (j ≡ i → ⊥) → holds s.hand j ≡ false) → ring_for s.setup.slots s.ring l ≡ returned s.ring i
  unfolding returned away
  ring-back l i below idle lq lm held alone =
      ring-marked l i below home idle lm alone ∙
      settle s.ring i _ _ _ _ _ lq state-home (omega (arith, outs-after l i home below lm, ap away (hand-home i below held)))

  -- the hand's slot accepted by the kernel
  pub ring-accepted : (l : Ledger) (i : ℕ) → i < s.setup.slots → l.hand ≡ Hand.Idle → l.queue ≡ queue_of s.ring → l.marks ≡ set (view s).marks i out → holds s.hand i ≡ true → ((j : ℕ) → (j ≡ i → ⊥) → holds s.hand j ≡ false) → ring_for s.setup.slots s.ring l ≡ marked_in_flight s.ring i
  unfolding away
  ring-accepted l i below idle lq lm held alone =
      ring-marked l i below out idle lm alone ∙
      settle-out s.ring i _ _ (facts s ok wide).short wide lq (omega (arith, outs-after l i out below lm, ap away (hand-home i below held)))

  -- a slot that was out given back by the kernel
  pub ring-completed : (l : Ledger) (i : ℕ) → i < s.setup.slots → s.hand ≡ Hand.Idle → l.hand ≡ Hand.Idle → l.queue ≡ queue_of s.ring ++ (i ∷ []) → l.marks ≡ set (view s).marks i home → away (mark_of (view s) i) ≡ 1 → ring_for s.setup.slots s.ring l ≡ completed s.ring i
  unfolding away
  ring-completed l i below was idle lq lm gone =
      ring-marked l i below home idle lm (λ j d. unheld s.hand was j) ∙
      settle-less s.ring i _ _ lq (omega (arith, outs-after l i home below lm))

  -- another hand with the same slot, the same queue and the same marks: the record's own ring
  pub ring-kept : (l : Ledger) → ((j : ℕ) → holds l.hand j ≡ holds s.hand j) → l.queue ≡ queue_of s.ring → l.marks ≡ (view s).marks → ring_for s.setup.slots s.ring l ≡ s.ring
  unfolding with_out state_in mark_of view
  ring-kept l lh lq lm =
      none-changed s ok wide l
      (λ j h. ap₂ slot_state (lh j) (ap (λ (m : List Mark). get_or m j home) lm) ∙ view-state s ok wide j h) ∙
      ap₂ (λ (q : List ℕ) (k : ℕ). with_out (with_queue s.ring q) k) lq (ap outs lm ∙ view-outs s ok wide) ∙
      ap (λ (r : Ring). with_out r s.ring.in_flight)
      (queue-kept s.ring (omega (arith, (facts s ok wide).short, wide.places)))
