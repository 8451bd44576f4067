-- A valid ledger of n slots: what a sound record shows, and what can be stored so that the record is sound.
-- Assumes nothing.
use mathlib.Core.Path.{◌≡◌, refl, sym, ap, ◌∙◌}
use mathlib.Core.Bool.{Bool, true, false, false≢true}
use Prim.Native.Nat.{ℕ, ◌≤◌, ◌<◌}
use native.Mathlib.Omega.{arith}
use lib.Dec.{ltb}
use lib.ListN.{length}
use Rattle.layout.specs.Opening.{admissible}
use Rattle.ring.specs.declared.Ring.{Ring}
use Rattle.ring.specs.declared.SlotState.{SlotState}
use Rattle.ring.specs.Slots.{is_free, is_filling, is_out, one, holds, hand_within}
use Rattle.ring.specs.Counts.{table, how_many, times, all_below}
use Rattle.ring.specs.Masks.{first_of, in_masks}
use Rattle.ring.specs.Parts.{queue_of, state_of, with_queue, with_masks, with_states, with_out}
use Rattle.ring.proofs.Counts.{count-at-most}
use Rattle.ring.proofs.Numbers.{table_is}
use Rattle.ring.proofs.Pigeonhole.{length-counted}
use Rattle.ring.proofs.Queue.{queue-put, places-put}
use Rattle.ring.proofs.Sound.{Sound, facts-sound}
use Rattle.ring.proofs.States.{Parts, parts-queue, states-parts, state-below}
use Rattle.ring.proofs.Truth.{both}
use Rattle.ring.proofs.Masks.{masks-fit}
use Rattle.ring.proofs.Restored.{first-single}
use Rattle.ring.proofs.Wide.{Wide}
use Rattle.stream.specs.declared.Stream.{Stream}
use Rattle.stream.specs.Parts.{with_state}
use Rattle.stream.specs.Sound.{sound}
use Rattle.ledger.specs.Ledger.{Ledger, Mark, home, out, discarded, mark_of, outs, slot_state, state_in}
use Rattle.ledger.specs.Record.{mark_for, view, ring_for, stored}
use Rattle.ledger.proofs.View.{outs-counted, facts, view-marks-long, view-mark, view-state}

pub record Valid (n : ℕ) (l : Ledger) : Type 0 where
  pub few : n ≤ 256
  pub long : length l.marks ≡ n
  pub below : all_below n l.queue ≡ true
  pub queued : (i : ℕ) → i < n → times i l.queue ≡ one (is_free (state_in l i))
  pub within : hand_within n l.hand ≡ true
  pub at_home : (i : ℕ) → i < n → holds l.hand i ≡ true → mark_of l i ≡ home

-- a mark is that of its state, where a slot in hand is at home
marked-back : (held : Bool) (m : Mark) → (held ≡ true → m ≡ home) → mark_for (slot_state held m) ≡ m
unfolding mark_for slot_state
marked-back true m h = sym (h refl)
marked-back false home h = refl
marked-back false out h = refl
marked-back false discarded h = refl

filled-home : (state : SlotState) → is_filling state ≡ true → mark_for state ≡ home
unfolding is_filling mark_for
filled-home SlotState.Free e = refl
filled-home SlotState.Filling e = refl
filled-home SlotState.InFlight e = absurd (false≢true e)
filled-home SlotState.Discarding e = absurd (false≢true e)

filling-held : (held : Bool) (m : Mark) → is_filling (slot_state held m) ≡ held
unfolding is_filling slot_state
filling-held true m = refl
filling-held false home = refl
filling-held false out = refl
filling-held false discarded = refl

module _ (s : Stream) (ok : sound s ≡ true) (wide : Wide s.ring) where
  pub sound-valid : Valid s.setup.slots (view s)
  unfolding view
  sound-valid =
      record {
        few = (facts s ok wide).few;
        long = view-marks-long s ok wide;
        below = (facts s ok wide).below;
        queued = λ i h. (facts s ok wide).queued i h ∙ ap (λ (x : SlotState). one (is_free x)) (sym (view-state s ok wide i h));
        within = (facts s ok wide).within;
        at_home = λ i h p. view-mark s ok wide i h ∙ filled-home (state_of s.ring i) ((facts s ok wide).held i h ∙ p);
      }

module _ (l : Ledger) (n : ℕ) (v : Valid n l) where
  pub queue-fits : length l.queue ≤ n
  queue-fits =
      omega (
        arith,
        length-counted n l.queue (λ i. is_free (state_in l i)) v.below v.queued,
        count-at-most (λ i. is_free (state_in l i)) n,
      )

  -- the mark of a slot's state is the slot's mark
  mark-back : (i : ℕ) → i < n → mark_for (state_in l i) ≡ mark_of l i
  unfolding state_in
  mark-back i h = marked-back (holds l.hand i) (mark_of l i) (v.at_home i h)

  module _ (r : Ring) (wide : Wide r) where
    -- the ring that shows the ledger, before its states are put
    base : Ring
    base = with_out (with_queue r l.queue) (outs l.marks)

    shown-parts : Parts (ring_for n r l) base
    unfolding ring_for base
    shown-parts = states-parts (state_in l) n base

    pub shown-queue : queue_of (ring_for n r l) ≡ l.queue
    unfolding base
    shown-queue = parts-queue _ _ shown-parts ∙ queue-put r l.queue (outs l.marks)

    pub shown-state : (i : ℕ) → i < n → state_of (ring_for n r l) i ≡ state_in l i
    unfolding ring_for base
    shown-state i h = state-below (state_in l) n base v.few i h

    pub shown-wide : Wide (ring_for n r l)
    unfolding ring_for base with_states with_masks
    shown-wide =
        record {
          states = masks-fit (first_of n (state_in l));
          places = ap length shown-parts.free ∙ places-put r l.queue (outs l.marks) wide.places (omega (arith, queue-fits, v.few));
        }

    shown-short : (ring_for n r l).free_len ≤ 256
    unfolding base with_out with_queue
    shown-short = rw shown-parts.len (omega (arith, queue-fits, v.few))

    -- the marks of its states are the ledger's
    pub shown-marks : table (λ i. mark_for (state_of (ring_for n r l) i)) n ≡ l.marks
    unfolding mark_of
    shown-marks =
        table_is (λ i. mark_for (state_of (ring_for n r l) i)) home n l.marks v.long (λ i h. ap mark_for (shown-state i h) ∙ mark-back i h)

    pub shown-outs : (ring_for n r l).in_flight ≡ how_many n (λ i. is_out (state_of (ring_for n r l) i))
    unfolding base with_out
    shown-outs = shown-parts.out ∙ sym (ap outs shown-marks) ∙ outs-counted (state_of (ring_for n r l)) n

    shown-held : (i : ℕ) → is_filling (state_in l i) ≡ holds l.hand i
    unfolding state_in
    shown-held i = filling-held (holds l.hand i) (mark_of l i)

    shown-single : (i : ℕ) → i < 256 → in_masks (ring_for n r l).states i ≤ one (ltb i n)
    unfolding ring_for with_states with_masks
    shown-single i h = first-single (state_in l) n i h

    pub shown-sound : Sound n (ring_for n r l) l.hand
    shown-sound =
        record {
          few = v.few;
          single = shown-single;
          short = shown-short;
          below = rw shown-queue v.below;
          queued = λ i h. rw (shown-queue, shown-state i h) (v.queued i h);
          out = shown-outs;
          within = v.within;
          held = λ i h. rw (shown-state i h) (shown-held i);
        }

-- a record that shows a valid ledger: it is sound, and it shows that ledger
module _ (s : Stream) (l : Ledger) (v : Valid s.setup.slots l) (ok : admissible s.setup ≡ true) (wide : Wide s.ring) where
  pub stored-wide : Wide (stored s l).ring
  unfolding stored with_state
  stored-wide = shown-wide l s.setup.slots v s.ring wide

  pub stored-sound : sound (stored s l) ≡ true
  unfolding sound stored with_state
  stored-sound =
      both (admissible s.setup) _ ok
      (facts-sound s.setup.slots (ring_for s.setup.slots s.ring l) l.hand
      (shown-sound l s.setup.slots v s.ring wide))

  pub view-stored : view (stored s l) ≡ l
  unfolding view stored with_state
  view-stored =
      λ i.
      record {
        hand = l.hand;
        queue = shown-queue l s.setup.slots v s.ring wide i;
        marks = shown-marks l s.setup.slots v s.ring wide i;
        started = l.started;
        armed = l.armed;
        totals = l.totals;
      }
