-- The moves of a slot keep a ledger valid: out of the queue into the hand, from the hand to the kernel, back to the queue.
-- Each changes one slot's state; every other slot's place is as it was. Assumes nothing.
use mathlib.Core.Path.{◌≡◌, refl, sym, ap, ◌∙◌}
use mathlib.Core.Bool.{Bool, true, false, false≢true}
use mathlib.Core.List.{List, [], ◌∷◌, ◌++◌}
use Prim.Native.Nat.{ℕ, ◌+◌, ◌<◌}
use native.Mathlib.Decide.{ℕ_discrete}
use native.Mathlib.Nat.{add-zero}
use native.Mathlib.Omega.{arith}
use lib.Dec.{ltb, eqb}
use lib.ListN.{length, get_or, length-set}
use lib.Seq.{get_or-set_same, get_or-set_other}
use borrow.Author.Tests.{eq-eqb, ne_eqb, eqb-true, ltb-true}
use Rattle.ring.specs.declared.Hand.{Hand}
use Rattle.ring.specs.declared.SlotState.{SlotState}
use Rattle.ring.specs.Slots.{is_free, one, holds, hand_within}
use Rattle.ring.specs.Counts.{times, all_below}
use Rattle.ring.proofs.Counts.{times-append, times-same, times-other, below-append, below_one}
use Rattle.ring.proofs.Truth.{first, second, refuted, one_at_most, is_one}
use Rattle.ledger.specs.Ledger.{Ledger, Mark, home, out, discarded, with_hand, with_queue, with_marks, marked, mark_of, returned, slot_state, state_in}
use Rattle.ledger.proofs.Valid.{Valid}

-- a slot that is Free by its state is at home
free-home : (held : Bool) (m : Mark) → is_free (slot_state held m) ≡ true → m ≡ home
unfolding is_free slot_state
free-home true m e = absurd (false≢true e)
free-home false home e = refl
free-home false out e = absurd (false≢true e)
free-home false discarded e = absurd (false≢true e)

-- a slot in hand is not Free, nor is one that is out
pub held-not-free : (l : Ledger) (i : ℕ) → holds l.hand i ≡ true → is_free (state_in l i) ≡ false
unfolding is_free state_in slot_state
held-not-free l i e = rw e

pub away-not-free : (l : Ledger) (i : ℕ) → (mark_of l i ≡ home → ⊥) → is_free (state_in l i) ≡ false
unfolding state_in
away-not-free l i away = refuted _ (λ e. away (free-home (holds l.hand i) (mark_of l i) e))

-- a slot that the hand does not hold is in the state of its mark
unheld : (l : Ledger) (i : ℕ) → holds l.hand i ≡ false → state_in l i ≡ slot_state false (mark_of l i)
unfolding state_in
unheld l i e = rw e

-- the marks after one was set
mark_set : (l : Ledger) (i : ℕ) (m : Mark) → i < length l.marks → mark_of (marked i m l) i ≡ m
unfolding mark_of marked with_marks
mark_set l i m h = get_or-set_same l.marks i m home h

mark-kept : (l : Ledger) (i j : ℕ) (m : Mark) → (j ≡ i → ⊥) → mark_of (marked i m l) j ≡ mark_of l j
unfolding mark_of marked with_marks
mark-kept l i j m h = get_or-set_other l.marks i j m home h

times_more : (j i : ℕ) (rest : List ℕ) → (j ≡ i → ⊥) → times j (i ∷ rest) ≡ times j rest
unfolding times one
times_more j i rest h = rw (ne_eqb j i h) (omega arith)

pub times-here : (i : ℕ) (rest : List ℕ) → times i (i ∷ rest) ≡ 1 + times i rest
unfolding times one
times-here i rest = rw (eq-eqb i i refl)

-- what a slot in hand, a Free one and one that is out add to the queue
filling-none : (m : Mark) → one (is_free (slot_state true m)) ≡ 0
unfolding one is_free slot_state
filling-none m = refl

free_one : 0 + 1 ≡ one (is_free (slot_state false home))
unfolding one is_free slot_state
free_one = refl

out_none : 0 ≡ one (is_free (slot_state false out))
unfolding one is_free slot_state
out_none = refl

module _ (n : ℕ) (l : Ledger) (v : Valid n l) where
  marks-long : (i : ℕ) (m : Mark) → length (marked i m l).marks ≡ length l.marks
  unfolding marked with_marks
  marks-long i m = length-set l.marks i m

  -- another hand that holds the same slot
  pub rehanded : (h : Hand) → hand_within n h ≡ true → ((j : ℕ) → holds h j ≡ holds l.hand j) → Valid n (with_hand h l)
  unfolding with_hand state_in mark_of
  rehanded h w same =
      record {
        few = v.few;
        long = v.long;
        below = v.below;
        queued = λ i p. rw (same i) (v.queued i p);
        within = w;
        at_home = λ i p e. v.at_home i p (sym (same i) ∙ e);
      }

  -- the front slot into the hand
  module _ (i : ℕ) (rest : List ℕ) (q : l.queue ≡ i ∷ rest) (idle : l.hand ≡ Hand.Idle) where
    pub front_below : (i < n) × (all_below n rest ≡ true)
    unfolding all_below
    front_below =
        let b : all_below n (i ∷ rest) ≡ true = rw q at v.below in
        (ltb-true i n (first (ltb i n) (all_below n rest) b), second (ltb i n) (all_below n rest) b)

    -- how often a slot stood in the queue
    front-times : (j : ℕ) → j < n → times j (i ∷ rest) ≡ one (is_free (state_in l j))
    front-times j p = ap (times j) (sym q) ∙ v.queued j p

    unheld-all : (j : ℕ) → holds l.hand j ≡ false
    unfolding holds
    unheld-all j = rw idle

    front-home : mark_of l i ≡ home
    front-home =
        let e : is_free (state_in l i) ≡ true = is_one _ (omega (arith, front-times i front_below.0, times-here i rest)) in
        free-home false (mark_of l i) (ap is_free (sym (unheld l i (unheld-all i))) ∙ e)

    gone : times i rest ≡ 0
    gone = omega (arith, front-times i front_below.0, times-here i rest, one_at_most (is_free (state_in l i)))

    pub front-taken : (h : Hand) → hand_within n h ≡ true → ((j : ℕ) → holds h j ≡ eqb i j) → Valid n (with_hand h (with_queue rest l))
    unfolding with_hand with_queue state_in mark_of
    front-taken h w held =
        record {
          few = v.few;
          long = v.long;
          below = front_below.1;
          queued = λ j p. place j p (ℕ_discrete j i);
          within = w;
          at_home = λ j p e. rw (sym (eqb-true i j (sym (held j) ∙ e))) front-home;
        }
      where
        in-hand : one (is_free (slot_state (holds h i) (get_or l.marks i home))) ≡ 0
        in-hand = rw (held i, eq-eqb i i refl) (filling-none (get_or l.marks i home))

        place : (j : ℕ) → j < n → Dec (j ≡ i) → times j rest ≡ one (is_free (slot_state (holds h j) (get_or l.marks j home)))
        place j p (yes e) = rw e (gone ∙ sym in-hand)
        place j p (no e) =
            sym (times_more j i rest e) ∙
            front-times j p ∙
            ap (λ (x : SlotState). one (is_free x)) (unheld l j (unheld-all j)) ∙
            rw (held j, ne_eqb i j (λ z. e (sym z)))

  -- slot i alone changes: it leaves the hand or the kernel, and the hand is empty
  module _ (i : ℕ) (below : i < n) (alone : (j : ℕ) → (j ≡ i → ⊥) → holds l.hand j ≡ false) where
    others : (m : Mark) (j : ℕ) → (j ≡ i → ⊥) → state_in l j ≡ slot_state false (mark_of (marked i m l) j)
    others m j e = unheld l j (alone j e) ∙ ap (slot_state false) (sym (mark-kept l i j m e))

    away : is_free (state_in l i) ≡ false → times i l.queue ≡ 0
    unfolding one
    away p = v.queued i below ∙ ap one p

    -- returned: at the queue's end, at home
    pub brought-back : is_free (state_in l i) ≡ false → Valid n (with_hand Hand.Idle (returned i l))
    unfolding with_hand returned with_queue state_in holds marked with_marks mark_of hand_within
    brought-back p =
        record {
          few = v.few;
          long = rw (marks-long i home) v.long;
          below = below-append n l.queue (i ∷ []) v.below (below_one n i below);
          queued = λ j h. place j h (ℕ_discrete j i);
          within = refl;
          at_home = λ j h e. absurd (false≢true e);
        }
      where
        place : (j : ℕ) → j < n → Dec (j ≡ i) → times j (l.queue ++ (i ∷ [])) ≡ one (is_free (slot_state false (mark_of (marked i home l) j)))
        place j h (yes e) =
            rw (e, times-append i l.queue (i ∷ []), away p, times-same i, mark_set l i home (rw v.long below)) free_one
        place j h (no e) =
            times-append j l.queue (i ∷ []) ∙
            ap (λ (k : ℕ). times j l.queue + k) (times-other j i e) ∙
            add-zero (times j l.queue) ∙
            v.queued j h ∙
            ap (λ (x : SlotState). one (is_free x)) (others home j e)

    -- accepted: out of the hand, with the kernel
    pub sent-out : is_free (state_in l i) ≡ false → Valid n (with_hand Hand.Idle (marked i out l))
    unfolding with_hand state_in holds marked with_marks mark_of hand_within
    sent-out p =
        record {
          few = v.few;
          long = rw (marks-long i out) v.long;
          below = v.below;
          queued = λ j h. place j h (ℕ_discrete j i);
          within = refl;
          at_home = λ j h e. absurd (false≢true e);
        }
      where
        place : (j : ℕ) → j < n → Dec (j ≡ i) → times j (marked i out l).queue ≡ one (is_free (slot_state false (mark_of (marked i out l) j)))
        place j h (yes e) = rw (e, mark_set l i out (rw v.long below)) (away p ∙ out_none)
        place j h (no e) = v.queued j h ∙ ap (λ (x : SlotState). one (is_free x)) (others out j e)
