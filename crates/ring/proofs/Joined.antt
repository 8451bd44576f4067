-- Refusal 8's test of a ring, made by whole masks and in pieces, is sound_ring. Slot by slot the two say the same (proofs/Placed); and where every slot
-- of n is in the queue, in hand or out, the out count is n less the first two. Assumes nothing.
use Rattle.std.proofs.Common.{length, ◌≡◌, ℕ, zero, suc, ◌+◌, ◌-◌, ◌%◌, ◌^◌, ◌<◌, ◌≤◌, Bool, true, false, not, ◌&&◌, cond, Option, Some, None, ltb, leb, sym, refl, ap, ◌∙◌, arith, ltb-false, ltb-true, lt-ltb, eq-eqb, eqb-true, le-leb, leb-true}
use native.Mathlib.Decide.{dec_lt}
use Rattle.mask.specs.declared.Mask.{Mask}
use Rattle.mask.specs.Masks.{member, mask_of, is_empty}
use Rattle.mask.proofs.Masks.{table_fits, member-table, empty-at, empty_of}
use Rattle.ring.specs.declared.Hand.{Hand}
use Rattle.ring.specs.declared.Ring.{Ring}
use Rattle.ring.specs.Slots.{is_free, is_filling, is_out, one, holds, hand_within}
use Rattle.ring.specs.Counts.{every_slot, how_many, times, all_below}
use Rattle.ring.specs.Masks.{state_at, in_masks}
use Rattle.ring.specs.Parts.{queue_of, state_of}
use Rattle.ring.specs.Sound.{sound_ring}
use Rattle.ring.specs.Tests.{hand_test, times_home, home_once, home_mask, home_of, both_or_neither, misplaced, out_test, in_hand, count_test}
use Rattle.ring.proofs.Truth.{agree, beq-of, both, first, one_at_most, second}
use Rattle.ring.proofs.Counts.{every-at, every_of, count_same, times-past}
use Rattle.ring.proofs.Hands.{held-count, held-few, not-held}
use Rattle.ring.proofs.Masks.{pick, filling-single, places-one}
use Rattle.ring.proofs.Pigeonhole.{length-counted}
use Rattle.ring.proofs.Placed.{Right, Tested, tested-right, right-tested}
use Rattle.ring.proofs.Queue.{queue_long}
use Rattle.ring.proofs.Sound.{Sound, sound-facts, facts-sound, free-past}

-- two truth values that follow from each other
pub bools : (a b : Bool) → (a ≡ true → b ≡ true) → (b ≡ true → a ≡ true) → a ≡ b
bools true b to from = sym (to refl)
bools false true to from = from refl
bools false false to from = refl

not-true-of : (b : Bool) → b ≡ true → not b ≡ false
not-true-of b e = rw e

-- every slot is Free, Filling or out
three : (n : ℕ) (ring : Ring) → how_many n (λ i. is_free (state_of ring i)) + how_many n (λ i. is_filling (state_of ring i)) + how_many n (λ i. is_out (state_of ring i)) ≡ n
unfolding how_many
three zero ring = refl
three (suc n) ring = omega (arith, three n ring, places-one (state_of ring n))

-- no slot of 256 passes a test that a mask makes
none_passes : (test : ℕ → Bool) → is_empty (mask_of test) ≡ true → (i : ℕ) → i < 256 → test i ≡ false
none_passes test p i h = sym (member-table test i h) ∙ empty-at (mask_of test) p i h

none_of : (test : ℕ → Bool) → ((i : ℕ) → i < 256 → test i ≡ false) → is_empty (mask_of test) ≡ true
none_of test p = empty_of (mask_of test) (table_fits test) (λ i h. member-table test i h ∙ p i h)

-- a list of slots below n, each of them there as often as its state says: how long it is
module _ (n : ℕ) (ring : Ring) (hand : Hand) (places : length ring.free ≡ 256) (short : ring.free_len ≤ 256) (below : all_below n (queue_of ring) ≡ true) (within : hand_within n hand ≡ true) where
  -- the three places of n slots, counted
  counted : ((i : ℕ) → i < n → times i (queue_of ring) ≡ one (is_free (state_of ring i))) → ((i : ℕ) → i < n → is_filling (state_of ring i) ≡ holds hand i)
      → ring.free_len + in_hand hand + how_many n (λ i. is_out (state_of ring i)) ≡ n
  counted queued held =
      omega (
        arith,
        three n ring,
        queue_long ring (omega (arith, places)),
        length-counted n (queue_of ring) (λ i. is_free (state_of ring i)) below queued,
        count_same _ _ n held,
        held-count n hand within,
      )

-- what the pieces say
record Facts (n : ℕ) (ring : Ring) (hand : Hand) : Type 0 where
  within : hand_within n hand ≡ true
  filling : (i : ℕ) → i < 256 → member ring.states.filling i ≡ holds hand i
  short : ring.free_len ≤ 256
  below : all_below n (queue_of ring) ≡ true
  slot : (i : ℕ) → i < 256 → Tested (times i (queue_of ring)) (member ring.states.filling i) (member ring.states.in_flight i) (member ring.states.discarding i) (ltb i n)
  out : ring.free_len + in_hand hand + ring.in_flight ≡ n

module _ (n : ℕ) (few : n ≤ 256) (ring : Ring) (hand : Hand) (places : length ring.free ≡ 256) where
  -- a slot at n or above is neither in the queue nor in hand
  off : Facts n ring hand → (i : ℕ) → i < 256 → ltb i n ≡ false → (times i (queue_of ring) ≡ 0) × (member ring.states.filling i ≡ false)
  off t i h e =
      let past : n ≤ i = ltb-false i n e in
      (times-past n i (queue_of ring) past t.below, t.filling i h ∙ not-held n hand i t.within past)

  facts-sound-ring : Facts n ring hand → Sound n ring hand
  unfolding in_masks state_of state_at pick
  facts-sound-ring t =
      record {
        few = few;
        single = λ i h. (right i h).single;
        short = t.short;
        below = t.below;
        queued = queued;
        out = omega (arith, t.out, counted n ring hand places t.short t.below t.within queued held);
        within = t.within;
        held = held;
      }
    where
      right : (i : ℕ) → i < 256 → Right (times i (queue_of ring)) (member ring.states.filling i) (member ring.states.in_flight i) (member ring.states.discarding i) (ltb i n)
      right i h = tested-right _ _ _ _ _ (off t i h) (t.slot i h)

      queued : (i : ℕ) → i < n → times i (queue_of ring) ≡ one (is_free (state_of ring i))
      queued i l = (right i (omega arith)).queued (lt-ltb i n l)

      held : (i : ℕ) → i < n → is_filling (state_of ring i) ≡ holds hand i
      held i l =
          let single : in_masks ring.states i ≤ 1 = omega (arith, (right i (omega arith)).single, one_at_most (ltb i n)) in
          sym (filling-single ring.states i (omega arith) single) ∙ t.filling i (omega arith)

  sound-ring-facts : Sound n ring hand → Facts n ring hand
  unfolding in_masks state_of state_at pick is_filling
  sound-ring-facts s =
      record {
        within = s.within;
        filling = λ i h. filling i h (dec_lt i n);
        short = s.short;
        below = s.below;
        slot = λ i h. right-tested _ _ _ _ _ (λ e. times-past n i (queue_of ring) (ltb-false i n e) s.below) (right i h);
        out = omega (arith, s.out, counted n ring hand places s.short s.below s.within s.queued s.held);
      }
    where
      right : (i : ℕ) → i < 256 → Right (times i (queue_of ring)) (member ring.states.filling i) (member ring.states.in_flight i) (member ring.states.discarding i) (ltb i n)
      right i h = record { single = s.single i h; queued = λ e. s.queued i (ltb-true i n e) }

      single : (i : ℕ) → i < 256 → in_masks ring.states i ≤ 1
      single i h = omega (arith, s.single i h, one_at_most (ltb i n))

      filling : (i : ℕ) → i < 256 → Dec (i < n) → member ring.states.filling i ≡ holds hand i
      filling i h (yes l) = filling-single ring.states i h (single i h) ∙ s.held i l
      filling i h (no l) =
          filling-single ring.states i h (single i h)
          ∙ ap is_filling (free-past s i (omega arith))
          ∙ sym (not-held n hand i s.within (omega arith))

  -- the sum of queue and hand does not wrap where the queue is no longer than its places
  home-sum : ring.free_len ≤ 256 → (ring.free_len + in_hand hand) % 2 ^ 64 ≡ ring.free_len + in_hand hand
  home-sum short = let held = held-few hand in omega arith

  -- the slots at home, where none is there twice
  abbrev once : Bool
  once = home_once n ring.states.filling ring.free_len (queue_of ring)

  abbrev slots : Mask
  slots = home_mask ring.states.filling (queue_of ring)

  home-bit : (i : ℕ) → i < 256 → member slots i ≡ ltb 0 (times_home ring.states.filling (queue_of ring) i)
  unfolding home_mask
  home-bit i h = member-table _ i h

  found-or-not : (b : Bool) (m : Mask) → out_test n ring (cond b (Some m) None) ≡ (b && is_empty (mask_of (misplaced n ring m)))
  unfolding out_test
  found-or-not true m = refl
  found-or-not false m = refl

  module _ (home : Option Mask) (is : home ≡ home_of n ring.states.filling ring.free_len (queue_of ring)) where
    out-is : out_test n ring home ≡ (once && is_empty (mask_of (misplaced n ring slots)))
    unfolding home_of
    out-is = ap (out_test n ring) is ∙ found-or-not once slots

    tests-facts : hand_test n ring hand ≡ true → out_test n ring home ≡ true → count_test n ring hand ≡ true → Facts n ring hand
    unfolding hand_test count_test home_once misplaced times_home
    tests-facts a p c =
        let within = hand_within n hand in
        let o : (once && is_empty (mask_of (misplaced n ring slots))) ≡ true = sym out-is ∙ p in
        let lies = leb ring.free_len 256 in
        let inside = all_below n (queue_of ring) in
        let each = every_slot 256 (λ i. leb (times_home ring.states.filling (queue_of ring) i) 1) in
        let all : (lies && inside && each) ≡ true = first once _ o in
        let front : (lies && inside) ≡ true = first (lies && inside) each all in
        let short = leb-true _ _ (first lies inside front) in
        let sum = home-sum short in
        let at_home = (ring.free_len + in_hand hand) % 2 ^ 64 in
        let fits = leb-true at_home n (first (leb at_home n) _ c) in
        let count : ring.in_flight ≡ n - at_home = eqb-true _ _ (second (leb at_home n) _ c) in
        record {
          within = first within _ a;
          filling = λ i h. agree _ _ (none_passes _ (second within _ a) i h);
          short = short;
          below = second lies inside front;
          slot = λ i h.
              record {
                once = leb-true _ _ (every-at _ 256 (second (lies && inside) each all) i h);
                placed =
                    ap (λ (b : Bool). both_or_neither b (member ring.states.in_flight i) (member ring.states.discarding i) (ltb i n))
                    (sym (home-bit i h))
                    ∙ none_passes _ (second once _ o) i h;
              };
          out = omega arith;
        }

    facts-tests : Facts n ring hand → (hand_test n ring hand ≡ true) × (out_test n ring home ≡ true) × (count_test n ring hand ≡ true)
    unfolding hand_test count_test home_once misplaced times_home
    facts-tests t =
        let found : once ≡ true =
        rw (
          le-leb _ _ t.short,
          t.below,
          every_of (λ i. leb (times_home ring.states.filling (queue_of ring) i) 1) 256 (λ i h. le-leb _ _ (t.slot i h).once),
        ) in
        let sum = home-sum t.short in
        let out = t.out in
        let at_home = (ring.free_len + in_hand hand) % 2 ^ 64 in (
          both (hand_within n hand) _ t.within (none_of _ (λ i h. not-true-of _ (beq-of _ _ (t.filling i h)))),
          out-is ∙
              both once _ found
              (none_of _
              (λ i h.
              ap (λ (b : Bool). both_or_neither b (member ring.states.in_flight i) (member ring.states.discarding i) (ltb i n)) (home-bit i h)
              ∙ (t.slot i h).placed)),
          both (leb at_home n) _ (le-leb at_home n (omega arith)) (eq-eqb ring.in_flight (n - at_home) (omega arith)),
        )

    -- the pieces joined
    pub joined : (hand_test n ring hand && out_test n ring home && count_test n ring hand) ≡ sound_ring n ring hand
    joined =
        bools _ _
        (λ p.
        let front = first (hand_test n ring hand && out_test n ring home) (count_test n ring hand) p in
        facts-sound n ring hand
        (facts-sound-ring
        (tests-facts (first (hand_test n ring hand) (out_test n ring home) front) (second (hand_test n ring hand) (out_test n ring home) front)
        (second (hand_test n ring hand && out_test n ring home) (count_test n ring hand) p))))
        (λ p.
        let t = facts-tests (sound-ring-facts (sound-facts n ring hand p)) in
        rw (t.0, t.1, t.2))
