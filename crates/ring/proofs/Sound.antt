-- Soundness as a record of facts, and that the test is true exactly where the facts hold.
-- Each part of the test turns into its fact by the laws of the tests. Assumes nothing.
use Rattle.std.proofs.Common.{◌≡◌, ℕ, ◌<◌, ◌≤◌, true, ◌&&◌, ltb, leb, ap, arith, le-ltb, eq-eqb, eqb-true, le-leb, leb-true}
use native.Mathlib.Decide.{dec_lt}
use Rattle.ring.specs.declared.Ring.{Ring}
use Rattle.ring.specs.declared.Hand.{Hand}
use Rattle.ring.specs.declared.SlotState.TheVariants.{Free}
use Rattle.ring.specs.Slots.{is_free, is_filling, is_out, one, holds, hand_within}
use Rattle.ring.specs.Counts.{every_slot, how_many, times, all_below}
use Rattle.ring.specs.Masks.{in_masks}
use Rattle.ring.specs.Parts.{queue_of, state_of, Tabled}
use Rattle.ring.specs.Sound.{masked_right, masks_sound, queued_right, held_right, queue_sound, out_sound, hand_sound, sound_ring}
use Rattle.ring.proofs.Truth.{beq-of, beq-true, first, one_at_most, second}
use Rattle.ring.proofs.Counts.{every-at, every_of}
use Rattle.ring.proofs.Masks.{masks-tabled, state-none}
use Rattle.ring.proofs.States.{past}
use Rattle.ring.proofs.Wide.{Wide}

pub record Sound (n : ℕ) (ring : Ring) (hand : Hand) : Type 0 where
  pub few : n ≤ 256
  pub single : (i : ℕ) → i < 256 → in_masks ring.states i ≤ one (ltb i n)
  pub short : ring.free_len ≤ 256
  pub below : all_below n (queue_of ring) ≡ true
  pub queued : (i : ℕ) → i < n → times i (queue_of ring) ≡ one (is_free (state_of ring i))
  pub out : ring.in_flight ≡ how_many n (λ i. is_out (state_of ring i))
  pub within : hand_within n hand ≡ true
  pub held : (i : ℕ) → i < n → is_filling (state_of ring i) ≡ holds hand i

module _ (n : ℕ) (ring : Ring) (hand : Hand) where
  pub sound-facts : sound_ring n ring hand ≡ true → Sound n ring hand
  unfolding sound_ring masks_sound masked_right queue_sound out_sound hand_sound queued_right held_right
  sound-facts p =
      let size = leb n 256 in
      let places = leb ring.free_len 256 in
      let within = all_below n (queue_of ring) in
      let each = every_slot n (queued_right ring) in
      let queue = queue_sound n ring in
      let outs = out_sound n ring in
      let hands = hand_sound n ring hand in
      let masks = masks_sound n ring in
      let front : (size && masks && queue && outs) ≡ true = first (size && masks && queue && outs) hands p in
      let sq : (size && masks && queue) ≡ true = first (size && masks && queue) outs front in
      let sm : (size && masks) ≡ true = first (size && masks) queue sq in
      let q : queue ≡ true = second (size && masks) queue sq in
      let h : hands ≡ true = second (size && masks && queue && outs) hands p in
      record {
        few = leb-true n 256 (first size masks sm);
        single = λ i l. leb-true _ _ (every-at (masked_right n ring) 256 (second size masks sm) i l);
        short = leb-true ring.free_len 256 (first places within (first (places && within) each q));
        below = second places within (first (places && within) each q);
        queued = λ i l. eqb-true _ _ (every-at (queued_right ring) n (second (places && within) each q) i l);
        out = eqb-true _ _ (second (size && masks && queue) outs front);
        within = first (hand_within n hand) (every_slot n (held_right ring hand)) h;
        held = λ i l. beq-true _ _ (every-at (held_right ring hand) n (second (hand_within n hand) (every_slot n (held_right ring hand)) h) i l);
      }

  pub facts-sound : Sound n ring hand → sound_ring n ring hand ≡ true
  unfolding sound_ring masks_sound masked_right queue_sound out_sound hand_sound queued_right held_right
  facts-sound s =
      rw (
        le-leb _ _ s.few,
        every_of (masked_right n ring) 256 (λ i l. le-leb _ _ (s.single i l)),
        le-leb _ _ s.short,
        s.below,
        every_of (queued_right ring) n (λ i l. eq-eqb _ _ (s.queued i l)),
        eq-eqb _ _ s.out,
        s.within,
        every_of (held_right ring hand) n (λ i l. beq-of _ _ (s.held i l)),
      )

module _ {n : ℕ} {ring : Ring} {hand : Hand} (s : Sound n ring hand) where
  -- the masks of a sound ring are those of its states
  pub tabled : Wide ring → Tabled ring
  unfolding state_of
  tabled wide = masks-tabled ring.states wide.states (λ i h. omega (arith, s.single i h, one_at_most (ltb i n)))

  -- no slot at n or above is in a mask
  pub free-past : (i : ℕ) → n ≤ i → state_of ring i ≡ Free
  unfolding state_of one
  free-past i h = go (dec_lt i 256)
    where
      go : Dec (i < 256) → state_of ring i ≡ Free
      go (yes l) = state-none ring.states i (omega (arith, s.single i l, ap one (le-ltb i n h)))
      go (no l) = past ring i (omega arith)
