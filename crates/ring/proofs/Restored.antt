-- Laws of a ring that is made of states and a queue's places: each state below n is the one that was put, the others are Free, the queue is the used
-- places, and the out count is the true one; and rings made of the same states below n are the same. From the laws of states. Assumes nothing.
use Rattle.std.proofs.Common.{◌≡◌, ℕ, ◌+◌, ◌<◌, ◌≤◌, ltb, List, length, take, sym, refl, ap, ◌∙◌, ap₂, arith, lt-ltb}
use native.Mathlib.Decide.{dec_lt}
use Rattle.ring.specs.declared.SlotState.{SlotState}
use Rattle.ring.specs.declared.SlotStates.{SlotStates}
use Rattle.ring.specs.declared.SlotState.TheVariants.{Free}
use Rattle.ring.specs.Slots.{is_filling, is_in_flight, is_discarding, is_out, one}
use Rattle.ring.specs.Counts.{how_many}
use Rattle.ring.specs.Masks.{masks_of, in_masks, first_of}
use Rattle.ring.specs.Parts.{queue_of, state_of, Tabled, ring_with}
use Rattle.ring.proofs.Counts.{count_same}
use Rattle.ring.proofs.Masks.{state-masks, in-masks, bits-one, masks-ext, masks-fit}
use Rattle.ring.proofs.States.{first_below, first_above, past}
use Rattle.ring.proofs.Wide.{Wide}

module _ (n : ℕ) (state : ℕ → SlotState) (free : List ℕ) (used : ℕ) where
  pub with-queue : queue_of (ring_with n state free used) ≡ take used free
  unfolding queue_of ring_with
  with-queue = refl

  pub with_out : (ring_with n state free used).in_flight ≡ how_many n (λ i. is_out (state i))
  unfolding ring_with
  with_out = refl

  pub made-len : (ring_with n state free used).free_len ≡ used
  unfolding ring_with
  made-len = refl

  pub with-state : n ≤ 256 → (i : ℕ) → i < n → state_of (ring_with n state free used) i ≡ state i
  unfolding state_of ring_with
  with-state few i h = state-masks (first_of n state) i (omega arith) ∙ first_below state n i h

  pub with_none : (i : ℕ) → n ≤ i → state_of (ring_with n state free used) i ≡ Free
  unfolding state_of ring_with
  with_none i h = go (dec_lt i 256)
    where
      go : Dec (i < 256) → state_of (ring_with n state free used) i ≡ Free
      go (yes l) = state-masks (first_of n state) i l ∙ first_above state n i h
      go (no l) = past (ring_with n state free used) i (omega arith)

  pub with-tabled : Tabled (ring_with n state free used)
  unfolding state_of ring_with
  with-tabled = masks-ext _ _ (λ i h. sym (state-masks (first_of n state) i h))

  pub with-wide : length free ≡ 256 → Wide (ring_with n state free used)
  unfolding ring_with
  with-wide long = record { states = masks-fit (first_of n state); places = long }

  pub made-out : n ≤ 256 → (ring_with n state free used).in_flight ≡ how_many n (λ i. is_out (state_of (ring_with n state free used) i))
  made-out few = with_out ∙ sym (count_same _ _ n (λ i h. ap is_out (with-state few i h)))

-- the masks of the states below n: a slot is in one at most, and at n or above in none
pub first-single : (f : ℕ → SlotState) (n i : ℕ) → i < 256 → in_masks (masks_of (first_of n f)) i ≤ one (ltb i n)
unfolding one is_filling is_in_flight is_discarding
first-single f n i h = rw (in-masks (first_of n f) i h) (go (dec_lt i n))
  where
    go : Dec (i < n) → one (is_filling (first_of n f i)) + one (is_in_flight (first_of n f i)) + one (is_discarding (first_of n f i)) ≤ one (ltb i n)
    go (yes l) = rw (lt-ltb i n l) (bits-one (first_of n f i))
    go (no l) = rw (first_above f n i (omega arith)) (omega arith)

-- the states at and past n are no matter
pub first-same : (f g : ℕ → SlotState) (n : ℕ) → ((i : ℕ) → i < n → f i ≡ g i) → masks_of (first_of n f) ≡ masks_of (first_of n g)
first-same f g n same = masks-ext (first_of n f) (first_of n g) (λ i h. go i (dec_lt i n))
  where
    go : (i : ℕ) → Dec (i < n) → first_of n f i ≡ first_of n g i
    go i (yes l) = first_below f n i l ∙ same i l ∙ sym (first_below g n i l)
    go i (no l) = first_above f n i (omega arith) ∙ sym (first_above g n i (omega arith))

pub made-same : (n : ℕ) (f g : ℕ → SlotState) (free : List ℕ) (used : ℕ) → ((i : ℕ) → i < n → f i ≡ g i) → ring_with n f free used ≡ ring_with n g free used
unfolding ring_with
made-same n f g free used same =
    ap₂ (λ (m : SlotStates) (out : ℕ). record { states = m; free = free; free_len = used; in_flight = out })
    (first-same f g n same) (count_same _ _ n (λ i h. ap is_out (same i h)))
