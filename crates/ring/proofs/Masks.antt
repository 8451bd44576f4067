-- Laws of the three masks and of the states that they give: the masks of given states give them back, and masks of which none has a slot twice are
-- those of their states. From the laws of masks and the cases of a state. Assumes nothing.
use Rattle.std.proofs.Common.{◌≡◌, ℕ, ◌+◌, ◌<◌, ◌≤◌, Bool, true, false, cond, refl, ap, ◌∙◌, arith}
use Rattle.mask.specs.Masks.{member}
use Rattle.mask.proofs.Masks.{Fits, table_fits, member-table, member-past, mask-ext, mask_is}
use Rattle.ring.specs.declared.SlotState.{SlotState}
use Rattle.ring.specs.declared.SlotState.TheVariants.{Free, Filling, InFlight, Discarding}
use Rattle.ring.specs.declared.SlotStates.{SlotStates}
use Rattle.ring.specs.Slots.{is_free, is_filling, is_in_flight, is_discarding, is_out, one}
use Rattle.ring.specs.Masks.{state_at, masks_of, in_masks}

-- the state of a slot that is in these masks
unfoldable pub pick : Bool → Bool → Bool → SlotState
pick f i d = cond f Filling (cond i InFlight (cond d Discarding Free))

-- a slot's three bits are those of its state, where at most one is set
record Bits (f i d : Bool) (state : SlotState) : Type 0 where
  filling : f ≡ is_filling state
  flying : i ≡ is_in_flight state
  discarding : d ≡ is_discarding state

one_set : (f i d : Bool) → one f + one i + one d ≤ 1 → Bits f i d (pick f i d)
unfolding one pick is_filling is_in_flight is_discarding
one_set true true d h = absurd (omega arith)
one_set true false true h = absurd (omega arith)
one_set true false false h = record { filling = refl; flying = refl; discarding = refl }
one_set false true true h = absurd (omega arith)
one_set false true false h = record { filling = refl; flying = refl; discarding = refl }
one_set false false true h = record { filling = refl; flying = refl; discarding = refl }
one_set false false false h = record { filling = refl; flying = refl; discarding = refl }

none-set : (f i d : Bool) → one f + one i + one d ≤ 0 → pick f i d ≡ Free
unfolding one pick
none-set true i d h = absurd (omega arith)
none-set false true d h = absurd (omega arith)
none-set false false true h = absurd (omega arith)
none-set false false false h = refl

-- a state's bits give it back, and one of them is set unless it is Free
pick-back : (state : SlotState) → pick (is_filling state) (is_in_flight state) (is_discarding state) ≡ state
unfolding pick is_filling is_in_flight is_discarding
pick-back Free = refl
pick-back Filling = refl
pick-back InFlight = refl
pick-back Discarding = refl

pub bits-one : (state : SlotState) → one (is_filling state) + one (is_in_flight state) + one (is_discarding state) ≤ 1
unfolding one is_filling is_in_flight is_discarding
bits-one Free = omega arith
bits-one Filling = omega arith
bits-one InFlight = omega arith
bits-one Discarding = omega arith

-- a state is exactly one of these
pub places-one : (state : SlotState) → one (is_free state) + one (is_filling state) + one (is_out state) ≡ 1
unfolding one is_free is_filling is_out
places-one Free = refl
places-one Filling = refl
places-one InFlight = refl
places-one Discarding = refl

-- ---- the masks of given states
module _ (f : ℕ → SlotState) where
  pub state-masks : (i : ℕ) → i < 256 → state_at (masks_of f) i ≡ f i
  unfolding state_at masks_of pick
  state-masks i h =
      rw (
        member-table (λ j. is_filling (f j)) i h,
        member-table (λ j. is_in_flight (f j)) i h,
        member-table (λ j. is_discarding (f j)) i h,
      )
      (pick-back (f i))

  pub in-masks : (i : ℕ) → i < 256 → in_masks (masks_of f) i ≡ one (is_filling (f i)) + one (is_in_flight (f i)) + one (is_discarding (f i))
  unfolding in_masks masks_of
  in-masks i h =
      rw (
        member-table (λ j. is_filling (f j)) i h,
        member-table (λ j. is_in_flight (f j)) i h,
        member-table (λ j. is_discarding (f j)) i h,
      )

pub masks-ext : (f g : ℕ → SlotState) → ((i : ℕ) → i < 256 → f i ≡ g i) → masks_of f ≡ masks_of g
unfolding masks_of
masks-ext f g same =
    λ k.
    record {
      filling = mask-ext _ _ (λ i h. ap is_filling (same i h)) k;
      in_flight = mask-ext _ _ (λ i h. ap is_in_flight (same i h)) k;
      discarding = mask-ext _ _ (λ i h. ap is_discarding (same i h)) k;
    }

-- ---- any masks

-- the words of the three masks fit
pub record MasksFit (m : SlotStates) : Type 0 where
  pub filling : Fits m.filling
  pub flying : Fits m.in_flight
  pub discarding : Fits m.discarding

pub masks-fit : (f : ℕ → SlotState) → MasksFit (masks_of f)
unfolding masks_of
masks-fit f =
    record { filling = table_fits (λ i. is_filling (f i)); flying = table_fits (λ i. is_in_flight (f i)); discarding = table_fits (λ i. is_discarding (f i)) }

module _ (m : SlotStates) where
  -- there is no slot 256
  pub state-past : (i : ℕ) → 256 ≤ i → state_at m i ≡ Free
  unfolding state_at
  state-past i h = rw (member-past m.filling i h, member-past m.in_flight i h, member-past m.discarding i h)

  -- a slot that is in no mask
  pub state-none : (i : ℕ) → in_masks m i ≤ 0 → state_at m i ≡ Free
  unfolding state_at in_masks pick
  state-none i h = none-set (member m.filling i) (member m.in_flight i) (member m.discarding i) h

  -- a slot that is in one mask at most: it is in that of the Filling slots where that is its state
  pub filling-single : (i : ℕ) → i < 256 → in_masks m i ≤ 1 → member m.filling i ≡ is_filling (state_at m i)
  unfolding state_at in_masks pick
  filling-single i h single = (one_set (member m.filling i) (member m.in_flight i) (member m.discarding i) (single)).filling

  -- no slot in two masks: they are the masks of their states
  pub masks-tabled : MasksFit m → ((i : ℕ) → i < 256 → in_masks m i ≤ 1) → m ≡ masks_of (state_at m)
  unfolding masks_of state_at in_masks pick
  masks-tabled fit single =
      λ k.
      record {
        filling = (mask_is m.filling fit.filling ∙ mask-ext _ _ (λ i h. (bits i h).filling)) k;
        in_flight = (mask_is m.in_flight fit.flying ∙ mask-ext _ _ (λ i h. (bits i h).flying)) k;
        discarding = (mask_is m.discarding fit.discarding ∙ mask-ext _ _ (λ i h. (bits i h).discarding)) k;
      }
    where
      bits : (i : ℕ) → i < 256 → Bits (member m.filling i) (member m.in_flight i) (member m.discarding i) (pick (member m.filling i) (member m.in_flight i) (member m.discarding i))
      bits i h = one_set (member m.filling i) (member m.in_flight i) (member m.discarding i) (single i h)

  -- what a mask of a slot's state says of the slot
  module _ (tabled : m ≡ masks_of (state_at m)) (i : ℕ) (h : i < 256) where
    pub filling-bit : member m.filling i ≡ is_filling (state_at m i)
    unfolding masks_of
    filling-bit = ap (λ (x : SlotStates). member x.filling i) tabled ∙ member-table _ i h

    pub flying-bit : member m.in_flight i ≡ is_in_flight (state_at m i)
    unfolding masks_of
    flying-bit = ap (λ (x : SlotStates). member x.in_flight i) tabled ∙ member-table _ i h

    pub discarding-bit : member m.discarding i ≡ is_discarding (state_at m i)
    unfolding masks_of
    discarding-bit = ap (λ (x : SlotStates). member x.discarding i) tabled ∙ member-table _ i h
