-- A slot moved between the masks: the mask of a state gains the slot, loses it, or keeps it, as the slot's new state says. So the masks after a move
-- are those of the states with that one changed. By whether a slot is the moved one. Assumes nothing.
use Rattle.std.proofs.Common.{◌≡◌, ℕ, ◌<◌, Bool, true, false, cond, not, ◌&&◌, ◌||◌, eqb, sym, refl, ap, ◌∙◌, ap₂, eqb-true}
use mathlib.Core.Bool.{false≢true}
use Rattle.mask.specs.declared.Mask.{Mask}
use Rattle.mask.specs.Masks.{member, mask_of}
use Rattle.mask.proofs.Masks.{mask-ext}
use Rattle.ring.specs.declared.Ring.{Ring}
use Rattle.ring.specs.declared.SlotState.{SlotState}
use Rattle.ring.specs.declared.SlotState.TheVariants.{Free, Filling, InFlight, Discarding}
use Rattle.ring.specs.declared.SlotStates.{SlotStates}
use Rattle.ring.specs.Slots.{is_filling, is_in_flight, is_discarding, is_out}
use Rattle.ring.specs.Masks.{masks_of, changed_at, stopped}
use Rattle.ring.specs.Parts.{state_of, Tabled}
use Rattle.ring.proofs.Masks.{filling-bit, flying-bit, discarding-bit}

or-true : (x : Bool) → (x || true) ≡ true
or-true true = refl
or-true false = refl

or-false : (x : Bool) → (x || false) ≡ x
or-false true = refl
or-false false = refl

and-false : (x : Bool) → (x && false) ≡ false
and-false true = refl
and-false false = refl

and_yes : (x : Bool) → (x && true) ≡ x
and_yes true = refl
and_yes false = refl

-- the mask of those states that pass a test
module _ (is : SlotState → Bool) (f : ℕ → SlotState) (mask : Mask) (has : (j : ℕ) → j < 256 → member mask j ≡ is (f j)) (i : ℕ) (new : SlotState) where
  gained : is new ≡ true → mask_of (λ j. member mask j || eqb i j) ≡ mask_of (λ j. is (changed_at i new f j))
  unfolding changed_at
  gained set = mask-ext _ _ (λ j h. go j h (eqb i j))
    where
      go : (j : ℕ) → j < 256 → (b : Bool) → (member mask j || b) ≡ is (cond b new (f j))
      go j h true = or-true (member mask j) ∙ sym set
      go j h false = or-false (member mask j) ∙ has j h

  lost : is new ≡ false → mask_of (λ j. member mask j && not (eqb i j)) ≡ mask_of (λ j. is (changed_at i new f j))
  unfolding changed_at
  lost clear = mask-ext _ _ (λ j h. go j h (eqb i j))
    where
      go : (j : ℕ) → j < 256 → (b : Bool) → (member mask j && not b) ≡ is (cond b new (f j))
      go j h true = and-false (member mask j) ∙ sym clear
      go j h false = and_yes (member mask j) ∙ has j h

  kept : mask ≡ mask_of (λ j. is (f j)) → is new ≡ is (f i) → mask ≡ mask_of (λ j. is (changed_at i new f j))
  unfolding changed_at
  kept e same = e ∙ mask-ext _ _ (λ j h. go j (eqb i j) refl)
    where
      go : (j : ℕ) (b : Bool) → eqb i j ≡ b → is (f j) ≡ is (cond b new (f j))
      go j true p = ap (λ (k : ℕ). is (f k)) (sym (eqb-true i j p)) ∙ sym same
      go j false p = refl

module _ (ring : Ring) (tabled : Tabled ring) (i : ℕ) where
  f : ℕ → SlotState
  f = state_of ring

  filling-of : ring.states.filling ≡ mask_of (λ j. is_filling (f j))
  unfolding masks_of f
  filling-of = ap (λ (m : SlotStates). m.filling) tabled

  flying-of : ring.states.in_flight ≡ mask_of (λ j. is_in_flight (f j))
  unfolding masks_of f
  flying-of = ap (λ (m : SlotStates). m.in_flight) tabled

  discarding-of : ring.states.discarding ≡ mask_of (λ j. is_discarding (f j))
  unfolding masks_of f
  discarding-of = ap (λ (m : SlotStates). m.discarding) tabled

  filling-has : (j : ℕ) → j < 256 → member ring.states.filling j ≡ is_filling (f j)
  unfolding f state_of
  filling-has j h = filling-bit ring.states tabled j h

  flying-has : (j : ℕ) → j < 256 → member ring.states.in_flight j ≡ is_in_flight (f j)
  unfolding f state_of
  flying-has j h = flying-bit ring.states tabled j h

  discarding-has : (j : ℕ) → j < 256 → member ring.states.discarding j ≡ is_discarding (f j)
  unfolding f state_of
  discarding-has j h = discarding-bit ring.states tabled j h

  -- from the queue into the hand
  pub moved-taken :
      state_of ring i ≡ Free →
      ◌≡◌ {A = SlotStates}
      (record {
        filling = mask_of (λ j. member ring.states.filling j || eqb i j);
        in_flight = ring.states.in_flight;
        discarding = ring.states.discarding;
      })
      (masks_of (changed_at i Filling (state_of ring)))
  unfolding masks_of f is_filling is_in_flight is_discarding
  moved-taken e =
      λ k.
      record {
        filling = gained is_filling f _ filling-has i Filling refl k;
        in_flight = kept is_in_flight f _ flying-has i Filling flying-of (sym (ap is_in_flight e)) k;
        discarding = kept is_discarding f _ discarding-has i Filling discarding-of (sym (ap is_discarding e)) k;
      }

  -- from the hand back to the queue
  pub moved_back :
      state_of ring i ≡ Filling →
      ◌≡◌ {A = SlotStates}
      (record {
        filling = mask_of (λ j. member ring.states.filling j && not (eqb i j));
        in_flight = ring.states.in_flight;
        discarding = ring.states.discarding;
      })
      (masks_of (changed_at i Free (state_of ring)))
  unfolding masks_of f is_filling is_in_flight is_discarding
  moved_back e =
      λ k.
      record {
        filling = lost is_filling f _ filling-has i Free refl k;
        in_flight = kept is_in_flight f _ flying-has i Free flying-of (sym (ap is_in_flight e)) k;
        discarding = kept is_discarding f _ discarding-has i Free discarding-of (sym (ap is_discarding e)) k;
      }

  -- from the hand to the kernel
  pub moved_out :
      state_of ring i ≡ Filling →
      ◌≡◌ {A = SlotStates}
      (record {
        filling = mask_of (λ j. member ring.states.filling j && not (eqb i j));
        in_flight = mask_of (λ j. member ring.states.in_flight j || eqb i j);
        discarding = ring.states.discarding;
      })
      (masks_of (changed_at i InFlight (state_of ring)))
  unfolding masks_of f is_filling is_in_flight is_discarding
  moved_out e =
      λ k.
      record {
        filling = lost is_filling f _ filling-has i InFlight refl k;
        in_flight = gained is_in_flight f _ flying-has i InFlight refl k;
        discarding = kept is_discarding f _ discarding-has i InFlight discarding-of (sym (ap is_discarding e)) k;
      }

  -- a slot that is out is not in hand
  out-unheld : (state : SlotState) → is_out state ≡ true → is_filling Free ≡ is_filling state
  unfolding is_out is_filling
  out-unheld Free e = absurd (false≢true e)
  out-unheld Filling e = absurd (false≢true e)
  out-unheld InFlight e = refl
  out-unheld Discarding e = refl

  -- from the kernel to the queue
  pub moved-home :
      is_out (state_of ring i) ≡ true →
      ◌≡◌ {A = SlotStates}
      (record {
        filling = ring.states.filling;
        in_flight = mask_of (λ j. member ring.states.in_flight j && not (eqb i j));
        discarding = mask_of (λ j. member ring.states.discarding j && not (eqb i j));
      })
      (masks_of (changed_at i Free (state_of ring)))
  unfolding masks_of f is_in_flight is_discarding
  moved-home e =
      λ k.
      record {
        filling = kept is_filling f _ filling-has i Free filling-of (out-unheld (state_of ring i) e) k;
        in_flight = lost is_in_flight f _ flying-has i Free refl k;
        discarding = lost is_discarding f _ discarding-has i Free refl k;
      }

-- what stop does to a state's bits
stopped-filling : (state : SlotState) → is_filling state ≡ is_filling (stopped state)
unfolding is_filling stopped
stopped-filling Free = refl
stopped-filling Filling = refl
stopped-filling InFlight = refl
stopped-filling Discarding = refl

stopped-flying : (state : SlotState) → false ≡ is_in_flight (stopped state)
unfolding is_in_flight stopped
stopped-flying Free = refl
stopped-flying Filling = refl
stopped-flying InFlight = refl
stopped-flying Discarding = refl

stopped-discarding : (state : SlotState) → (is_discarding state || is_in_flight state) ≡ is_discarding (stopped state)
unfolding is_discarding is_in_flight stopped
stopped-discarding Free = refl
stopped-discarding Filling = refl
stopped-discarding InFlight = refl
stopped-discarding Discarding = refl

-- every InFlight slot discarded
pub moved-discarded :
    (ring : Ring) → Tabled ring →
    ◌≡◌ {A = SlotStates}
    (record {
      filling = ring.states.filling;
      in_flight = mask_of (λ j. false);
      discarding = mask_of (λ j. member ring.states.discarding j || member ring.states.in_flight j);
    })
    (masks_of (λ j. stopped (state_of ring j)))
unfolding masks_of f
moved-discarded ring tabled =
    λ k.
    record {
      filling = (filling-of ring tabled 0 ∙ mask-ext _ _ (λ j h. stopped-filling (state_of ring j))) k;
      in_flight = mask-ext _ _ (λ j h. stopped-flying (state_of ring j)) k;
      discarding =
          mask-ext _ _
          (λ j h. ap₂ (λ (x y : Bool). x || y) (discarding-has ring tabled 0 j h) (flying-has ring tabled 0 j h) ∙ stopped-discarding (state_of ring j))
          k;
    }
