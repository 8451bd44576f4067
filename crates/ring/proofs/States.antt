-- Laws of the slots' states, through the function that reads them: what is read after a slot's state is put, at that slot and at another, and
-- after those of all slots below n; that two rings with the same states and the same other parts are the same; and what a test says of a
-- state. From the laws of the masks. Assumes nothing.
use Rattle.std.proofs.Common.{◌≡◌, ℕ, ◌<◌, ◌≤◌, true, false, List, take, sym, refl, ◌∙◌, ap₂, arith, le-ltb, lt-ltb, eq-eqb, ne_eqb}
use native.Mathlib.Decide.{dec_lt}
use mathlib.Core.Bool.{false≢true}
use Rattle.ring.specs.declared.SlotState.{SlotState}
use Rattle.ring.specs.declared.SlotState.TheVariants.{Free, Filling, InFlight, Discarding}
use Rattle.ring.specs.declared.Ring.{Ring}
use Rattle.ring.specs.Slots.{is_free, is_filling, is_out}
use Rattle.ring.specs.Masks.{masks_of, changed_at, first_of}
use Rattle.ring.specs.Parts.{queue_of, state_of, Tabled, with_queue, with_masks, with_state, with_states, with_out, free_ring}
use Rattle.ring.proofs.Masks.{state-masks, masks-ext, state-past}

-- other masks, and those of given states
module _ (ring : Ring) (f : ℕ → SlotState) where
  pub state-given : (i : ℕ) → i < 256 → state_of (with_masks ring (masks_of f)) i ≡ f i
  unfolding state_of with_masks
  state-given i h = state-masks f i h

  pub given-tabled : Tabled (with_masks ring (masks_of f))
  unfolding state_of with_masks
  given-tabled = masks-ext _ _ (λ i h. sym (state-masks f i h))

-- there is no slot 256
pub past : (ring : Ring) (i : ℕ) → 256 ≤ i → state_of ring i ≡ Free
unfolding state_of
past ring i h = state-past ring.states i h

module _ (ring : Ring) (i : ℕ) (state : SlotState) where
  -- put, then read
  pub state-put : i < 256 → state_of (with_state ring i state) i ≡ state
  unfolding with_state changed_at
  state-put h = state-given ring (changed_at i state (state_of ring)) i h ∙ rw (eq-eqb i i refl)

  -- put, then read another slot
  pub state-other : (j : ℕ) → (j ≡ i → ⊥) → state_of (with_state ring i state) j ≡ state_of ring j
  unfolding with_state changed_at
  state-other j ne = go (dec_lt j 256)
    where
      go : Dec (j < 256) → state_of (with_masks ring (masks_of (changed_at i state (state_of ring)))) j ≡ state_of ring j
      go (yes h) = state-given ring (changed_at i state (state_of ring)) j h ∙ rw (ne_eqb i j (λ e. ne (sym e)))
      go (no h) = past (with_masks ring (masks_of (changed_at i state (state_of ring)))) j (omega arith) ∙ sym (past ring j (omega arith))

  pub put-tabled : Tabled (with_state ring i state)
  unfolding with_state
  put-tabled = given-tabled ring (changed_at i state (state_of ring))

-- another queue, another out count, and both leave the states
pub state-queued : (ring : Ring) (queue : List ℕ) (i : ℕ) → state_of (with_queue ring queue) i ≡ state_of ring i
unfolding state_of with_queue
state-queued ring queue i = refl

pub state-counted : (ring : Ring) (count i : ℕ) → state_of (with_out ring count) i ≡ state_of ring i
unfolding state_of with_out
state-counted ring count i = refl

module _ (ring : Ring) (queue : List ℕ) (count : ℕ) where
  pub state-kept : (i : ℕ) → state_of (with_out (with_queue ring queue) count) i ≡ state_of ring i
  unfolding state_of with_queue with_out
  state-kept i = refl

  pub kept-tabled : Tabled ring → Tabled (with_out (with_queue ring queue) count)
  unfolding state_of with_queue with_out
  kept-tabled tabled = tabled

pub counted-tabled : (ring : Ring) (count : ℕ) → Tabled ring → Tabled (with_out ring count)
unfolding state_of with_out
counted-tabled ring count tabled = tabled

-- the parts of a ring but its states
pub record Parts (a b : Ring) : Type 0 where
  pub free : a.free ≡ b.free
  pub len : a.free_len ≡ b.free_len
  pub out : a.in_flight ≡ b.in_flight

-- the queue is one of these parts
pub parts-queue : (a b : Ring) → Parts a b → queue_of a ≡ queue_of b
unfolding queue_of
parts-queue a b p = ap₂ (λ (n : ℕ) (free : List ℕ). take n free) p.len p.free

-- other states leave the other parts
pub put-parts : (ring : Ring) (i : ℕ) (state : SlotState) → Parts (with_state ring i state) ring
unfolding with_state with_masks
put-parts ring i state = record { free = refl; len = refl; out = refl }

-- the states below n, and no others
module _ (f : ℕ → SlotState) (n : ℕ) where
  pub first_below : (i : ℕ) → i < n → first_of n f i ≡ f i
  unfolding first_of
  first_below i h = rw (lt-ltb i n h)

  pub first_above : (i : ℕ) → n ≤ i → first_of n f i ≡ Free
  unfolding first_of
  first_above i h = rw (le-ltb i n h)

  module _ (ring : Ring) where
    pub states-tabled : Tabled (with_states n f ring)
    unfolding with_states
    states-tabled = given-tabled ring (first_of n f)

    pub states-parts : Parts (with_states n f ring) ring
    unfolding with_states with_masks
    states-parts = record { free = refl; len = refl; out = refl }

    pub state-below : n ≤ 256 → (i : ℕ) → i < n → state_of (with_states n f ring) i ≡ f i
    unfolding with_states
    state-below few i h = state-given ring (first_of n f) i (omega arith) ∙ first_below i h

    pub state-above : (i : ℕ) → n ≤ i → state_of (with_states n f ring) i ≡ Free
    unfolding with_states
    state-above i h = go (dec_lt i 256)
      where
        go : Dec (i < 256) → state_of (with_masks ring (masks_of (first_of n f))) i ≡ Free
        go (yes l) = state-given ring (first_of n f) i l ∙ first_above i h
        go (no l) = past (with_masks ring (masks_of (first_of n f))) i (omega arith)

-- two rings with the same states and the same other parts
pub ring-same : (a b : Ring) → Tabled a → Tabled b → ((i : ℕ) → state_of a i ≡ state_of b i) → Parts a b → a ≡ b
ring-same a b ta tb same parts =
    λ i.
    record {
      states = (ta ∙ masks-ext (state_of a) (state_of b) (λ j h. same j) ∙ sym tb) i;
      free = parts.free i;
      free_len = parts.len i;
      in_flight = parts.out i;
    }

-- a fresh ring: every slot is Free
pub all-free : (n i : ℕ) → state_of (free_ring n) i ≡ Free
unfolding state_of free_ring
all-free n i = go (dec_lt i 256)
  where
    go : Dec (i < 256) → state_of (free_ring n) i ≡ Free
    go (yes h) = state-masks (λ j. Free) i h
    go (no h) = past (free_ring n) i (omega arith)

-- what a test says of the state
pub free-is : (state : SlotState) → is_free state ≡ true → state ≡ Free
unfolding is_free
free-is Free p = refl
free-is Filling p = absurd (false≢true p)
free-is InFlight p = absurd (false≢true p)
free-is Discarding p = absurd (false≢true p)

pub filling-is : (state : SlotState) → is_filling state ≡ true → state ≡ Filling
unfolding is_filling
filling-is Free p = absurd (false≢true p)
filling-is Filling p = refl
filling-is InFlight p = absurd (false≢true p)
filling-is Discarding p = absurd (false≢true p)

-- a slot that is out is not Free
pub out-not-free : (state : SlotState) → is_out state ≡ true → is_free state ≡ false
unfolding is_free is_out
out-not-free Free p = absurd (false≢true p)
out-not-free Filling p = refl
out-not-free InFlight p = refl
out-not-free Discarding p = refl
