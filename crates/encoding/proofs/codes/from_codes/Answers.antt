-- `encoding::from_codes` meets its contract: the four words make each mask, and a slot that there is no number of is read as Free.
-- Assumes nothing.
use mathlib.Core.Path.{◌≡◌, refl, sym, ap, ◌∙◌}
use mathlib.Core.Bool.{Bool}
use mathlib.Core.List.{List}
use Prim.Native.Nat.{ℕ, ◌+◌, ◌*◌, ◌≤◌, ◌<◌}
use native.Mathlib.Decide.{dec_lt}
use native.Mathlib.Omega.{arith}
use borrow.Author.Rules.{rules}
use lib.ListN.{length}
use Rattle.mask.specs.declared.Mask.{Mask}
use Rattle.mask.specs.Masks.{table_word, mask_of}
use Rattle.mask.proofs.Masks.{mask-made}
use Rattle.ring.specs.declared.Ring.{Ring}
use Rattle.ring.specs.declared.SlotState.{SlotState}
use Rattle.ring.specs.declared.SlotState.TheVariants.{Free}
use Rattle.ring.specs.declared.SlotStates.{SlotStates}
use Rattle.ring.specs.Counts.{how_many}
use Rattle.ring.specs.Masks.{masks_of, first_of}
use Rattle.ring.specs.Parts.{ring_with}
use Rattle.ring.specs.Slots.{is_filling, is_in_flight, is_discarding, is_out}
use Rattle.ring.proofs.Counts.{count-at-most}
use Rattle.ring.proofs.Masks.{masks-ext}
use Rattle.ring.proofs.States.{first_below, first_above}
use Rattle.encoding.specs.declared.codes.StateWords.{StateWords}
use Rattle.encoding.proofs.StateNumbers.{state_read, read_past}
use Rattle.encoding.proofs.Digits.{count_past}
use Rattle.encoding.proofs.codes.from_codes.Goals as goal

-- what is read of word q
abbrev Read : (ℕ → SlotState) → ℕ → StateWords → Type 0
Read state q w =
    (w.filling ≡ table_word (λ i. is_filling (state i)) q) × (w.in_flight ≡ table_word (λ i. is_in_flight (state i)) q)
    × (w.discarding ≡ table_word (λ i. is_discarding (state i)) q)
    × (how_many (q * 64) (λ i. is_out (state i)) + w.out ≡ how_many (q * 64 + 64) (λ i. is_out (state i)))

-- no slot counts none
none-counted : (test : ℕ → Bool) → how_many 0 test ≡ 0
unfolding how_many
none-counted test = refl

module _
    (state : ℕ → SlotState)
    (a b c d : StateWords)
    (ra : Read state 0 a)
    (rb : Read state 1 b)
    (rc : Read state 2 c)
    (rd : Read state 3 d) where
  -- how many are out
  counted : a.out + b.out + c.out + d.out ≡ how_many 256 (λ i. is_out (state i))
  counted = omega (arith, none-counted (λ i. is_out (state i)))

  few : a.out + b.out + c.out + d.out ≤ 256
  few = omega (arith, counted, count-at-most (λ i. is_out (state i)) 256)

  -- a mask of such a word of each
  abbrev Has : (StateWords → ℕ) → Mask → Type 0
  Has word m = (m.a ≡ word a) × (m.b ≡ word b) × (m.c ≡ word c) × (m.d ≡ word d)

  -- the masks
  masks : (n : ℕ) → ((i : ℕ) → n ≤ i → state i ≡ Free) → (f g h : Mask)
      → Has (λ w. w.filling) f → Has (λ w. w.in_flight) g → Has (λ w. w.discarding) h
      → ◌≡◌ {A = SlotStates} (record { filling = f; in_flight = g; discarding = h }) (masks_of (first_of n state))
  unfolding masks_of mask_of
  masks n past f g h ef eg eh =
      (λ k.
      record {
        filling = mask-made (ef.0 ∙ ra.0) (ef.1 ∙ rb.0) (ef.2 ∙ rc.0) (ef.3 ∙ rd.0) k;
        in_flight = mask-made (eg.0 ∙ ra.1) (eg.1 ∙ rb.1) (eg.2 ∙ rc.1) (eg.3 ∙ rd.1) k;
        discarding = mask-made (eh.0 ∙ ra.2) (eh.1 ∙ rb.2) (eh.2 ∙ rc.2) (eh.3 ∙ rd.2) k;
      })
      ∙ masks-ext state (first_of n state) (λ i h. go i (dec_lt i n))
    where
      go : (i : ℕ) → Dec (i < n) → state i ≡ first_of n state i
      go i (yes l) = sym (first_below state n i l)
      go i (no l) = past i (omega arith) ∙ sym (first_above state n i (omega arith))

-- the ring that they make
whole : (codes free : List ℕ) (used out : ℕ) (m : SlotStates) → m ≡ masks_of (first_of (length codes) (state_read codes))
    → length codes ≤ 256 → out ≡ how_many 256 (λ i. is_out (state_read codes i))
    → ◌≡◌ {A = Ring} (record { states = m; free = free; free_len = used; in_flight = out }) (ring_with (length codes) (state_read codes) free used)
unfolding ring_with is_out
whole codes free used out m e few p =
    let count = p ∙ count_past (λ i. is_out (state_read codes i)) (length codes) 256 few (λ i h. ap is_out (read_past codes i h)) in
    λ k. record { states = e k; free = free; free_len = used; in_flight = count k }

pub overflow_add-result : goal.overflow_add-result
overflow_add-result c =
    omega (arith, few (state_read c.args.codes.now) _ _ _ _ c.read_slots-a.ensures c.read_slots-b.ensures c.read_slots-c.ensures c.read_slots-d.ensures)

pub overflow_add-result-2 : goal.overflow_add-result-2
overflow_add-result-2 c =
    omega (arith, few (state_read c.args.codes.now) _ _ _ _ c.read_slots-a.ensures c.read_slots-b.ensures c.read_slots-c.ensures c.read_slots-d.ensures)

pub overflow_add-result-3 : goal.overflow_add-result-3
overflow_add-result-3 c =
    omega (arith, few (state_read c.args.codes.now) _ _ _ _ c.read_slots-a.ensures c.read_slots-b.ensures c.read_slots-c.ensures c.read_slots-d.ensures)

pub returns : goal.returns
returns c =
    let codes = c.args.codes.now in
    let a = c.read_slots-a.ensures in
    let b = c.read_slots-b.ensures in
    let g = c.read_slots-c.ensures in
    let d = c.read_slots-d.ensures in
    whole codes c.args.free c.args.free_len _ _
    (masks (state_read codes) _ _ _ _ a b g d (length codes) (read_past codes) _ _ _ (search rules) (search rules) (search rules))
    c.requires
    (counted (state_read codes) _ _ _ _ a b g d)
