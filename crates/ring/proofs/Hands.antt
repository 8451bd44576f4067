-- Laws of the hand: its slot is one of the n, and the only one that it holds.
-- By the hand's cases. Assumes nothing.
use Rattle.std.proofs.Common.{◌≡◌, ℕ, zero, suc, ◌<◌, ◌≤◌, Bool, true, false, ltb, leb, sym, refl, ◌∙◌, arith, ltb-true, ne_eqb, eqb-true}
use mathlib.Core.Bool.{false≢true}
use Rattle.ring.specs.declared.Hand.{Hand}
use Rattle.ring.specs.declared.Hand.TheVariants.{Idle, Held, Sending, Silent}
use Rattle.ring.specs.Slots.{one, holds, hand_within}
use Rattle.ring.specs.Counts.{how_many}
use Rattle.ring.specs.Tests.{in_hand}
use Rattle.ring.proofs.Counts.{count-once}
use Rattle.ring.proofs.Truth.{first}

pub held_below : (n : ℕ) (hand : Hand) (slot : ℕ) → hand_within n hand ≡ true → holds hand slot ≡ true → slot < n
unfolding hand_within holds
held_below n Idle slot p q = absurd (false≢true q)
held_below n (Held i) slot p q = omega (arith, ltb-true i n p, eqb-true i slot q)
held_below n (Sending i) slot p q = omega (arith, ltb-true i n p, eqb-true i slot q)
held_below n (Silent i left) slot p q = omega (arith, ltb-true i n (first (ltb i n) (leb left 1) p), eqb-true i slot q)

pub held-only : (hand : Hand) (slot : ℕ) → holds hand slot ≡ true → (i : ℕ) → (i ≡ slot → ⊥) → holds hand i ≡ false
unfolding holds
held-only Idle slot q i h = refl
held-only (Held j) slot q i h = ne_eqb j i (λ e. h (sym e ∙ eqb-true j slot q))
held-only (Sending j) slot q i h = ne_eqb j i (λ e. h (sym e ∙ eqb-true j slot q))
held-only (Silent j left) slot q i h = ne_eqb j i (λ e. h (sym e ∙ eqb-true j slot q))

-- a slot at n or above is not in hand
pub not-held : (n : ℕ) (hand : Hand) (i : ℕ) → hand_within n hand ≡ true → n ≤ i → holds hand i ≡ false
not-held n hand i p h = go (holds hand i) refl
  where
    go : (b : Bool) → holds hand i ≡ b → b ≡ false
    go true e = absurd (omega (arith, held_below n hand i p e))
    go false e = refl

-- the hand has as many slots as are held
none-held : (n : ℕ) → how_many n (λ i. false) ≡ 0
unfolding how_many one
none-held zero = refl
none-held (suc n) = omega (arith, none-held n)

pub held-count : (n : ℕ) (hand : Hand) → hand_within n hand ≡ true → how_many n (holds hand) ≡ in_hand hand
unfolding hand_within holds in_hand
held-count n Idle p = none-held n
held-count n (Held i) p = count-once i n (ltb-true i n p)
held-count n (Sending i) p = count-once i n (ltb-true i n p)
held-count n (Silent i left) p = count-once i n (ltb-true i n (first (ltb i n) (leb left 1) p))

pub held-few : (hand : Hand) → in_hand hand ≤ 1
unfolding in_hand
held-few Idle = omega arith
held-few (Held i) = omega arith
held-few (Sending i) = omega arith
held-few (Silent i left) = omega arith
