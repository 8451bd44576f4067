-- Laws of the tests and counts over slots: what a test of every slot says of each, and how one slot more counts.
-- By induction on the number of slots or on the queue. Assumes nothing.
use Rattle.std.proofs.Common.{◌≡◌, ℕ, zero, suc, ◌+◌, ◌<◌, ◌≤◌, Bool, true, false, eqb, ltb, ◌⊎◌, List, [], ◌∷◌, ◌++◌, length, get_or, take, sym, refl, ap, ◌∙◌, inl, inr, ⊎_elim, add-one, arith, ltb-true, lt-ltb, eq-eqb, ne_eqb}
use native.Mathlib.Decide.{ℕ_discrete}
use Rattle.ring.specs.Slots.{one}
use Rattle.ring.specs.Counts.{every_slot, how_many, times, all_below}
use Rattle.ring.proofs.Truth.{both, first, one_at_most, second}

pub last-or-below : (i n : ℕ) → i < suc n → (i ≡ n) ⊎ (i < n)
last-or-below i n h = go (ℕ_discrete i n)
  where
    go : Dec (i ≡ n) → (i ≡ n) ⊎ (i < n)
    go (yes e) = inl e
    go (no ne) = inr (omega arith)

module _ (test : ℕ → Bool) where
  pub every-at : (n : ℕ) → every_slot n test ≡ true → (i : ℕ) → i < n → test i ≡ true
  unfolding every_slot
  every-at zero p i h = absurd (omega arith)
  every-at (suc n) p i h =
      ⊎_elim
      (λ (e : i ≡ n). rw e (first (test n) (every_slot n test) p))
      (λ (l : i < n). every-at n (second (test n) (every_slot n test) p) i l)
      (last-or-below i n h)

  pub every_of : (n : ℕ) → ((i : ℕ) → i < n → test i ≡ true) → every_slot n test ≡ true
  unfolding every_slot
  every_of zero p = refl
  every_of (suc n) p = both (test n) (every_slot n test) (p n (omega arith)) (every_of n (λ i h. p i (omega arith)))

  pub every_more : (i : ℕ) → test i ≡ true → every_slot i test ≡ true → every_slot (i + 1) test ≡ true
  unfolding every_slot
  every_more i p q = rw add-one (both (test i) (every_slot i test) p q)

  pub count-more : (i : ℕ) → how_many (i + 1) test ≡ how_many i test + one (test i)
  unfolding how_many
  count-more i = rw add-one (omega arith)

  -- more slots have no fewer that pass
  pub count-grows : (i n : ℕ) → i ≤ n → how_many i test ≤ how_many n test
  unfolding how_many
  count-grows i zero h = let e : i ≡ 0 = omega arith in rw e (omega arith)
  count-grows i (suc n) h =
      ⊎_elim
      (λ (e : i ≡ suc n). rw e (omega arith))
      (λ (l : i < suc n). omega (arith, count-grows i n (omega arith)))
      (last-or-below i (suc n) (omega arith))

  pub count-at-most : (n : ℕ) → how_many n test ≤ n
  unfolding how_many
  count-at-most zero = omega arith
  count-at-most (suc n) = omega (arith, one_at_most (test n), count-at-most n)

  -- one passes
  pub count-some : (n i : ℕ) → i < n → test i ≡ true → 0 < how_many n test
  unfolding how_many one
  count-some zero i h p = absurd (omega arith)
  count-some (suc n) i h p =
      ⊎_elim
      (λ (e : i ≡ n). omega (arith, ap one (sym (ap test e) ∙ p)))
      (λ (l : i < n). omega (arith, count-some n i l p))
      (last-or-below i n h)

  -- one does not pass
  pub count_less : (n i : ℕ) → i < n → test i ≡ false → how_many n test < n
  unfolding how_many one
  count_less zero i h p = absurd (omega arith)
  count_less (suc n) i h p =
      ⊎_elim
      (λ (e : i ≡ n). omega (arith, ap one (sym (ap test e) ∙ p), count-at-most n))
      (λ (l : i < n). omega (arith, one_at_most (test n), count_less n i l p))
      (last-or-below i n h)

module _ (f g : ℕ → Bool) where
  pub count_same : (n : ℕ) → ((i : ℕ) → i < n → f i ≡ g i) → how_many n f ≡ how_many n g
  unfolding how_many
  count_same zero p = refl
  count_same (suc n) p = omega (arith, ap one (p n (omega arith)), count_same n (λ i h. p i (omega arith)))

  -- two tests that differ at slot i only
  pub count-changed : (i : ℕ) → ((j : ℕ) → (j ≡ i → ⊥) → f j ≡ g j) → (n : ℕ) → i < n → how_many n f + one (g i) ≡ how_many n g + one (f i)
  unfolding how_many
  count-changed i p zero h = absurd (omega arith)
  count-changed i p (suc n) h =
      ⊎_elim
      (λ (e : i ≡ n). omega (
        arith,
        ap (λ (j : ℕ). one (f j)) e,
        ap (λ (j : ℕ). one (g j)) e,
        count_same n (λ j l. p j (λ q. omega arith)),
      ))
      (λ (l : i < n). omega (arith, ap one (p n (λ q. omega arith)), count-changed i p n l))
      (last-or-below i n h)

pub times-append : (i : ℕ) (a b : List ℕ) → times i (a ++ b) ≡ times i a + times i b
unfolding times
times-append i [] b = omega arith
times-append i (x ∷ a) b = omega (arith, times-append i a b)

pub times-same : (i : ℕ) → times i (i ∷ []) ≡ 1
unfolding times one
times-same i = rw (eq-eqb i i refl)

pub times-other : (i j : ℕ) → (i ≡ j → ⊥) → times i (j ∷ []) ≡ 0
unfolding times one
times-other i j h = rw (ne_eqb i j h)

pub below-append : (n : ℕ) (a b : List ℕ) → all_below n a ≡ true → all_below n b ≡ true → all_below n (a ++ b) ≡ true
unfolding all_below
below-append n [] b p q = q
below-append n (x ∷ a) b p q =
    both (ltb x n) (all_below n (a ++ b)) (first (ltb x n) (all_below n a) p) (below-append n a b (second (ltb x n) (all_below n a) p) q)

-- every entry is below n
pub below_at : (n : ℕ) (q : List ℕ) → all_below n q ≡ true → (k : ℕ) → k < length q → get_or q k 0 < n
unfolding all_below
below_at n [] p k h = absurd (omega arith)
below_at n (x ∷ q) p zero h = ltb-true x n (first (ltb x n) (all_below n q) p)
below_at n (x ∷ q) p (suc k) h = below_at n q (second (ltb x n) (all_below n q) p) k (omega arith)

pub below_one : (n i : ℕ) → i < n → all_below n (i ∷ []) ≡ true
unfolding all_below
below_one n i h = both (ltb i n) true (lt-ltb i n h) refl

-- a front of a list has no slot more often
pub times-front : (i k : ℕ) (l : List ℕ) → times i (take k l) ≤ times i l
unfolding times
times-front i zero l = omega arith
times-front i (suc k) [] = omega arith
times-front i (suc k) (x ∷ l) = omega (arith, times-front i k l)

-- a slot at or past n is not in a queue of slots below n
pub times-past : (n i : ℕ) (q : List ℕ) → n ≤ i → all_below n q ≡ true → times i q ≡ 0
unfolding times all_below one
times-past n i [] h p = refl
times-past n i (x ∷ q) h p =
    let l = ltb-true x n (first (ltb x n) (all_below n q) p) in
    omega (arith, ap one (ne_eqb i x (λ e. omega arith)), times-past n i q h (second (ltb x n) (all_below n q) p))

-- none of n is slot i, or one is
pub count_none : (i n : ℕ) → n ≤ i → how_many n (eqb i) ≡ 0
unfolding how_many one
count_none i zero h = refl
count_none i (suc n) h = omega (arith, ap one (ne_eqb i n (λ e. omega arith)), count_none i n (omega arith))

pub count-once : (i n : ℕ) → i < n → how_many n (eqb i) ≡ 1
unfolding how_many one
count-once i zero h = absurd (omega arith)
count-once i (suc n) h =
    ⊎_elim
    (λ (e : i ≡ n). omega (arith, ap one (eq-eqb i n e), count_none i n (omega arith)))
    (λ (l : i < n). omega (arith, ap one (ne_eqb i n (λ e. omega arith)), count-once i n l))
    (last-or-below i n h)
