-- Lists of slots that pass a test, and ascending lists.
-- Assumes nothing.
use mathlib.Core.Path.{◌≡◌, refl, sym, ap, ap₂, ◌∙◌}
use mathlib.Core.Bool.{Bool, true, false, cond, not, ◌&&◌}
use mathlib.Core.List.{List, [], ◌∷◌, ◌++◌, map}
use Prim.Native.Nat.{ℕ, ◌+◌, ◌<◌}
use native.Mathlib.Omega.{arith}
use lib.Dec.{ltb, eqb}
use borrow.Author.Tests.{lt-ltb, ltb-true, eqb-false}
use Rattle.ring.specs.Counts.{times}
use Rattle.ring.specs.Slots.{one}
use Rattle.ring.proofs.Truth.{both, first, second}
use Rattle.history.specs.Demand3.{those, all_above, ascending}

-- the same test, the same list
pub those-same : (f g : ℕ → Bool) → ((i : ℕ) → f i ≡ g i) → (xs : List ℕ) → those f xs ≡ those g xs
unfolding those
those-same f g p [] = refl
those-same f g p (x ∷ xs) = rw (p x, those-same f g p xs)

-- a sharper test of what passed
pub those-twice : (f g : ℕ → Bool) (xs : List ℕ) → those (λ i. g i && f i) xs ≡ those g (those f xs)
unfolding those
those-twice f g [] = refl
those-twice f g (x ∷ xs) = rw (those-twice f g xs) (step (f x) (g x) refl)
  where
    step : (a b : Bool) → g x ≡ b → cond (b && a) (x ∷ those g (those f xs)) (those g (those f xs)) ≡ those g (cond a (x ∷ those f xs) (those f xs))
    step true true e = rw e
    step true false e = rw e
    step false true e = refl
    step false false e = refl

-- a list without slot k: testing for other slots changes nothing
pub those-without : (k : ℕ) (xs : List ℕ) → times k xs ≡ 0 → those (λ i. not (eqb k i)) xs ≡ xs
unfolding those times one
those-without k [] p = refl
those-without k (x ∷ xs) p = step (eqb k x) p (λ q. those-without k xs q)
  where
    step : (b : Bool) → one b + times k xs ≡ 0 → (times k xs ≡ 0 → those (λ i. not (eqb k i)) xs ≡ xs) → cond (not b) (x ∷ those (λ i. not (eqb k i)) xs) (those (λ i. not (eqb k i)) xs) ≡ x ∷ xs
    step true e rest = absurd (omega arith)
    step false e rest = ap (λ (r : List ℕ). x ∷ r) (rest (omega arith))

-- nothing passes a sharper test of nothing
pub those-none : (f g : ℕ → Bool) (xs : List ℕ) → those f xs ≡ [] → those (λ i. g i && f i) xs ≡ []
unfolding those
those-none f g xs p = those-twice f g xs ∙ ap (those g) p

pub those-append : (f : ℕ → Bool) (xs ys : List ℕ) → those f (xs ++ ys) ≡ those f xs ++ those f ys
unfolding those
those-append f [] ys = refl
those-append f (x ∷ xs) ys = rw (those-append f xs ys) (step (f x))
  where
    step : (b : Bool) → cond b (x ∷ (those f xs ++ those f ys)) (those f xs ++ those f ys) ≡ cond b (x ∷ those f xs) (those f xs) ++ those f ys
    step true = refl
    step false = refl

-- appending a number above all keeps a list ascending
pub above-append : (j m : ℕ) (xs : List ℕ) → all_above j xs ≡ true → j < m → all_above j (xs ++ (m ∷ [])) ≡ true
unfolding all_above
above-append j m [] p h = both (ltb j m) true (lt-ltb j m h) refl
above-append j m (x ∷ xs) p h =
    both (ltb j x) (all_above j (xs ++ (m ∷ []))) (first (ltb j x) (all_above j xs) p) (above-append j m xs (second (ltb j x) (all_above j xs) p) h)

-- every number of a list is below m
unfoldable pub all_under : ℕ → List ℕ → Bool
all_under m [] = true
all_under m (x ∷ xs) = ltb x m && all_under m xs

pub ascending-append : (m : ℕ) (xs : List ℕ) → ascending xs ≡ true → all_under m xs ≡ true → ascending (xs ++ (m ∷ [])) ≡ true
unfolding ascending all_under all_above
ascending-append m [] p q = refl
ascending-append m (x ∷ xs) p q =
    both (all_above x (xs ++ (m ∷ []))) (ascending (xs ++ (m ∷ [])))
    (above-append x m xs (first (all_above x xs) (ascending xs) p) (ltb-true x m (first (ltb x m) (all_under m xs) q)))
    (ascending-append m xs (second (all_above x xs) (ascending xs) p) (second (ltb x m) (all_under m xs) q))

pub ascending-tail : (x : ℕ) (xs : List ℕ) → ascending (x ∷ xs) ≡ true → ascending xs ≡ true
unfolding ascending
ascending-tail x xs p = second (all_above x xs) (ascending xs) p

-- of a list from which nothing passes, nothing passes without its first
pub those-tail : (f : ℕ → Bool) (x : ℕ) (xs : List ℕ) → those f (x ∷ xs) ≡ [] → those f xs ≡ []
unfolding those
those-tail f x xs = step (f x)
  where
    step : (b : Bool) → cond b (x ∷ those f xs) (those f xs) ≡ [] → those f xs ≡ []
    step true e = let z : ◌≡◌ {A = ℕ} 0 1 = cc in absurd (omega arith)
    step false e = e

-- two figures that agree on every slot but one, on a list without it
pub map-without : (f g : ℕ → ℕ) (k : ℕ) → ((i : ℕ) → (i ≡ k → ⊥) → f i ≡ g i) → (xs : List ℕ) → times k xs ≡ 0 → map f xs ≡ map g xs
unfolding times one
map-without f g k p [] q = refl
map-without f g k p (x ∷ xs) q = step (eqb k x) refl q (λ r. map-without f g k p xs r)
  where
    step : (b : Bool) → eqb k x ≡ b → one b + times k xs ≡ 0 → (times k xs ≡ 0 → map f xs ≡ map g xs) → f x ∷ map f xs ≡ g x ∷ map g xs
    step true e r rest = absurd (omega arith)
    step false e r rest = ap₂ (λ (a : ℕ) (b : List ℕ). a ∷ b) (p x (λ z. eqb-false k x e (sym z))) (rest (omega arith))

-- figures below m, on any list
pub under-map : (f : ℕ → ℕ) (m : ℕ) → ((i : ℕ) → f i < m) → (xs : List ℕ) → all_under m (map f xs) ≡ true
unfolding all_under
under-map f m p [] = refl
under-map f m p (x ∷ xs) = both (ltb (f x) m) (all_under m (map f xs)) (lt-ltb (f x) m (p x)) (under-map f m p xs)
