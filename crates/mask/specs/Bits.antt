-- A word as its bits: bit i of a number, the number whose bits a function of the place gives, and the set places in ascending order.
use Rattle.std.specs.Prelude.{ℕ, zero, suc, ◌+◌, ◌*◌, ◌/◌, ◌%◌, Bool, cond, List, [], ◌∷◌, eqb}

-- Bit i of w.
unfoldable pub bit : ℕ → ℕ → Bool
bit w zero = eqb (w % 2) 1
bit w (suc i) = bit (w / 2) i

-- The number whose k lowest bits are these, and that has no others.
unfoldable pub word : ℕ → (ℕ → Bool) → ℕ
word zero f = 0
word (suc k) f = word k (λ i. f (suc i)) * 2 + cond (f 0) 1 0

-- The places among the first k at which the function says yes, ascending, each counted from base.
unfoldable pub places : ℕ → ℕ → (ℕ → Bool) → List ℕ
places base zero f = []
places base (suc k) f = cond (f 0) (base ∷ places (suc base) k (λ i. f (suc i))) (places (suc base) k (λ i. f (suc i)))
