-- Laws of packet lengths: their sum and their test against b are the library's; lengths of at most b sum to at most b for each; commit's
-- shares sum to the bytes committed. Each goes by the list, or by the packets. Assumes nothing.
use mathlib.Core.Path.{◌≡◌, refl, sym, ap, ◌∙◌}
use mathlib.Core.Bool.{Bool, true, false, or-true}
use mathlib.Core.List.{List, [], ◌∷◌}
use Prim.Native.Nat.{ℕ, zero, suc, ◌+◌, ◌-◌, ◌*◌, ◌≤◌, ◌<◌, min}
use native.Mathlib.Nat.{suc-mul, sub-add-min_cancel}
use native.Mathlib.Omega.{arith}
use borrow.Author.Tests.{lt-ltb, le-ltb, ltb-false}
use lib.Dec.{ltb}
use lib.ListN.{length, get_or}
use Rattle.std.specs.Bool.{MatchBool}
use Rattle.std.specs.List.{HoldsAt, AllWithin, sum as list_sum}
use Rattle.std.proofs.lemmas.List.Sums.{sum_by-cons}
use Rattle.layout.proofs.Refusals.{or-falses}
use Rattle.ledger.specs.Slot.{sum, shares}
use Rattle.layout.specs.Layout.{any_above}

-- the library's sum of a list
pub sum-is : (ls : List ℕ) → sum ls ≡ list_sum ls
unfolding sum
sum-is [] = refl
sum-is (x ∷ xs) = ap (λ (n : ℕ). x + n) (sum-is xs) ∙ sym (sum_by-cons (λ n. n) x xs)

-- one above b, or none
any-at : (b : ℕ) (ls : List ℕ) (k : ℕ) → k < length ls → b < get_or ls k 0 → any_above b ls ≡ true
unfolding any_above
any-at b [] k h above = absurd (omega arith)
any-at b (x ∷ xs) zero h above = rw (lt-ltb b x above)
any-at b (x ∷ xs) (suc k) h above = rw (any-at b xs k (omega arith) above, or-true)

any-none : (b : ℕ) (ls : List ℕ) → ((k : ℕ) → k < length ls → get_or ls k 0 ≤ b) → any_above b ls ≡ false
unfolding any_above
any-none b [] h = refl
any-none b (x ∷ xs) h = rw (le-ltb b x (h 0 (omega arith)), any-none b xs (λ k l. h (suc k) (omega arith)))

-- what the library's test of each tells
pub any-is : (b : ℕ) (ls : List ℕ) (r : Bool)
    → MatchBool r ((k : ℕ) × (k < length ls) × HoldsAt (λ n. b < n) ls k) (AllWithin (λ n. n ≤ b) ls 0 (length ls))
    → r ≡ any_above b ls
any-is b ls true h = sym (any-at b ls h.0 h.1 (h.2 0))
any-is b ls false h = sym (any-none b ls (λ k l. h k 0 (omega arith) l))

-- a number of a list is at most the sum
pub each_within : (ls : List ℕ) (k : ℕ) → get_or ls k 0 ≤ sum ls
unfolding sum
each_within [] k = omega arith
each_within (x ∷ xs) zero = omega arith
each_within (x ∷ xs) (suc k) = omega (arith, each_within xs k)

-- none above b: the sum is at most b for each
pub sum-within : (b : ℕ) (ls : List ℕ) → any_above b ls ≡ false → sum ls ≤ length ls * b
unfolding any_above sum
sum-within b [] h = omega arith
sum-within b (x ∷ ls) h =
    let both = or-falses (ltb b x) (any_above b ls) h in
    omega (arith, ltb-false b x both.0, sum-within b ls both.1, suc-mul (length ls) b)

-- a packet takes its share, and what is left is what the next ones share
pub share-left : (rest b : ℕ) → rest - min rest b ≡ rest - b
share-left rest b = omega (arith, sub-add-min_cancel rest b)

-- the shares of bytes that p packets can hold sum to the bytes
pub sum-shares : (p b bytes : ℕ) → bytes ≤ p * b → sum (shares p b bytes) ≡ bytes
unfolding sum shares
sum-shares zero b bytes h = omega (arith)
sum-shares (suc p) b bytes h =
    let fewer : bytes - b ≤ p * b = omega (arith, suc-mul p b) in
    omega (arith, sum-shares p b (bytes - b) fewer, sub-add-min_cancel bytes b)
