-- Laws of bits: a bit of an operation's result and of a power of two, that a number of k bits is its bits, and its lowest set place.
-- By induction on the place or on the number of bits. Assumes nothing.
use Prim.Native.Nat.{ℕ, zero, suc, ◌+◌, ◌-◌, ◌*◌, ◌/◌, ◌%◌, ◌^◌, ◌<◌}
use native.Mathlib.Nat.{pow-suc, mod-lt, div-add-mod', le_of_suc-le-suc}
use native.Mathlib.Numerals.{add-one, one-add}
use native.Mathlib.Omega.{arith}
use mathlib.Core.Path.{◌≡◌, refl, sym, ap, ap₂, ◌∙◌}
use mathlib.Core.Logic.{◌⊎◌, inl, inr}
use mathlib.Core.Bool.{Bool, true, false, not, ◌&&◌, ◌||◌, cond, beq}
use mathlib.Core.List.{List, ◌∷◌}
use borrow.Author.Tests.{lt-ltb, le-ltb, eq-eqb, ne_eqb, eqb-true}
use lib.Arith.{digits_div, digits_mod, digits_lt, lt-one}
use lib.Bits.{bit_and, bit_or, bit_xor, and_shr, and_mod, or_shr, or_mod, xor_shr, xor_mod}
use lib.Bits.{and_step, and_self, and_mask, and_zero_r, and_le_r, or_zero_l, or_add_and}
use lib.Count.{count_trailing_zeros}
use lib.Dec.{eqb, ltb, leb-suc-suc, eqb-suc-suc, eqb-zero-suc, eqb-suc-zero}
use lib.Pow.{pow_pos, pow-lt, shr_lt, shr-shr}
use Rattle.mask.specs.Bits.{bit, word, places}

-- ---- truth values, and tests

-- two that follow from each other
pub same_truth : (a b : Bool) → (a ≡ true → b ≡ true) → (b ≡ true → a ≡ true) → a ≡ b
same_truth true b to from = sym (to refl)
same_truth false true to from = from refl
same_truth false false to from = refl

pub same_test : (a b c d : ℕ) → (a ≡ b → c ≡ d) → (c ≡ d → a ≡ b) → eqb a b ≡ eqb c d
same_test a b c d to from =
    same_truth (eqb a b) (eqb c d) (λ t. eq-eqb c d (to (eqb-true a b t))) (λ t. eq-eqb a b (from (eqb-true c d t)))

-- ---- a digit, and what stands above it

two_pos : 0 < 2
two_pos = omega arith

half_lt : {n : ℕ} (k : ℕ) → n < 2 ^ suc k → n / 2 < 2 ^ k
half_lt {n} k h = shr_lt k 1 (rw (add-one k) h)

pow-half : (k : ℕ) → 2 ^ suc k / 2 ≡ 2 ^ k
pow-half k = rw (pow-suc 2 k) (omega arith)

pow_even : (k : ℕ) → 2 ^ suc k % 2 ≡ 0
pow_even k = rw (pow-suc 2 k) (omega arith)

digit : (n : ℕ) → (n % 2 ≡ 0) ⊎ (n % 2 ≡ 1)
digit n = go (n % 2) (mod-lt n two_pos)
  where
    go : (r : ℕ) → r < 2 → (r ≡ 0) ⊎ (r ≡ 1)
    go zero h = inl refl
    go (suc zero) h = inr refl
    go (suc (suc r)) h = absurd (omega arith)

digit_lt : (b : Bool) → cond b 1 0 < 2
digit_lt true = omega arith
digit_lt false = omega arith

digit-bit : (b : Bool) → eqb (cond b 1 0) 1 ≡ b
digit-bit true = refl
digit-bit false = refl

bit-digit : (n : ℕ) → cond (eqb (n % 2) 1) 1 0 ≡ n % 2
bit-digit n = go (digit n)
  where
    go : (n % 2 ≡ 0) ⊎ (n % 2 ≡ 1) → cond (eqb (n % 2) 1) 1 0 ≡ n % 2
    go (inl e) = rw e
    go (inr e) = rw e

-- ---- an operation that goes digit by digit: a bit of its result is what it makes of the two bits

module _
    (op : ℕ → ℕ → ℕ)
    (law : Bool → Bool → Bool)
    (upper : (a b k : ℕ) → op a b / 2 ^ k ≡ op (a / 2 ^ k) (b / 2 ^ k))
    (lower : (a b k : ℕ) → op a b % 2 ^ k ≡ op (a % 2 ^ k) (b % 2 ^ k))
    (none : eqb (op 0 0) 1 ≡ law false false)
    (right : eqb (op 0 1) 1 ≡ law false true)
    (left : eqb (op 1 0) 1 ≡ law true false)
    (both : eqb (op 1 1) 1 ≡ law true true) where
  digits : (x y : Bool) → eqb (op (cond x 1 0) (cond y 1 0)) 1 ≡ law x y
  digits false false = none
  digits false true = right
  digits true false = left
  digits true true = both

  pub bit-op : (i a b : ℕ) → bit (op a b) i ≡ law (bit a i) (bit b i)
  unfolding bit
  bit-op zero a b =
      ap (λ (x : ℕ). eqb x 1) (lower a b 1) ∙
      ap₂ (λ (x y : ℕ). eqb (op x y) 1) (sym (bit-digit a)) (sym (bit-digit b)) ∙
      digits (eqb (a % 2) 1) (eqb (b % 2) 1)
  bit-op (suc i) a b = ap (λ (x : ℕ). bit x i) (upper a b 1) ∙ bit-op i (a / 2) (b / 2)

pub bit-and : (i a b : ℕ) → bit (bit_and a b) i ≡ (bit a i && bit b i)
bit-and = bit-op bit_and (λ x y. x && y) and_shr and_mod refl refl refl refl

pub bit-or : (i a b : ℕ) → bit (bit_or a b) i ≡ (bit a i || bit b i)
bit-or = bit-op bit_or (λ x y. x || y) or_shr or_mod refl refl refl refl

pub bit-xor : (i a b : ℕ) → bit (bit_xor a b) i ≡ not (beq (bit a i) (bit b i))
bit-xor = bit-op bit_xor (λ x y. not (beq x y)) xor_shr xor_mod refl refl refl refl

-- ---- a number of k bits is its bits

pub word_lt : (k : ℕ) (f : ℕ → Bool) → word k f < 2 ^ k
unfolding word
word_lt zero f = omega arith
word_lt (suc k) f = rw (pow-suc 2 k) (digits_lt (word_lt k (λ i. f (suc i))) (digit_lt (f 0)))

pub bit_word : (k i : ℕ) (f : ℕ → Bool) → i < k → bit (word k f) i ≡ f i
unfolding word bit
bit_word zero i f h = absurd (omega arith)
bit_word (suc k) zero f h = rw (digits_mod (word k (λ i. f (suc i))) (digit_lt (f 0))) (digit-bit (f 0))
bit_word (suc k) (suc i) f h =
    rw (digits_div (word k (λ i. f (suc i))) (digit_lt (f 0))) (bit_word k i (λ j. f (suc j)) (le_of_suc-le-suc h))

pub word-ext : (k : ℕ) (f g : ℕ → Bool) → ((i : ℕ) → i < k → f i ≡ g i) → word k f ≡ word k g
unfolding word
word-ext zero f g h = refl
word-ext (suc k) f g h =
    ap₂ (λ (x : ℕ) (b : Bool). x * 2 + cond b 1 0)
    (word-ext k (λ i. f (suc i)) (λ i. g (suc i)) (λ i l. h (suc i) (omega arith)))
    (h 0 (omega arith))

pub word-bit : (k w : ℕ) → w < 2 ^ k → word k (bit w) ≡ w
unfolding word bit
word-bit zero w h = sym (lt-one h)
word-bit (suc k) w h =
    ap₂ (λ (x y : ℕ). x * 2 + y) (word-bit k (w / 2) (half_lt k h)) (bit-digit w) ∙ div-add-mod' w 2

-- ---- none set, one set, the k lowest set; a bit as a shift reads it

pub zero_bit : (i : ℕ) → bit 0 i ≡ false
unfolding bit
zero_bit zero = refl
zero_bit (suc i) = zero_bit i

pub none-set : (k w : ℕ) → w < 2 ^ k → ((j : ℕ) → j < k → bit w j ≡ false) → w ≡ 0
none-set k w h e =
    sym (word-bit k w h) ∙ word-ext k (bit w) (bit 0) (λ j l. e j l ∙ sym (zero_bit j)) ∙ word-bit k 0 (pow_pos k)

pub bit-pow : (k i : ℕ) → bit (2 ^ k) i ≡ eqb k i
unfolding bit
bit-pow zero zero = refl
bit-pow zero (suc i) = zero_bit i ∙ sym (eqb-zero-suc i)
bit-pow (suc k) zero = rw (pow_even k) (sym (eqb-suc-zero k))
bit-pow (suc k) (suc i) = ap (λ (x : ℕ). bit x i) (pow-half k) ∙ bit-pow k i ∙ sym (eqb-suc-suc k i)

pub bit-ones : (k j : ℕ) → bit (2 ^ k - 1) j ≡ ltb j k
unfolding bit
bit-ones zero j = zero_bit j ∙ sym (le-ltb j 0 (omega arith))
bit-ones (suc k) zero =
    let z : (2 ^ suc k - 1) % 2 ≡ 1 = omega (arith, pow-suc 2 k, pow_pos k) in
    rw z (sym (lt-ltb 0 (suc k) (omega arith)))
bit-ones (suc k) (suc j) =
    let h : (2 ^ suc k - 1) / 2 ≡ 2 ^ k - 1 = omega (arith, pow-suc 2 k, pow_pos k) in
    rw h (bit-ones k j ∙ sym (leb-suc-suc (suc j) k))

pub bit-shr : (i w : ℕ) → bit w i ≡ eqb (w / 2 ^ i % 2) 1
unfolding bit
bit-shr zero w = let e : w ≡ w / 2 ^ 0 = omega arith in ap (λ (x : ℕ). eqb (x % 2) 1) e
bit-shr (suc i) w =
    bit-shr i (w / 2) ∙ ap (λ (x : ℕ). eqb (x % 2) 1) (shr-shr w 1 i ∙ ap (λ (x : ℕ). w / 2 ^ x) (one-add i))

-- a one that is shifted within 64 bits is not cut
pub shifted_one : (k : ℕ) → k < 64 → (1 * 2 ^ k) % 2 ^ 64 ≡ 2 ^ k
shifted_one k h = let l : 2 ^ k < 2 ^ 64 = pow-lt h in omega arith

-- ---- the tests of words that the code makes

-- two words together are 0 where both are
pub or-none : (a b : ℕ) → eqb (bit_or a b) 0 ≡ (eqb a 0 && eqb b 0)
or-none zero b = rw (or_zero_l b)
or-none (suc a) b =
    ne_eqb (bit_or (suc a) b) 0 (λ e. omega (arith, or_add_and (suc a) b, and_le_r (suc a) b)) ∙ rw (eqb-suc-zero a)

-- a word has nothing in common with a power of two where that bit is not set
pub bit_test : (k w : ℕ) → eqb (bit_and w (2 ^ k)) 0 ≡ not (bit w k)
unfolding bit
bit_test zero w = rw (and_mask w 1) (go (digit w))
  where
    go : (w % 2 ≡ 0) ⊎ (w % 2 ≡ 1) → eqb (w % 2) 0 ≡ not (eqb (w % 2) 1)
    go (inl e) = rw e
    go (inr e) = rw e
bit_test (suc k) w =
    let h : bit_and w (2 ^ suc k) / 2 ≡ bit_and (w / 2) (2 ^ k) =
    and_shr w (2 ^ suc k) 1 ∙ ap (λ (x : ℕ). bit_and (w / 2) x) (pow-half k) in
    let z : bit_and w (2 ^ suc k) % 2 ≡ 0 = and_mod w (2 ^ suc k) 1 ∙ rw (pow_even k) (and_zero_r (w % 2)) in
    same_test (bit_and w (2 ^ suc k)) 0 (bit_and (w / 2) (2 ^ k)) 0 (λ e. omega arith) (λ e. omega arith) ∙ bit_test k (w / 2)

-- ---- the complement

flip-digit : (x : ℕ) → x < 2 → eqb (1 - x) 1 ≡ not (eqb x 1)
flip-digit zero h = refl
flip-digit (suc zero) h = refl
flip-digit (suc (suc x)) h = absurd (omega arith)

flip-split : (k x : ℕ) → x < 2 ^ suc k → (2 ^ suc k - 1) - x ≡ ((2 ^ k - 1) - x / 2) * 2 + (1 - x % 2)
flip-split k x h = omega (arith, pow-suc 2 k, div-add-mod' x 2, half_lt k h, mod-lt x two_pos)

pub bit_not : (k i x : ℕ) → x < 2 ^ k → i < k → bit ((2 ^ k - 1) - x) i ≡ not (bit x i)
unfolding bit
bit_not zero i x h l = absurd (omega arith)
bit_not (suc k) zero x h l =
    let d : 1 - x % 2 < 2 = omega arith in
    rw (flip-split k x h, digits_mod ((2 ^ k - 1) - x / 2) d) (flip-digit (x % 2) (mod-lt x two_pos))
bit_not (suc k) (suc i) x h l =
    let d : 1 - x % 2 < 2 = omega arith in
    rw (flip-split k x h, digits_div ((2 ^ k - 1) - x / 2) d) (bit_not k i (x / 2) (half_lt k h) (le_of_suc-le-suc l))

-- ---- the lowest set place, and what is left without it

-- `n & (n - 1)`: an odd number loses its lowest digit, and an even one that is not 0 loses what its half loses
clear-odd : (n : ℕ) → n % 2 ≡ 1 → bit_and n (n - 1) ≡ n / 2 * 2 + 0
clear-odd n e =
    let h : (n - 1) / 2 ≡ n / 2 = omega arith in
    let z : (n - 1) % 2 ≡ 0 = omega arith in
    and_step n (n - 1) ∙ rw (h, z, e, and_self)

clear-even : (n : ℕ) → n % 2 ≡ 0 → 0 < n → bit_and n (n - 1) ≡ bit_and (n / 2) (n / 2 - 1) * 2 + 0
clear-even n e p =
    let h : (n - 1) / 2 ≡ n / 2 - 1 = omega arith in
    let z : (n - 1) % 2 ≡ 1 = omega arith in
    and_step n (n - 1) ∙ rw (h, z, e)

-- a number with its lowest digit clear has its half's places, each one higher
even-places : (k base w x : ℕ) → w ≡ x * 2 + 0 → places base (suc k) (bit w) ≡ places (suc base) k (bit x)
unfolding places bit
even-places k base w x e =
    let z : w % 2 ≡ 0 = omega arith in
    let h : w / 2 ≡ x = omega arith in
    rw z (ap (λ (v : ℕ). places (suc base) k (bit v)) h)

-- a number below 2 ^ k that is not 0: its lowest set place is below k; its places are that one, then those of `n & (n - 1)`
pub record Lowest (k base n : ℕ) : Type 0 where
  pub low : count_trailing_zeros k n < k
  pub next : places base k (bit n) ≡ (base + count_trailing_zeros k n) ∷ places base k (bit (bit_and n (n - 1)))

pub lowest : (k base n : ℕ) → n < 2 ^ k → 0 < n → Lowest k base n
unfolding places bit count_trailing_zeros
lowest zero base n h p = absurd (omega arith)
lowest (suc k) base n h p = go (λ q. lowest k (suc base) (n / 2) (half_lt k h) q) (digit n)
  where
    go : (0 < n / 2 → Lowest k (suc base) (n / 2)) → (n % 2 ≡ 0) ⊎ (n % 2 ≡ 1) → Lowest (suc k) base n
    go half (inl e) =
        let l = half (omega arith) in
        let s : suc base + count_trailing_zeros k (n / 2) ≡ base + suc (count_trailing_zeros k (n / 2)) = omega arith in
        record {
          low = rw e (omega (arith, l.low));
          next =
              rw e
              (l.next ∙
              ap₂ (λ (x : ℕ) (r : List ℕ). x ∷ r) s
              (sym (even-places k base (bit_and n (n - 1)) (bit_and (n / 2) (n / 2 - 1)) (clear-even n e p))));
        }
    go half (inr e) =
        let s : base ≡ base + 0 = omega arith in
        record {
          low = rw e (omega arith);
          next = rw e (ap₂ (λ (x : ℕ) (r : List ℕ). x ∷ r) s (sym (even-places k base (bit_and n (n - 1)) (n / 2) (clear-odd n e))));
        }
