-- Laws of the operations on masks: the tests and words that the code makes, and two masks word by word.
-- By the laws of bits and of masks. Assumes nothing.
use Prim.Native.Nat.{ℕ, ◌+◌, ◌-◌, ◌*◌, ◌/◌, ◌%◌, ◌^◌, ◌≤◌, ◌<◌}
use native.Mathlib.Nat.{eq-or-lt_of_le, lt_of_lt_of_le}
use native.Mathlib.Omega.{arith}
use mathlib.Core.Logic.{⊎_elim}
use mathlib.Core.Path.{◌≡◌, refl, sym, ap, ◌∙◌}
use mathlib.Core.Bool.{Bool, true, false, not, ◌&&◌, and-false, true≢false}
use borrow.Author.Tests.{lt-ltb, le-ltb, ltb-true, eq-eqb, ne_eqb, eqb-true}
use lib.Bits.{bit_or}
use lib.Dec.{eqb, ltb}
use lib.Pow.{ones_lt, pow-lt, pow_mono}
use Rattle.mask.specs.declared.Mask.{Mask}
use Rattle.mask.specs.Bits.{bit}
use Rattle.mask.specs.Masks.{word_at, member, table_word, mask_of, is_empty}
use Rattle.mask.proofs.Laws.{same_truth, same_test, zero_bit, bit-pow, bit-ones, shifted_one, or-none}
use Rattle.mask.proofs.Masks.{Fits, fits, word_fits, is-table, table_fits}
use Rattle.mask.proofs.Masks.{member-words, member_below, member-table, mask-of, mask-ext, empty-at, empty_of}

-- the test of the four words together
pub empty-test : (m : Mask) → eqb (bit_or (bit_or (bit_or m.a m.b) m.c) m.d) 0 ≡ is_empty m
unfolding is_empty
empty-test m =
    or-none (bit_or (bit_or m.a m.b) m.c) m.d ∙
    ap (λ (t : Bool). t && eqb m.d 0)
    (or-none (bit_or m.a m.b) m.c ∙ ap (λ (t : Bool). t && eqb m.c 0) (or-none m.a m.b))

-- ---- one place, and the places below n

pub bit-here : (i q : ℕ) → i / 64 ≡ q → (1 * 2 ^ (i % 64)) % 2 ^ 64 ≡ table_word (eqb i) q
bit-here i q e =
    let r : i % 64 < 64 = omega arith in
    shifted_one (i % 64) r ∙
    is-table (2 ^ (i % 64)) q (eqb i) (pow-lt r)
    (λ j h. bit-pow (i % 64) j ∙ same_test (i % 64) j i (q * 64 + j) (λ s. omega arith) (λ s. omega arith))

pub bit-elsewhere : (i q : ℕ) → (i / 64 ≡ q → ⊥) → 0 ≡ table_word (eqb i) q
bit-elsewhere i q n =
    is-table 0 q (eqb i) (omega arith) (λ j h. zero_bit j ∙ sym (ne_eqb i (q * 64 + j) (λ e. n (omega arith))))

-- n is not past the word's first place
pub low-none : (n q : ℕ) → n ≤ q * 64 → 0 ≡ table_word (λ j. ltb j n) q
low-none n q h =
    is-table 0 q (λ j. ltb j n) (omega arith) (λ j l. zero_bit j ∙ sym (le-ltb (q * 64 + j) n (omega arith)))

-- the word's lowest k places are below n, and its others are not
pub low-some : (n q k : ℕ) → k ≤ 64 → q * 64 + k ≤ n → (k < 64 → n ≤ q * 64 + k) → 2 ^ k - 1 ≡ table_word (λ j. ltb j n) q
low-some n q k h l f =
    is-table (2 ^ k - 1) q (λ j. ltb j n) (lt_of_lt_of_le (ones_lt k) (pow_mono h))
    (λ j b.
    bit-ones k j ∙
    same_truth (ltb j k) (ltb (q * 64 + j) n)
    (λ t. lt-ltb (q * 64 + j) n (omega (arith, ltb-true j k t)))
    (λ t. lt-ltb j k (within j b (ltb-true (q * 64 + j) n t))))
  where
    within : (j : ℕ) → j < 64 → q * 64 + j < n → j < k
    within j b s = ⊎_elim (λ (e : k ≡ 64). omega arith) (λ (e : k < 64). omega (arith, f e)) (eq-or-lt_of_le h)

-- ---- two masks

-- an operation on each pair of words: where it goes bit by bit, it goes place by place
module _
    (op : ℕ → ℕ → ℕ)
    (law : Bool → Bool → Bool)
    (small : (x y : ℕ) → x < 2 ^ 64 → y < 2 ^ 64 → op x y < 2 ^ 64)
    (bits : (j x y : ℕ) → j < 64 → y < 2 ^ 64 → bit (op x y) j ≡ law (bit x j) (bit y j))
    (x y r : Mask)
    (l : Fits x)
    (k : Fits y)
    (e : (r.a ≡ op x.a y.a) × (r.b ≡ op x.b y.b) × (r.c ≡ op x.c y.c) × (r.d ≡ op x.d y.d)) where
  pub words-law : r ≡ mask_of (λ j. law (member x j) (member y j))
  unfolding member word_at
  words-law =
      mask-of r (λ j. law (member x j) (member y j))
      (fits r
      (rw e.0 (small x.a y.a l.a k.a))
      (rw e.1 (small x.b y.b l.b k.b))
      (rw e.2 (small x.c y.c l.c k.c))
      (rw e.3 (small x.d y.d l.d k.d)))
      (λ i h.
      member-words r (λ q. op (word_at x q) (word_at y q)) e.0 e.1 e.2 e.3 i h ∙
      bits (i % 64) (word_at x (i / 64)) (word_at y (i / 64)) (omega arith) (word_fits k (i / 64) (omega arith)))

-- one of them has one place alone
pub alone-law :
    (law : Bool → Bool → Bool) (m : Mask) (i : ℕ) →
    mask_of (λ j. law (member m j) (member (mask_of (eqb i)) j)) ≡ mask_of (λ j. law (member m j) (eqb i j))
alone-law law m i =
    mask-ext (λ j. law (member m j) (member (mask_of (eqb i)) j)) (λ j. law (member m j) (eqb i j))
    (λ j h. ap (λ (t : Bool). law (member m j) t) (member-table (eqb i) j h))

-- a mask has a place where it has that place in common with the mask of it alone
module _ (m : Mask) (i : ℕ) where
  abbrev common : ℕ → Bool
  common j = member m j && eqb i j

  in-common : member m i ≡ true → is_empty (mask_of common) ≡ true → ⊥
  in-common e t =
      let h = member_below m i e in
      true≢false (sym (member-table common i h ∙ rw (e, eq-eqb i i refl)) ∙ empty-at (mask_of common) t i h)

  none-common : member m i ≡ false → (j : ℕ) → common j ≡ false
  none-common e j = go (eqb i j) refl
    where
      go : (b : Bool) → eqb i j ≡ b → (member m j && b) ≡ false
      go true t = rw (← eqb-true i j t, e)
      go false t = and-false (member m j)

  pub has-law : not (is_empty (mask_of (λ j. member m j && eqb i j))) ≡ member m i
  has-law = go (member m i) refl (is_empty (mask_of common)) refl
    where
      go : (b : Bool) → member m i ≡ b → (t : Bool) → is_empty (mask_of common) ≡ t → not t ≡ b
      go true e true t = absurd (in-common e t)
      go true e false t = refl
      go false e true t = refl
      go false e false t =
          sym (empty_of (mask_of common) (table_fits common) (λ j h. member-table common j h ∙ none-common e j)) ∙ t
