-- Laws of masks: which places a mask has, that its places make it, masks with no place, places in order, and a mask in an array of words.
-- By the laws of bits. Assumes nothing.
use Prim.Native.Nat.{ℕ, zero, suc, ◌+◌, ◌-◌, ◌*◌, ◌/◌, ◌%◌, ◌^◌, ◌≤◌, ◌<◌}
use native.Mathlib.Nat.{zero-add, add-zero, suc-add, add-suc}
use native.Mathlib.Omega.{arith}
use mathlib.Core.Path.{◌≡◌, refl, sym, ap, ap₂, ◌∙◌}
use mathlib.Core.Bool.{Bool, true, false, not, ◌&&◌, ◌||◌, cond, or-false, and-eq-true_iff, true≢false}
use mathlib.Core.List.{List, [], ◌∷◌, ◌++◌}
use borrow.Author.Tests.{ltb-true, ltb-false, ne_eqb, eqb-true, eqb-false}
use lib.Arith.{digits_div, digits_mod}
use lib.Bits.{bit_and, bit_or}
use lib.Dec.{eqb, ltb}
use lib.ListN.{length, get_or, set}
use lib.Seq.{get_or-set_same, get_or-set_other}
use Rattle.mask.specs.declared.Mask.{Mask}
use Rattle.mask.specs.Bits.{bit, places}
use Rattle.mask.specs.Masks.{word_at, member, table_word, mask_of, is_empty}
use Rattle.mask.proofs.Laws.{same_test, zero_bit, none-set, word_lt, bit_word, word-ext, word-bit}
use Rattle.mask.proofs.Laws.{bit-or, bit-pow, shifted_one, bit_test}

-- ---- the words

-- The words of a mask fit 64 bits. A value of the type has that by its relation to memory; a mask in a proof has it by this record.
pub record Fits (m : Mask) : Type 0 where
  pub a : m.a < 2 ^ 64
  pub b : m.b < 2 ^ 64
  pub c : m.c < 2 ^ 64
  pub d : m.d < 2 ^ 64

-- With `needs`, this finds `Fits` of a function's argument.
pub fits : (m : Mask) → m.a < 2 ^ 64 → m.b < 2 ^ 64 → m.c < 2 ^ 64 → m.d < 2 ^ 64 → Fits m
fits m a b c d = record { a = a; b = b; c = c; d = d }

-- what holds of each of the four words
each_word : (P : ℕ → Type 0) → P 0 → P 1 → P 2 → P 3 → (q : ℕ) → q < 4 → P q
each_word P a b c d zero h = a
each_word P a b c d (suc zero) h = b
each_word P a b c d (suc (suc zero)) h = c
each_word P a b c d (suc (suc (suc zero))) h = d
each_word P a b c d (suc (suc (suc (suc q)))) h = absurd (omega arith)

pub word_fits : {m : Mask} → Fits m → (q : ℕ) → q < 4 → word_at m q < 2 ^ 64
unfolding word_at
word_fits {m} l = each_word (λ q. word_at m q < 2 ^ 64) l.a l.b l.c l.d

-- equal words make equal masks
pub mask-made :
    {a a' b b' c c' d d' : ℕ} → a ≡ a' → b ≡ b' → c ≡ c' → d ≡ d' →
    ◌≡◌ {A = Mask} (record { a = a; b = b; c = c; d = d }) (record { a = a'; b = b'; c = c'; d = d' })
mask-made p q r s = λ i. record { a = p i; b = q i; c = r i; d = s i }

-- ---- the places

pub member-word : (m : Mask) (q j : ℕ) → j < 64 → member m (q * 64 + j) ≡ bit (word_at m q) j
unfolding member
member-word m q j h = rw (digits_div q h, digits_mod q h)

-- by what the four words are
pub member-words :
    (m : Mask) (word : ℕ → ℕ) → m.a ≡ word 0 → m.b ≡ word 1 → m.c ≡ word 2 → m.d ≡ word 3 →
    (i : ℕ) → i < 256 → member m i ≡ bit (word (i / 64)) (i % 64)
unfolding member word_at
member-words m word a b c d i h =
    ap (λ (w : ℕ). bit w (i % 64)) (each_word (λ q. word_at m q ≡ word q) a b c d (i / 64) (omega arith))

pub member-past : (m : Mask) (i : ℕ) → 256 ≤ i → member m i ≡ false
unfolding member word_at
member-past m i h =
    let e : i / 64 ≡ suc (suc (suc (suc (i / 64 - 4)))) = omega arith in
    ap (λ (q : ℕ). bit (word_at m q) (i % 64)) e ∙ zero_bit (i % 64)

pub member_below : (m : Mask) (i : ℕ) → member m i ≡ true → i < 256
member_below m i e = go (ltb i 256) refl
  where
    go : (b : Bool) → ltb i 256 ≡ b → i < 256
    go true t = ltb-true i 256 t
    go false t = absurd (true≢false (sym e ∙ member-past m i (ltb-false i 256 t)))

-- ---- tables

-- a word with the table's bits
pub is-table : (w q : ℕ) (f : ℕ → Bool) → w < 2 ^ 64 → ((j : ℕ) → j < 64 → bit w j ≡ f (q * 64 + j)) → w ≡ table_word f q
unfolding table_word
is-table w q f h e = sym (word-bit 64 w h) ∙ word-ext 64 (bit w) (λ j. f (q * 64 + j)) e

pub table_fits : (f : ℕ → Bool) → Fits (mask_of f)
unfolding mask_of table_word
table_fits f = record { a = word_lt 64 _; b = word_lt 64 _; c = word_lt 64 _; d = word_lt 64 _ }

pub member-table : (f : ℕ → Bool) (i : ℕ) → i < 256 → member (mask_of f) i ≡ f i
unfolding mask_of table_word
member-table f i h =
    let s : i / 64 * 64 + i % 64 ≡ i = omega arith in
    member-words (mask_of f) (table_word f) refl refl refl refl i h ∙
    bit_word 64 (i % 64) (λ j. f (i / 64 * 64 + j)) (omega arith) ∙
    ap f s

-- a mask that has the function's places is its table
pub mask-of : (m : Mask) (f : ℕ → Bool) → Fits m → ((i : ℕ) → i < 256 → member m i ≡ f i) → m ≡ mask_of f
unfolding mask_of word_at
mask-of m f l e = mask-made (word_of 0 (omega arith)) (word_of 1 (omega arith)) (word_of 2 (omega arith)) (word_of 3 (omega arith))
  where
    word_of : (q : ℕ) → q < 4 → word_at m q ≡ table_word f q
    word_of q h =
        is-table (word_at m q) q f (word_fits l q h) (λ j k. sym (member-word m q j k) ∙ e (q * 64 + j) (omega arith))

pub mask_is : (m : Mask) → Fits m → m ≡ mask_of (member m)
mask_is m l = mask-of m (member m) l (λ i h. refl)

pub mask-ext : (f g : ℕ → Bool) → ((i : ℕ) → i < 256 → f i ≡ g i) → mask_of f ≡ mask_of g
mask-ext f g e = mask-of (mask_of f) g (table_fits f) (λ i h. member-table f i h ∙ e i h)

-- ---- no place

pub empty-at : (m : Mask) → is_empty m ≡ true → (i : ℕ) → i < 256 → member m i ≡ false
unfolding is_empty
empty-at m e i h =
    let d = (and-eq-true_iff (eqb m.a 0 && eqb m.b 0 && eqb m.c 0) (eqb m.d 0)).0 e in
    let c = (and-eq-true_iff (eqb m.a 0 && eqb m.b 0) (eqb m.c 0)).0 d.0 in
    let ab = (and-eq-true_iff (eqb m.a 0) (eqb m.b 0)).0 c.0 in
    member-words m (λ q. 0)
    (eqb-true m.a 0 ab.0)
    (eqb-true m.b 0 ab.1)
    (eqb-true m.c 0 c.1)
    (eqb-true m.d 0 d.1) i h ∙
    zero_bit (i % 64)

pub empty_of : (m : Mask) → Fits m → ((i : ℕ) → i < 256 → member m i ≡ false) → is_empty m ≡ true
unfolding is_empty word_at
empty_of m l e = rw (word_of 0 (omega arith), word_of 1 (omega arith), word_of 2 (omega arith), word_of 3 (omega arith))
  where
    word_of : (q : ℕ) → q < 4 → word_at m q ≡ 0
    word_of q h = none-set 64 (word_at m q) (word_fits l q h) (λ j k. sym (member-word m q j k) ∙ e (q * 64 + j) (omega arith))

-- ---- the places in ascending order

pub places-length : (base k : ℕ) (f : ℕ → Bool) → length (places base k f) ≤ k
unfolding places
places-length base zero f = omega arith
places-length base (suc k) f = go (f 0) (places (suc base) k (λ i. f (suc i))) (places-length (suc base) k (λ i. f (suc i)))
  where
    go : (b : Bool) (l : List ℕ) → length l ≤ k → length (cond b (base ∷ l) l) ≤ suc k
    go true l h = omega arith
    go false l h = omega arith

pub places-none : (base k : ℕ) → places base k (bit 0) ≡ []
unfolding places bit
places-none base zero = refl
places-none base (suc k) = places-none (suc base) k

pub places-ext : (base k : ℕ) (f g : ℕ → Bool) → ((i : ℕ) → i < k → f i ≡ g i) → places base k f ≡ places base k g
unfolding places
places-ext base zero f g e = refl
places-ext base (suc k) f g e =
    ap₂ (λ (b : Bool) (l : List ℕ). cond b (base ∷ l) l) (e 0 (omega arith))
    (places-ext (suc base) k (λ i. f (suc i)) (λ i. g (suc i)) (λ i h. e (suc i) (omega arith)))

pub places-append :
    (base k m : ℕ) (f : ℕ → Bool) → places base (k + m) f ≡ places base k f ++ places (base + k) m (λ i. f (k + i))
unfolding places
places-append base zero m f = simp (zero-add, add-zero)
places-append base (suc k) m f =
    let e = places-append (suc base) k m (λ i. f (suc i)) in
    rw (suc-add k m, e) (go (f 0) (places (suc base) k (λ i. f (suc i))) _ ∙ simp (suc-add, add-suc))
  where
    go : (b : Bool) (x y : List ℕ) → cond b (base ∷ (x ++ y)) (x ++ y) ≡ cond b (base ∷ x) x ++ y
    go true x y = refl
    go false x y = refl

-- the places of a mask, one word more
pub word-places :
    (m : Mask) (q : ℕ) →
    places 0 (q * 64 + 64) (member m) ≡ places 0 (q * 64) (member m) ++ places (q * 64) 64 (bit (word_at m q))
word-places m q =
    places-append 0 (q * 64) 64 (member m) ∙
    rw zero-add
    (ap (λ (l : List ℕ). places 0 (q * 64) (member m) ++ l)
    (places-ext (q * 64) 64 (λ i. member m (q * 64 + i)) (bit (word_at m q)) (λ i h. member-word m q i h)))

-- ---- a mask in an array of four words

abbrev pub mask_in : List ℕ → Mask
mask_in ws = record { a = get_or ws 0 0; b = get_or ws 1 0; c = get_or ws 2 0; d = get_or ws 3 0 }

pub member-in : (ws : List ℕ) (i : ℕ) → i < 256 → member (mask_in ws) i ≡ bit (get_or ws (i / 64) 0) (i % 64)
member-in ws = member-words (mask_in ws) (λ q. get_or ws q 0) refl refl refl refl

-- the test of a place
pub seen-bit :
    (ws : List ℕ) (i : ℕ) → length ws ≡ 4 → i < 256 →
    eqb (bit_and (get_or ws (i / 64) 0) ((1 * 2 ^ (i % 64)) % 2 ^ 64)) 0 ≡ not (member (mask_in ws) i)
seen-bit ws i w h =
    rw (shifted_one (i % 64) (omega arith), member-in ws i h) (bit_test (i % 64) (get_or ws (i / 64) 0))

-- one place more
pub seen_more :
    (ws : List ℕ) (i : ℕ) → length ws ≡ 4 → i < 256 → ((j : ℕ) → j < 4 → get_or ws j 0 < 2 ^ 64) → (j : ℕ) → j < 256 →
    member (mask_in (set ws (i / 64) (bit_or (get_or ws (i / 64) 0) ((1 * 2 ^ (i % 64)) % 2 ^ 64)))) j ≡ (member (mask_in ws) j || eqb i j)
seen_more ws i w h l j k = member-in (set ws (i / 64) more) j k ∙ go (eqb (i / 64) (j / 64)) refl
  where
    more : ℕ
    more = bit_or (get_or ws (i / 64) 0) ((1 * 2 ^ (i % 64)) % 2 ^ 64)

    go : (b : Bool) → eqb (i / 64) (j / 64) ≡ b → bit (get_or (set ws (i / 64) more) (j / 64) 0) (j % 64) ≡ (member (mask_in ws) j || eqb i j)
    go true t =
        let e = eqb-true (i / 64) (j / 64) t in
        rw (← e, get_or-set_same ws (i / 64) more 0 (omega arith), shifted_one (i % 64) (omega arith))
        (bit-or (j % 64) (get_or ws (i / 64) 0) (2 ^ (i % 64)) ∙
        ap₂ (λ (x y : Bool). x || y)
        (ap (λ (q : ℕ). bit (get_or ws q 0) (j % 64)) e ∙ sym (member-in ws j k))
        (bit-pow (i % 64) (j % 64) ∙ same_test (i % 64) (j % 64) i j (λ s. omega arith) (λ s. omega arith)))
    go false t =
        let n = eqb-false (i / 64) (j / 64) t in
        ap (λ (x : ℕ). bit x (j % 64)) (get_or-set_other ws (i / 64) (j / 64) more 0 (λ s. n (sym s))) ∙
        rw (member-in ws j k, ne_eqb i j (λ s. n (ap (λ (x : ℕ). x / 64) s)), or-false)
