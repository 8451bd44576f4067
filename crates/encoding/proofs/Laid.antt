-- Laws of numbers laid one after the other, each for every width: how long they are, and what one number more is, written, compared or read.
-- By induction on the width or on the numbers. Assumes nothing.
use Prim.Native.Nat.{ℕ, zero, suc, ◌+◌, ◌-◌, ◌*◌, ◌/◌, ◌%◌, ◌^◌, ◌≤◌, ◌<◌}
use native.Mathlib.Nat.{pow-suc, mul-suc, mul-zero, one-mul, mul-le-mul_left, div-lt_iff_lt-mul}
use native.Mathlib.Numerals.{add-one}
use native.Mathlib.Omega.{arith}
use mathlib.Core.Path.{◌≡◌, refl, sym, ap, ◌∙◌}
use mathlib.Core.Bool.{Bool, true, false, cond, ◌&&◌, and_assoc}
use mathlib.Core.List.{List, [], ◌∷◌, ◌++◌, append_assoc, append-nil, map, map-append}
use mathlib.Core.Logic.{⊎_elim}
use borrow.Author.Tests.{ltb-true, ltb-false, eqb-true, eqb-false, eq-eqb, ne_eqb}
use lib.Dec.{eqb, ltb, lit<}
use lib.ListN.{length, take, drop, get_or, set, replicate, length-append, length-take, length-map, get_or-eq_default}
use lib.Seq.{drop-cons, drop-drop, get_or-take, set_at, append_snoc}
use Rattle.sys.specs.Bytes.{le, of_le, field, store}
use Rattle.sys.proofs.Store.{store-append}
use Rattle.sys.proofs.Fields.{length-le, field-suc}
use Rattle.ring.specs.Counts.{table}
use Rattle.ring.proofs.Truth.{both, first, second, refuted}
use Rattle.ring.proofs.Counts.{last-or-below}
use Rattle.ring.proofs.Numbers.{table-long, table_is}
use Rattle.encoding.specs.Words.{words, numbers_at, begins}

-- every entry is a byte
abbrev pub Bytes : List ℕ → Type 0
Bytes bytes = (i : ℕ) → get_or bytes i 0 < 256

pub length-words : (w : ℕ) (vs : List ℕ) → length (words w vs) ≡ w * length vs
unfolding words
length-words w [] = sym (mul-zero w)
length-words w (v ∷ vs) = rw (length-append, length-le, length-words w vs, mul-suc) (omega arith)

pub words_append : (w : ℕ) (us vs : List ℕ) → words w (us ++ vs) ≡ words w us ++ words w vs
unfolding words
words_append w [] vs = refl
words_append w (u ∷ us) vs = ap (λ (r : List ℕ). le w u ++ r) (words_append w us vs) ∙ sym (append_assoc (le w u) (words w us) (words w vs))

-- what begins with two lists begins with the first, and behind it with the second
pub begins-append : (xs ys bytes : List ℕ) → begins (xs ++ ys) bytes ≡ (begins xs bytes && begins ys (drop (length xs) bytes))
unfolding begins
begins-append [] ys bytes = refl
begins-append (x ∷ xs) ys [] = refl
begins-append (x ∷ xs) ys (b ∷ bytes) =
    ap (λ (t : Bool). eqb x b && t) (begins-append xs ys bytes) ∙ sym (and_assoc (eqb x b) (begins xs bytes) (begins ys (drop (length xs) bytes)))

-- the low byte and the rest are equal where the numbers are
byte_more : (v b f : ℕ) → b < 256 → (eqb (v % 256) b && eqb f (v / 256)) ≡ eqb (256 * f + b) v
byte_more v b f h = low (eqb (v % 256) b) refl
  where
    high : (t : Bool) → eqb f (v / 256) ≡ t → v % 256 ≡ b → t ≡ eqb (256 * f + b) v
    high true e p = let q : f ≡ v / 256 = eqb-true f (v / 256) e in sym (eq-eqb (256 * f + b) v (omega arith))
    high false e p = sym (ne_eqb (256 * f + b) v (λ q. eqb-false f (v / 256) e (omega arith)))

    low : (t : Bool) → eqb (v % 256) b ≡ t → (t && eqb f (v / 256)) ≡ eqb (256 * f + b) v
    low true e = high (eqb f (v / 256)) refl (eqb-true (v % 256) b e)
    low false e = sym (ne_eqb (256 * f + b) v (λ q. eqb-false (v % 256) b e (omega arith)))

-- the bytes of a number stand there where the number does
pub begins-number : (w v at : ℕ) (bytes : List ℕ) → v < 256 ^ w → at + w ≤ length bytes → Bytes bytes → begins (le w v) (drop at bytes) ≡ eqb (field at w bytes) v
unfolding begins le of_le
begins-number zero v at bytes h room below = sym (eq-eqb 0 v (omega arith))
begins-number (suc w) v at bytes h room below =
    let high : v / 256 < 256 ^ w = (div-lt_iff_lt-mul (lit< tt)).1 (rw pow-suc at h) in
    let inside : at < length bytes = omega arith in
    rw (drop-cons bytes at 0 inside, begins-number w (v / 256) (suc at) bytes high (omega arith) below)
    (byte_more v (get_or bytes at 0) (field (suc at) w bytes) (below at))

-- a field of one byte is that byte
pub byte_at : (at i : ℕ) (bytes : List ℕ) → at + i < length bytes → field (at + 1 * i) 1 bytes ≡ get_or bytes (at + i) 0
unfolding of_le
byte_at at i bytes h = rw one-mul (field-suc (at + i) 0 bytes h ∙ omega arith)

-- room for n numbers is room for each
pub room_at : (w at i n : ℕ) (l : List ℕ) → i < n → at + w * n ≤ length l → at + w * i + w ≤ length l
room_at w at i n l h room =
    let more : w * suc i ≤ w * n = mul-le-mul_left w (omega arith) in
    omega (arith, mul-suc w i)

-- a list of numbers as a table
abbrev pub entry : List ℕ → ℕ → ℕ
entry vs i = get_or vs i 0

pub table-of : (vs : List ℕ) → table (entry vs) (length vs) ≡ vs
table-of vs = table_is (entry vs) 0 (length vs) vs refl (λ i h. refl)

-- the first so many places of a list hold what they held, the others 0
pub held_place : (l : List ℕ) (used i : ℕ) → cond (ltb i used) (entry l i) 0 ≡ entry (take used l) i
held_place l used i = go (ltb i used) refl
  where
    go : (b : Bool) → ltb i used ≡ b → cond b (entry l i) 0 ≡ entry (take used l) i
    go true e = sym (get_or-take used l i 0 (ltb-true i used e))
    go false e = let past : used ≤ i = ltb-false i used e in sym (get_or-eq_default (take used l) 0 {n = i} (simp length-take (omega arith)))

-- read into the front of a longer list: one number more
pub read_more : {A : Type 0} (g : ℕ → A) (d : A) (w at i m : ℕ) (bytes : List ℕ) (x : A) → i < m → x ≡ g (field (at + w * i) w bytes)
    → set (map g (numbers_at w i at bytes) ++ replicate (m - i) d) i x ≡ map g (numbers_at w (i + 1) at bytes) ++ replicate (m - (i + 1)) d
unfolding numbers_at table
read_more g d w at i m bytes x h e =
    let number : ℕ → ℕ = λ j. field (at + w * j) w bytes in
    let left : m - i ≡ suc (m - (i + 1)) = omega arith in
    let front : length (map g (table number i)) ≡ i = length-map (table number i) g ∙ table-long number i in
    rw (left, e, add-one, map-append)
    (set_at (map g (table number i)) d (replicate (m - suc i) d) (g (number i)) i front
    ∙ sym (append_snoc (map g (table number i)) (g (number i)) (replicate (m - suc i) d)))

module _ (w : ℕ) (f : ℕ → ℕ) where
  pub length-table : (n : ℕ) → length (words w (table f n)) ≡ w * n
  length-table n = length-words w (table f n) ∙ ap (λ (k : ℕ). w * k) (table-long f n)

  -- one number more
  pub words_more : (i : ℕ) → words w (table f (suc i)) ≡ words w (table f i) ++ le w (f i)
  unfolding words table
  words_more i = words_append w (table f i) (f i ∷ []) ∙ ap (λ (r : List ℕ). words w (table f i) ++ r) (append-nil (le w (f i)))

  -- written
  pub store-none : (at : ℕ) (s : List ℕ) → s ≡ store at (words w (table f 0)) s
  unfolding words table store
  store-none at s = refl

  pub store-more : (at i : ℕ) (s : List ℕ) → store (at + w * i) (le w (f i)) (store at (words w (table f i)) s) ≡ store at (words w (table f (i + 1))) s
  store-more at i s =
      ap (λ (k : ℕ). store (at + k) (le w (f i)) (store at (words w (table f i)) s)) (sym (length-table i))
      ∙ sym (store-append at (words w (table f i)) (le w (f i)) s)
      ∙ ap (λ (b : List ℕ). store at b s) (sym (words_more i) ∙ ap (λ (k : ℕ). words w (table f k)) (sym (add-one i)))

  -- compared: the bytes begin with a number more where it stands in its place
  begins-suc : (at i : ℕ) (bytes : List ℕ) → f i < 256 ^ w → at + w * i + w ≤ length bytes → Bytes bytes
      → begins (words w (table f (suc i))) (drop at bytes) ≡ (begins (words w (table f i)) (drop at bytes) && eqb (field (at + w * i) w bytes) (f i))
  begins-suc at i bytes fits room below =
      let behind : drop (length (words w (table f i))) (drop at bytes) ≡ drop (at + w * i) bytes =
      drop-drop (length (words w (table f i))) at bytes ∙ ap (λ (k : ℕ). drop (at + k) bytes) (length-table i) in
      ap (λ (b : List ℕ). begins b (drop at bytes)) (words_more i)
      ∙ begins-append (words w (table f i)) (le w (f i)) (drop at bytes)
      ∙ ap (λ (t : Bool). begins (words w (table f i)) (drop at bytes) && t)
      (ap (begins (le w (f i))) behind ∙ begins-number w (f i) (at + w * i) bytes fits room below)

  -- what begins with n numbers begins with the first i of them
  begins-front : (i n : ℕ) (bytes : List ℕ) → i ≤ n → begins (words w (table f n)) bytes ≡ true → begins (words w (table f i)) bytes ≡ true
  begins-front i zero bytes h all = let e : i ≡ 0 = omega arith in rw e all
  begins-front i (suc n) bytes h all =
      ⊎_elim
      (λ (e : i ≡ suc n). rw e all)
      (λ (l : i < suc n).
      begins-front i n bytes (omega arith)
      (first (begins (words w (table f n)) bytes) (begins (le w (f n)) (drop (length (words w (table f n))) bytes))
      (sym (begins-append (words w (table f n)) (le w (f n)) bytes) ∙ ap (λ (b : List ℕ). begins b bytes) (sym (words_more n)) ∙ all)))
      (last-or-below i (suc n) (omega arith))

  pub begins-none : (bytes : List ℕ) → begins (words w (table f 0)) bytes ≡ true
  unfolding words table begins
  begins-none bytes = refl

  module _ (at i : ℕ) (bytes : List ℕ) (fits : f i < 256 ^ w) (room : at + w * i + w ≤ length bytes) (below : Bytes bytes) where
    -- the number stands there
    pub begins-more : begins (words w (table f i)) (drop at bytes) ≡ true → field (at + w * i) w bytes ≡ f i
        → begins (words w (table f (i + 1))) (drop at bytes) ≡ true
    begins-more front e =
        ap (λ (k : ℕ). begins (words w (table f k)) (drop at bytes)) (add-one i)
        ∙ begins-suc at i bytes fits room below
        ∙ both (begins (words w (table f i)) (drop at bytes)) (eqb (field (at + w * i) w bytes) (f i)) front (eq-eqb (field (at + w * i) w bytes) (f i) e)

    -- another stands there
    pub begins-not : (n : ℕ) → i < n → (field (at + w * i) w bytes ≡ f i → ⊥) → begins (words w (table f n)) (drop at bytes) ≡ false
    begins-not n h differs =
        refuted (begins (words w (table f n)) (drop at bytes))
        (λ all.
        let front = begins-front (suc i) n (drop at bytes) (omega arith) all in
        differs
        (eqb-true (field (at + w * i) w bytes) (f i)
        (second (begins (words w (table f i)) (drop at bytes)) (eqb (field (at + w * i) w bytes) (f i)) (sym (begins-suc at i bytes fits room below) ∙ front))))
