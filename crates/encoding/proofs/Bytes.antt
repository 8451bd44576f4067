-- Laws of reading back: bytes that begin with others are those and the rest, numbers that were laid are read again, and what was read is laid again as the bytes
-- were. By induction on the width or on the numbers. Assumes nothing.
use Prim.Native.Nat.{ℕ, zero, suc, ◌+◌, ◌*◌, ◌/◌, ◌%◌, ◌^◌, ◌≤◌, ◌<◌}
use native.Mathlib.Nat.{mul-suc, mul-zero}
use native.Mathlib.Omega.{arith}
use mathlib.Core.Path.{◌≡◌, refl, sym, ap, ap₂, ◌∙◌}
use mathlib.Core.Bool.{true, false≢true}
use mathlib.Core.List.{List, [], ◌∷◌, ◌++◌, append_assoc}
use borrow.Author.Tests.{eqb-true, eq-eqb}
use lib.Dec.{eqb}
use lib.ListN.{length, take, drop, get_or}
use lib.Seq.{drop-cons, drop-drop, drop_at, take_at, take-add}
use Rattle.sys.specs.Bytes.{le, of_le, part, field}
use Rattle.sys.proofs.Fields.{length-le, round}
use Rattle.ring.specs.Counts.{table}
use Rattle.ring.proofs.Truth.{both, first, second}
use Rattle.ring.proofs.Numbers.{table_is}
use Rattle.encoding.specs.Words.{words, numbers_at, begins}
use Rattle.encoding.proofs.Laid.{Bytes, words_more}

pub begins-same : (xs rest : List ℕ) → begins xs (xs ++ rest) ≡ true
unfolding begins
begins-same [] rest = refl
begins-same (x ∷ xs) rest = both (eqb x x) (begins xs (xs ++ rest)) (eq-eqb x x refl) (begins-same xs rest)

pub begins-split : (xs bytes : List ℕ) → begins xs bytes ≡ true → bytes ≡ xs ++ drop (length xs) bytes
unfolding begins
begins-split [] bytes e = refl
begins-split (x ∷ xs) [] e = absurd (false≢true e)
begins-split (x ∷ xs) (b ∷ bytes) e =
    ap₂ (λ (y : ℕ) (ys : List ℕ). y ∷ ys)
    (sym (eqb-true x b (first (eqb x b) (begins xs bytes) e)))
    (begins-split xs bytes (second (eqb x b) (begins xs bytes) e))

pub begins-long : (xs bytes : List ℕ) → begins xs bytes ≡ true → length xs ≤ length bytes
unfolding begins
begins-long [] bytes e = omega arith
begins-long (x ∷ xs) [] e = absurd (false≢true e)
begins-long (x ∷ xs) (b ∷ bytes) e = omega (arith, begins-long xs bytes (second (eqb x b) (begins xs bytes) e))

-- the bytes of the number that is read there
le-back : (w at : ℕ) (bytes : List ℕ) → Bytes bytes → at + w ≤ length bytes → le w (field at w bytes) ≡ part at w bytes
unfolding le of_le
le-back zero at bytes below room = refl
le-back (suc w) at bytes below room =
    let inside : at < length bytes = omega arith in
    let b = get_or bytes at 0 in
    let high = field (suc at) w bytes in
    let byte : b < 256 = below at in
    let low : (256 * high + b) % 256 ≡ b = omega arith in
    let rest : (256 * high + b) / 256 ≡ high = omega arith in
    rw (drop-cons bytes at 0 inside)
    (ap₂ (λ (y : ℕ) (ys : List ℕ). y ∷ ys) low (ap (le w) rest ∙ le-back w (suc at) bytes below (omega arith)))

-- laying the numbers that are read there gives the bytes
pub words_back : (w k at : ℕ) (bytes : List ℕ) → Bytes bytes → at + w * k ≤ length bytes → words w (numbers_at w k at bytes) ≡ part at (w * k) bytes
unfolding words numbers_at table
words_back w zero at bytes below room = rw mul-zero
words_back w (suc k) at bytes below room =
    let number : ℕ → ℕ = λ i. field (at + w * i) w bytes in
    let here : at + w * k + w ≤ length bytes = omega (arith, mul-suc w k) in
    words_more w number k
    ∙ ap₂ (λ (us vs : List ℕ). us ++ vs)
    (words_back w k at bytes below (omega arith))
    (le-back w (at + w * k) bytes below here ∙ ap (take w) (sym (drop-drop (w * k) at bytes)))
    ∙ sym (take-add (w * k) w (drop at bytes))
    ∙ ap (λ (n : ℕ). take n (drop at bytes)) (sym (mul-suc w k))

-- the number at place k of those that were laid
word_at : (w k : ℕ) (vs post : List ℕ) → k < length vs → get_or vs k 0 < 256 ^ w → field (w * k) w (words w vs ++ post) ≡ get_or vs k 0
unfolding words
word_at w k [] post h fits = absurd (omega arith)
word_at w zero (v ∷ vs) post h fits =
    rw (mul-zero, append_assoc (le w v) (words w vs) post, take_at (le w v) (words w vs ++ post) w (length-le w v)) (round w v fits)
word_at w (suc k) (v ∷ vs) post h fits =
    let past : w * suc k ≡ w + w * k = mul-suc w k ∙ omega arith in
    rw (past, append_assoc (le w v) (words w vs) post, ← drop-drop (w * k) w (le w v ++ (words w vs ++ post)), drop_at (le w v) (words w vs ++ post) w (length-le w v))
    (word_at w k vs post (omega arith) fits)

-- numbers that were laid behind others are read again
module _ (w at : ℕ) (pre vs post bytes : List ℕ) (e : bytes ≡ pre ++ (words w vs ++ post)) (long : length pre ≡ at) where
  pub number-at : (k : ℕ) → k < length vs → get_or vs k 0 < 256 ^ w → field (at + w * k) w bytes ≡ get_or vs k 0
  number-at k h fits =
      rw (e, ← drop-drop (w * k) at (pre ++ (words w vs ++ post)), drop_at pre (words w vs ++ post) at long) (word_at w k vs post h fits)

  pub numbers-back : ((k : ℕ) → k < length vs → get_or vs k 0 < 256 ^ w) → numbers_at w (length vs) at bytes ≡ vs
  unfolding numbers_at
  numbers-back fits = table_is (λ i. field (at + w * i) w bytes) 0 (length vs) vs refl (λ k h. number-at k h (fits k h))
