-- Laws of lists of places: a list with more at its end, and one that is made word by word.
-- By the library's laws of stores. Assumes nothing.
use Prim.Native.Nat.{ℕ, zero, suc, ◌+◌, ◌-◌, ◌*◌, ◌≤◌, ◌<◌}
use native.Mathlib.Nat.{add-zero, sub-zero, suc-sub-suc}
use native.Mathlib.Numerals.{add-one}
use native.Mathlib.Omega.{arith}
use mathlib.Core.Path.{◌≡◌, ◌∙◌}
use mathlib.Core.List.{List, [], ◌∷◌, ◌++◌}
use lib.ListN.{length, drop, set, replicate, length-append, length-replicate}
use lib.Seq.{sets-eq, take-append_seam, drop-append-add}
use Rattle.mask.specs.declared.Mask.{Mask}
use Rattle.mask.specs.declared.list.MaskList.{MaskList}
use Rattle.mask.specs.Bits.{bit, places}
use Rattle.mask.specs.Masks.{word_at, member, list_of, with_more}
use Rattle.mask.proofs.Masks.{places-length, word-places}

-- ---- a list with more at its end

pub more-none : (list : MaskList) → with_more list [] ≡ list
unfolding with_more
more-none list = rw add-zero

-- the first is stored, and then the others
pub more-next :
    (list : MaskList) (p : ℕ) (ps : List ℕ) →
    with_more list (p ∷ ps) ≡ with_more (record { places = set list.places list.count p; count = list.count + 1 }) ps
unfolding with_more
more-next list p ps = let e : list.count + suc (length ps) ≡ list.count + 1 + length ps = omega arith in rw (e, add-one)

drop-replicate : (n m : ℕ) → drop {A = ℕ} n (replicate m 0) ≡ replicate (m - n) 0
drop-replicate zero m = rw sub-zero
drop-replicate (suc n) zero = let e : 0 - suc n ≡ 0 = omega arith in rw e
drop-replicate (suc n) (suc m) = rw suc-sub-suc (drop-replicate n m)

pub more_of : (l ps : List ℕ) → length l + length ps ≤ 256 → with_more (list_of l) ps ≡ list_of (l ++ ps)
unfolding with_more list_of
more_of l ps h =
    let n = 256 - length l in
    let r : length l + length ps ≤ length (l ++ replicate n 0) = simp (length-append, length-replicate) (omega arith) in
    let s : n - length ps ≡ 256 - (length l + length ps) = omega arith in
    rw (sets-eq ps (l ++ replicate n 0) (length l) r, take-append_seam, drop-append-add, drop-replicate, s, ← length-append)

-- the list of the places in a mask's first q words: there is room for those in word q, and with them it is that of the first q + 1
module _ (m : Mask) (q : ℕ) (h : q < 4) (list : MaskList) (e : list ≡ list_of (places 0 (q * 64) (member m))) where
  pub word_room : list.count + length (places (q * 64) 64 (bit (word_at m q))) ≤ 256
  unfolding list_of
  word_room = rw e (omega (arith, places-length 0 (q * 64) (member m), places-length (q * 64) 64 (bit (word_at m q))))

  pub word_more :
      (r : MaskList) → r ≡ with_more list (places (q * 64) 64 (bit (word_at m q))) → r ≡ list_of (places 0 (q * 64 + 64) (member m))
  unfolding list_of
  word_more r s =
      s ∙ rw (e, word-places m q) (more_of (places 0 (q * 64) (member m)) (places (q * 64) 64 (bit (word_at m q))) (rw e at word_room))
