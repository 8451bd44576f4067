-- Laws of `store` and `part`: a store keeps the block's length, stores one after the other are one store of the joined bytes, a part that a store
-- covers is what was stored, and one apart from it is as it was. A store past the end vanishes, so only reading back asks for room. Assumes nothing.
use mathlib.Core.Path.{◌≡◌, refl, sym, ap, ◌∙◌}
use mathlib.Core.Logic.{◌≢◌, ◌⊎◌, inl, inr}
use mathlib.Core.List.{List, [], ◌∷◌, ◌++◌, append_assoc}
use Prim.Native.Nat.{ℕ, suc, ◌+◌, ◌-◌, ◌≤◌}
use native.Mathlib.Nat.{add-zero, add-suc, suc-add}
use native.Mathlib.Omega.{arith}
use lib.ListN.{length, take, drop, take-append-drop, set, length-drop}
use lib.Seq.{length-sets, sets-eq, set_comm, drop-set-lt, drop-set-add, take-set-le, drop_at, take-append-le, drop-append-le, drop-drop, length-take-le, take-length}
use borrow.Rule.Slice.PartMut.{put_mid}
use Rattle.sys.specs.Bytes.{part, store}

-- k bytes at `at` and m bytes at `other` share none
abbrev pub Apart : ℕ → ℕ → ℕ → ℕ → Type 0
Apart at k other m = (at + k ≤ other) ⊎ (other + m ≤ at)

pub apart-swap : (at k bt m : ℕ) → Apart at k bt m → Apart bt m at k
apart-swap at k bt m (inl h) = inr h
apart-swap at k bt m (inr h) = inl h

-- what lies inside is apart from all that the whole is apart from
pub apart_in : (at n i k bt m : ℕ) → i + k ≤ n → Apart at n bt m → Apart (at + i) k bt m
apart_in at n i k bt m h (inl a) = inl (omega arith)
apart_in at n i k bt m h (inr a) = inr (omega arith)

-- the first of several bytes, and the others
apart-first : (at k bt m : ℕ) → Apart at k bt (suc m) → Apart at k bt 1
apart-first at k bt m (inl h) = inl h
apart-first at k bt m (inr h) = inr (omega arith)

apart-rest : (at k bt m : ℕ) → Apart at k bt (suc m) → Apart at k (suc bt) m
apart-rest at k bt m (inl h) = inl (omega arith)
apart-rest at k bt m (inr h) = inr (omega arith)

apart-ne : (i at m : ℕ) → Apart i 1 at (suc m) → at ≢ i
apart-ne i at m (inl h) e = omega arith
apart-ne i at m (inr h) e = omega arith

pub length-store : (at : ℕ) (vs l : List ℕ) → length (store at vs l) ≡ length l
unfolding store
length-store at vs l = length-sets l at vs

-- one store of joined bytes is two
pub store-append : (at : ℕ) (us vs l : List ℕ) → store at (us ++ vs) l ≡ store (at + length us) vs (store at us l)
unfolding store
store-append at [] vs l = rw add-zero
store-append at (u ∷ us) vs l = rw (store-append (suc at) us vs (set l at u), suc-add, add-suc)

-- one byte and a store apart from it, in either order
set-store : (i a at : ℕ) (vs l : List ℕ) → Apart i 1 at (length vs) → set (store at vs l) i a ≡ store at vs (set l i a)
unfolding store
set-store i a at [] l h = refl
set-store i a at (v ∷ vs) l h = rw (set-store i a (suc at) vs (set l at v) (apart-rest i 1 at (length vs) h), set_comm l at i v a (apart-ne i at (length vs) h))

-- two stores apart, in either order
pub store-comm : (at bt : ℕ) (us vs l : List ℕ) → Apart at (length us) bt (length vs) → store bt vs (store at us l) ≡ store at us (store bt vs l)
unfolding store
store-comm at bt us [] l h = refl
store-comm at bt us (v ∷ vs) l h =
    rw (set-store bt v at us l (apart-swap at (length us) bt 1 (apart-first at (length us) bt (length vs) h)))
    (store-comm at (suc bt) us vs (set l bt v) (apart-rest at (length us) bt (length vs) h))

-- a store with room is the front, the bytes and the rest
pub store-eq : (at : ℕ) (vs l : List ℕ) → at + length vs ≤ length l → store at vs l ≡ take at l ++ vs ++ drop (at + length vs) l
unfolding store
store-eq at vs l h = sets-eq vs l at h

-- a part of the first list of two
part-append-left : (at k : ℕ) (xs ys : List ℕ) → at + k ≤ length xs → part at k (xs ++ ys) ≡ part at k xs
part-append-left at k xs ys h =
    let room : at ≤ length xs = omega arith in
    let inside : k ≤ length (drop at xs) = simp length-drop (omega arith) in
    rw (drop-append-le at xs ys room, take-append-le k (drop at xs) ys inside)

-- a part of what a store with room covers is that part of the bytes stored
pub part_in : (at i k : ℕ) (vs l : List ℕ) → i + k ≤ length vs → at + length vs ≤ length l → part (at + i) k (store at vs l) ≡ part i k vs
part_in at i k vs l h room =
    let front : length (take at l) ≡ at = length-take-le at l (omega arith) in
    rw (store-eq at vs l room, append_assoc (take at l) vs (drop (at + length vs) l), ← drop-drop i at (take at l ++ (vs ++ drop (at + length vs) l)), drop_at (take at l) (vs ++ drop (at + length vs) l) at front)
    (part-append-left i k vs (drop (at + length vs) l) h)

-- what was stored with room is read back
pub part_same : (at : ℕ) (vs l : List ℕ) → at + length vs ≤ length l → part at (length vs) (store at vs l) ≡ vs
part_same at vs l room = rw (add-zero, take-length) at (part_in at 0 (length vs) vs l (omega arith) room)

-- a byte stored outside a part leaves it
part-set : (at k : ℕ) (l : List ℕ) (i a : ℕ) → Apart at k i 1 → part at k (set l i a) ≡ part at k l
part-set at k l i a (inl h) =
    let e : at + (i - at) ≡ i = omega arith in
    let past : k ≤ i - at = omega arith in
    rw e at (ap (take k) (drop-set-add at l (i - at) a) ∙ take-set-le k (drop at l) (i - at) a past)
part-set at k l i a (inr h) = ap (take k) (drop-set-lt at l i a (omega arith))

-- a store apart from a part leaves it
pub part-other : (at k bt : ℕ) (vs l : List ℕ) → Apart at k bt (length vs) → part at k (store bt vs l) ≡ part at k l
unfolding store
part-other at k bt [] l h = refl
part-other at k bt (v ∷ vs) l h =
    part-other at k (suc bt) vs (set l bt v) (apart-rest at k bt (length vs) h) ∙ part-set at k l bt v (apart-first at k bt (length vs) h)

-- a part that was lent and is given back with k bytes is a store of those
pub put_back : (at k : ℕ) (vs l : List ℕ) → length vs ≡ k → at + k ≤ length l → put_mid at k l vs ≡ store at vs l
put_back at k vs l e room =
    let covered : at + length vs ≤ length l = omega arith in
    let rest : drop k (drop at l) ≡ drop (at + length vs) l = drop-drop k at l ∙ ap (λ (n : ℕ). drop (at + n) l) (sym e) in
    ap (λ (r : List ℕ). take at l ++ (vs ++ r)) rest ∙ sym (append_assoc (take at l) vs (drop (at + length vs) l)) ∙ sym (store-eq at vs l covered)

-- a part of a part
pub part-part : (at n i k : ℕ) (l : List ℕ) → i + k ≤ n → at + n ≤ length l → part i k (part at n l) ≡ part (at + i) k l
part-part at n i k l h room =
    let inside : n ≤ length (drop at l) = simp length-drop (omega arith) in
    let covered : i + k ≤ length (take n (drop at l)) = rw (length-take-le n (drop at l) inside) h in
    sym (part-append-left i k (take n (drop at l)) (drop n (drop at l)) covered)
    ∙ ap (part i k) (take-append-drop n (drop at l))
    ∙ ap (take k) (drop-drop i at l)
