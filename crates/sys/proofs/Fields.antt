-- Laws of little-endian numbers in a block, each for every width: a number that fits its width is read back, and a byte more is 256 times the rest.
-- Assumes nothing.
use mathlib.Core.Path.{◌≡◌, refl, ap, ◌∙◌}
use mathlib.Core.List.{List}
use Prim.Native.Nat.{ℕ, zero, suc, ◌+◌, ◌*◌, ◌/◌, ◌%◌, ◌^◌, ◌≤◌, ◌<◌}
use native.Mathlib.Nat.{pow-suc, div-lt_iff_lt-mul, div-add-mod}
use native.Mathlib.Omega.{arith}
use lib.Dec.{lit<}
use lib.ListN.{length, get_or}
use lib.Seq.{drop-cons}
use Rattle.sys.specs.Bytes.{le, of_le, part, field, store}
use Rattle.sys.proofs.Store.{Apart, apart_in, part_in, part_same, part-other, part-part}

pub length-le : (k v : ℕ) → length (le k v) ≡ k
unfolding le
length-le zero v = refl
length-le (suc k) v = ap suc (length-le k (v / 256))

-- a number that fits in k bytes is what its k bytes say
pub round : (k v : ℕ) → v < 256 ^ k → of_le (le k v) ≡ v
unfolding le of_le
round zero v h = omega arith
round (suc k) v h =
    let high : v / 256 < 256 ^ k = (div-lt_iff_lt-mul (lit< tt)).1 (rw pow-suc at h) in
    ap (λ (n : ℕ). 256 * n + v % 256) (round k (v / 256) high) ∙ div-add-mod v 256

-- a field that was stored with room is read back
pub field-same : (at k v : ℕ) (l : List ℕ) → v < 256 ^ k → at + k ≤ length l → field at k (store at (le k v) l) ≡ v
field-same at k v l h room =
    let e : length (le k v) ≡ k = length-le k v in
    ap of_le (rw e at (part_same at (le k v) l (omega arith))) ∙ round k v h

-- a number inside what was stored with room is read back
pub field_in : (at i k v : ℕ) (vs l : List ℕ) → i + k ≤ length vs → at + length vs ≤ length l → part i k vs ≡ le k v → v < 256 ^ k
    → field (at + i) k (store at vs l) ≡ v
field_in at i k v vs l h room e below = ap of_le (part_in at i k vs l h room ∙ e) ∙ round k v below

-- a field leaves its neighbours alone
pub field-other : (at k bt : ℕ) (vs l : List ℕ) → Apart at k bt (length vs) → field at k (store bt vs l) ≡ field at k l
field-other at k bt vs l h = ap of_le (part-other at k bt vs l h)

-- a field inside a whole, and a store apart from the whole
pub field_apart : (at n i k bt : ℕ) (vs l : List ℕ) → i + k ≤ n → Apart at n bt (length vs) → field (at + i) k (store bt vs l) ≡ field (at + i) k l
field_apart at n i k bt vs l h apart = field-other (at + i) k bt vs l (apart_in at n i k bt (length vs) h apart)

-- a field of a part
pub field-part : (at n i k : ℕ) (l : List ℕ) → i + k ≤ n → at + n ≤ length l → field i k (part at n l) ≡ field (at + i) k l
field-part at n i k l h room = ap of_le (part-part at n i k l h room)

-- a field of one byte more: that byte, and 256 times the rest
pub field-suc : (at k : ℕ) (l : List ℕ) → at < length l → field at (suc k) l ≡ 256 * field (suc at) k l + get_or l at 0
unfolding of_le
field-suc at k l h = rw (drop-cons l at 0 h)

-- a number of k bytes with a byte more below it fits k + 1 bytes
pub below_suc : (k v b : ℕ) → v < 256 ^ k → b < 256 → 256 * v + b < 256 ^ suc k
below_suc k v b h hb = rw pow-suc (omega arith)
