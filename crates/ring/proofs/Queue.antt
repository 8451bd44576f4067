-- Laws of the queue: what taking from its front and adding at its end do to the places that hold it.
-- By the library's laws of `take`, `drop` and `set`. Assumes nothing.
use Rattle.std.proofs.Common.{◌≡◌, ℕ, zero, suc, ◌+◌, ◌-◌, ◌<◌, ◌≤◌, List, [], ◌∷◌, ◌++◌, length, get_or, take, drop, set, zero-add, add-one, arith, length-append, length-drop, take-append-drop, length-take-le}
use Rattle.std.specs.List.{copy_within}
use lib.Seq.{set_split, append_snoc, take-append_seam}
use Rattle.ring.specs.declared.Ring.{Ring}
use Rattle.ring.specs.Parts.{queue_of, with_queue, with_out}

-- A queue of at least one: its front, and the rest.
pub front_rest : (l : List ℕ) (n : ℕ) → 0 < n → 0 < length l → take n l ≡ get_or l 0 0 ∷ take (n - 1) (drop 1 l)
front_rest [] n h w = absurd (omega arith)
front_rest (x ∷ l) zero h w = absurd (omega arith)
front_rest (x ∷ l) (suc n) h w = let e : suc n - 1 ≡ n = omega arith in rw e

-- The rest behind the front, and how long it is.
pub rest-long : (l : List ℕ) (n : ℕ) → n ≤ length l → length (take (n - 1) (drop 1 l)) ≡ n - 1
rest-long l n h = length-take-le (n - 1) (drop 1 l) (rw length-drop (omega arith))

-- The places behind the front moved down by one: they hold the rest, and behind it what stood there.
pub moved-down : (l : List ℕ) (n : ℕ) → copy_within l 1 n 0 ≡ take (n - 1) (drop 1 l) ++ drop (n - 1) l
moved-down l n = rw zero-add

-- One more at the queue's end: how long it is, and that it is written behind it.
pub more-long : (l : List ℕ) (n i : ℕ) → n ≤ length l → length (take n l ++ (i ∷ [])) ≡ n + 1
more-long l n i h = rw (length-append, length-take-le n l h)

pub more-places : (l : List ℕ) (n i : ℕ) → n < length l → (take n l ++ (i ∷ [])) ++ drop (n + 1) l ≡ set l n i
more-places l n i h = rw (set_split l n i h, append_snoc, add-one)

module _ (ring : Ring) where
  pub queue-kept : ring.free_len ≤ length ring.free → with_queue ring (queue_of ring) ≡ ring
  unfolding queue_of with_queue
  queue-kept w = rw (length-take-le ring.free_len ring.free w, take-append-drop)

  pub queue_long : ring.free_len ≤ length ring.free → length (queue_of ring) ≡ ring.free_len
  unfolding queue_of
  queue_long w = length-take-le ring.free_len ring.free w

-- another queue, and another out count with it
module _ (ring : Ring) (queue : List ℕ) (count : ℕ) where
  pub queue-put : queue_of (with_out (with_queue ring queue) count) ≡ queue
  unfolding queue_of with_out with_queue
  queue-put = take-append_seam queue (drop (length queue) ring.free)

  pub places-put : length ring.free ≡ 256 → length queue ≤ 256 → length (with_out (with_queue ring queue) count).free ≡ 256
  unfolding with_out with_queue
  places-put wide fits = rw (length-append, length-drop, wide) (omega arith)
