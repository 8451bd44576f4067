-- The entries so far are below n, and the slots at home so far are seen, none of them twice.
use Rattle.std.proofs.Common.{◌≡◌, ℕ, ◌^◌, ◌<◌, true, length, get_or, take}
use Rattle.ring.specs.Counts.{all_below}
use Rattle.ring.proofs.Walk.{Seen}
use Rattle.ring.proofs.pieces.walk_queue.Given as goal

abbrev pub invariant-loop-place : goal.invariant-loop-place
invariant-loop-place l =
    (length l.seen ≡ 4)
    × ((j : ℕ) → j < 4 → get_or l.seen j 0 < 2 ^ 64)
    × (all_below l.n (take l.place-index l.queue) ≡ true)
    × Seen l.fn.start (take l.place-index l.queue) l.seen
