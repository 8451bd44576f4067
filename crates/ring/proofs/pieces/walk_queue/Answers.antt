-- `ring::pieces::walk_queue`: where it gives up, one of the facts of the loop fails; else the slots at home are seen.
use Rattle.std.proofs.Common.{◌≡◌, ℕ, ◌^◌, ◌<◌, true, List, length, get_or, take, refl, length-set, rules}
use Rattle.std.proofs.lemmas.List.{take_all}
use Rattle.mask.specs.declared.Mask.{Mask}
use Rattle.mask.proofs.Masks.{Fits, fits}
use Rattle.ring.specs.Counts.{all_below}
use Rattle.ring.proofs.Walk.{Seen, Walking, none-walked, none-fits, below_next, seen_next, fits_next, stray, twice, walked}
use Rattle.ring.proofs.pieces.walk_queue.Goals.{then-n-slot-via-then-n-slot, then-n-slot-via-else-n-slot+then-was-bit-ne0}
use Rattle.ring.proofs.pieces.walk_queue.Goals as goal

-- what a round starts from, by the loop's invariant
walking :
    (n : ℕ) (start : Mask) (queue : List ℕ) (k : ℕ) (seen : List ℕ) (slot : ℕ) → k < length queue → slot ≡ get_or queue k 0 → slot < 256 →
    (length seen ≡ 4) × ((j : ℕ) → j < 4 → get_or seen j 0 < 2 ^ 64) × (all_below n (take k queue) ≡ true) × Seen start (take k queue) seen →
    Walking n start queue k seen slot
walking n start queue k seen slot i e b inv =
    record { inside = i; words = inv.0; fits = inv.1; entry = e; byte = b; below = inv.2; marked = inv.3 }

pub loop-place-init : goal.loop-place-init
unfolding all_below
loop-place-init c =
    let start : Fits c.args.start = search (rules, fits) in
    (refl, none-fits c.args.start start, refl, none-walked c.args.start)

pub returns-then-n-slot : goal.returns-then-n-slot
returns-then-n-slot c =
    let byte : c.from-slot.result < 256 = search rules in
    let w = walking _ _ _ _ _ _ c.loop-place-test.true c.from-slot.ensures byte c.loop-place.invariant in
    elim c.then-n-slot.branch [
      | then-n-slot-via-then-n-slot b ↦ stray w _ b.if-n-slot.true
      | then-n-slot-via-else-n-slot+then-was-bit-ne0 b ↦ twice w _ b.if-was-bit-ne0.true
    ]

pub loop-place-preserved : goal.loop-place-preserved
loop-place-preserved c =
    let byte : c.from-slot.result < 256 = search rules in
    let w = walking _ _ _ _ _ _ c.loop-place-test.true c.from-slot.ensures byte c.loop-place.invariant in
    (simp length-set w.words, fits_next w, below_next w c.if-n-slot.false, seen_next w c.if-was-bit-ne0.false)

pub returns : goal.returns
returns c =
    let queue = c.args.queue.now in
    let e : take c.loop-place.place-index queue ≡ queue = take_all _ _ c.loop-place-test.false in
    walked c.args.n c.args.start (length queue) queue c.loop-place.seen c.requires
    c.loop-place.invariant.1 (rw e at c.loop-place.invariant.2) (rw e at c.loop-place.invariant.3)
