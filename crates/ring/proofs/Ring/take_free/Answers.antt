-- `ring::Ring::take_free`: an empty queue gives nothing; else the queue is its front and the rest, and moving the places down leaves
-- the rest in them.
use Rattle.std.proofs.Common.{◌≡◌, length, arith, rules}
use Rattle.ring.specs.Parts.{queue_of, state_of, with_queue, with_masks, with_state}
use Rattle.ring.specs.Moves.{taken, taken_from}
use Rattle.ring.proofs.Moves.{moved-taken}
use Rattle.ring.proofs.Queue.{front_rest, rest-long, moved-down}
use Rattle.ring.proofs.Ring.take_free.Goals as goal

pub returns-then-len-eq0 : goal.returns-then-len-eq0
unfolding taken taken_from queue_of
returns-then-len-eq0 c = rw c.if-len-eq0.true

pub returns : goal.returns
unfolding taken taken_from queue_of with_queue with_state with_masks state_of
returns c =
    let ring = c.args.self in
    let w : length ring.free ≡ 256 = search rules in
    let queue = front_rest ring.free ring.free_len (omega arith) (omega arith) in
    rw (
      queue,
      rest-long ring.free ring.free_len (omega arith),
      c.with-self.ensures,
      c.from-slot.ensures,
      c.copy_within.ensures.after,
      moved-down ring.free ring.free_len,
      moved-taken ring c.requires.1 _ (c.requires.2 _ _ queue),
    )
