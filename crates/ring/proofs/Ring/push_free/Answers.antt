-- `ring::Ring::push_free`: the queue's end is the place behind it, and the slot is written there.
use Rattle.std.proofs.Common.{◌≡◌, length, arith, rules}
use Rattle.ring.specs.Parts.{queue_of, with_queue}
use Rattle.ring.proofs.Queue.{more-long, more-places}
use Rattle.ring.proofs.Ring.push_free.Goals as goal

pub returns : goal.returns
unfolding queue_of with_queue
returns c =
    let ring = c.args.self in
    let w : length ring.free ≡ 256 = search rules in
    rw (
      more-long ring.free ring.free_len c.args.i (omega arith),
      more-places ring.free ring.free_len c.args.i (omega arith),
    )
