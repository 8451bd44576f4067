-- `ring::Ring::release`: the slot leaves the mask of the Filling ones, and stands at the queue's end.
use Rattle.ring.specs.Parts.{queue_of, state_of, with_queue, with_masks, with_state}
use Rattle.ring.specs.Moves.{returned}
use Rattle.ring.proofs.Moves.{moved_back}
use Rattle.ring.proofs.Ring.release.Goals as goal

pub returns : goal.returns
unfolding returned with_queue queue_of with_state with_masks state_of
returns c =
    rw (c.push_free.ensures, c.without-self.ensures, moved_back c.args.self c.requires.2 c.args.i c.requires.3)
