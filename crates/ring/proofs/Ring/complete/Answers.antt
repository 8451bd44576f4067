-- `ring::Ring::complete`: the slot leaves the masks of those out, one less is out, and it stands at the queue's end.
use Rattle.ring.specs.Parts.{queue_of, state_of, with_queue, with_masks, with_state, with_out}
use Rattle.ring.specs.Moves.{returned, completed}
use Rattle.ring.proofs.Moves.{moved-home}
use Rattle.ring.proofs.Ring.complete.Goals as goal

pub returns : goal.returns
unfolding completed returned with_queue queue_of with_state with_masks with_out state_of
returns c =
    rw (
      c.push_free.ensures,
      c.without-self.ensures,
      c.without-self-2.ensures,
      moved-home c.args.self c.requires.3 c.args.i c.requires.4,
    )
