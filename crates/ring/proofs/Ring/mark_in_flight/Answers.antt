-- `ring::Ring::mark_in_flight`: the slot leaves the mask of the Filling ones for that of the InFlight ones.
use Rattle.std.proofs.Common.{ap}
use Rattle.ring.specs.Parts.{state_of, with_masks, with_state, with_out}
use Rattle.ring.specs.Moves.{marked_in_flight}
use Rattle.ring.proofs.Moves.{moved_out}
use Rattle.ring.proofs.Ring.mark_in_flight.Goals as goal

pub returns : goal.returns
unfolding marked_in_flight with_state with_masks with_out state_of
returns c =
    let ring = c.args.self in
    rw (c.without-self.ensures, c.with-self.ensures)
    (ap (with_masks (with_out ring _)) (moved_out ring c.requires.2 c.args.i c.requires.3))
