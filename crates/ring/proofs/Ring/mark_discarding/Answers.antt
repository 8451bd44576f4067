-- `ring::Ring::mark_discarding`: the InFlight slots join the Discarding ones, and none is InFlight.
use Rattle.std.proofs.Common.{ap}
use Rattle.ring.specs.Parts.{with_masks}
use Rattle.ring.specs.Moves.{discarded}
use Rattle.ring.proofs.Moves.{moved-discarded}
use Rattle.ring.proofs.Ring.mark_discarding.Goals as goal

pub returns : goal.returns
unfolding discarded with_masks
returns c =
    rw (c.none-self.ensures, c.union-self.ensures)
    (ap (with_masks c.args.self) (moved-discarded c.args.self c.requires))
