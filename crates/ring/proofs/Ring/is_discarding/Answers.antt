-- `ring::Ring::is_discarding`: the mask has the slot exactly when that is its state.
use Rattle.std.proofs.Common.{◌∙◌}
use Rattle.ring.specs.Parts.{state_of}
use Rattle.ring.proofs.Masks.{discarding-bit}
use Rattle.ring.proofs.Ring.is_discarding.Goals as goal

pub returns : goal.returns
unfolding state_of
returns c = c.has.ensures ∙ discarding-bit c.args.self.now.states c.requires.0 c.args.i c.requires.1
