-- `commit::slot_capacity` meets its contract: accepted values are within the limits, and their layout has the capacity.
-- Assumes nothing.
use Rattle.layout.specs.Layout.{layout_of}
use Rattle.layout.specs.Opening.{layout_for}
use Rattle.layout.proofs.Admission.{admits}
use Rattle.commit.proofs.slot_capacity.Goals as goal

pub layout_of-requires : goal.layout_of-requires
unfolding layout_for layout_of
layout_of-requires c = (admits c.args.setup c.requires).limits

pub returns : goal.returns
unfolding layout_for layout_of
returns c = rw c.layout_of.ensures
