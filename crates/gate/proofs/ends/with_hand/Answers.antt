-- `gate::ends::with_hand` meets its contract: setup, flags and counters are the record's, ring and hand are what it is given.
-- Assumes nothing.
use Rattle.stream.specs.Parts.{with_state}
use Rattle.gate.proofs.ends.with_hand.Goals as goal

pub returns : goal.returns
unfolding with_state
returns c = c.new.ensures
