-- `turn::count_underrun` meets its contract: the record with armed off and one more underrun is the one that shows the ledger after it.
-- Assumes nothing.
use Rattle.stream.proofs.Arrays.{arrays}
use Rattle.stream.specs.Parts.{with_state}
use Rattle.ledger.specs.Ledger.{plus}
use Rattle.ledger.specs.Turn.{one_underrun}
use Rattle.turn.proofs.Underruns.{counted}
use Rattle.turn.proofs.count_underrun.Goals as goal

pub returns : goal.returns
unfolding with_state one_underrun plus
returns c = counted c.args.s c.requires (arrays c.args.s c.well_formed.0)
