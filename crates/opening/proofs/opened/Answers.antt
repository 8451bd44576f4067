-- `opening::opened` meets its contract: it makes the very record, with the fresh ring.
-- Assumes nothing.
use Rattle.opening.specs.Opened.{opened_stream}
use Rattle.opening.proofs.opened.Goals as goal

pub returns : goal.returns
unfolding opened_stream
returns c = rw (c.new-2.ensures, c.new.ensures)
