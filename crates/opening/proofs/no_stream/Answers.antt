-- `opening::no_stream` meets its contract: the values of `no_setup` have no slots, and the record is the one opened with them.
-- Assumes nothing.
use mathlib.Core.Path.{ap, ◌∙◌}
use native.Mathlib.Omega.{arith}
use Rattle.layout.specs.Numbers.{setup_from}
use Rattle.opening.specs.Opened.{no_setup, no_stream, opened_stream}
use Rattle.opening.proofs.no_stream.Goals as goal

pub opened-requires : goal.opened-requires
unfolding no_setup setup_from
opened-requires c = rw c.no_setup.ensures (omega arith)

pub returns : goal.returns
unfolding no_stream
returns c = c.opened.ensures ∙ ap opened_stream c.no_setup.ensures
