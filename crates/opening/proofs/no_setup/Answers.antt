-- `opening::no_setup` meets its contract: it makes the very record.
-- Assumes nothing.
use mathlib.Core.Path.{refl}
use Rattle.layout.specs.Numbers.{policy_from, setup_from}
use Rattle.opening.specs.Opened.{no_setup}
use Rattle.opening.proofs.no_setup.Goals as goal

pub returns : goal.returns
unfolding no_setup setup_from policy_from
returns c = refl
