-- `gate::held_test` meets its contract: the refusals of block_test first, then by the hand. Assumes nothing.
use Rattle.std.proofs.Common.{rules}
use Rattle.gate.specs.Gate.{held_test, then_held, held_hand}
use Rattle.gate.proofs.held_test.Goals as goal

pub returns-in_err-block_test : goal.returns-in_err-block_test
unfolding held_test then_held held_hand
returns-in_err-block_test c = search rules

pub returns-in-Held : goal.returns-in-Held
unfolding held_test then_held held_hand
returns-in-Held c = search rules

pub returns-in-Idle : goal.returns-in-Idle
unfolding held_test then_held held_hand
returns-in-Idle c = search rules
