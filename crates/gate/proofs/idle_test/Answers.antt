-- `gate::idle_test` meets its contract: the refusals of block_test first, then by the hand. Assumes nothing.
use Rattle.std.proofs.Common.{rules}
use Rattle.gate.specs.Gate.{idle_test, and_then, idle_hand}
use Rattle.gate.proofs.idle_test.Goals as goal

pub returns-in_err-block_test : goal.returns-in_err-block_test
unfolding idle_test and_then idle_hand
returns-in_err-block_test c = search rules

pub returns-in-Idle : goal.returns-in-Idle
unfolding idle_test and_then idle_hand
returns-in-Idle c = search rules

pub returns-in-Held : goal.returns-in-Held
unfolding idle_test and_then idle_hand
returns-in-Held c = search rules
