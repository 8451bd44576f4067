-- Where `plan` refuses nothing is opened; else answer, record and block are what opening makes of the schedule's values.
use Rattle.std.proofs.Common.{arith}
use Rattle.opening.specs.Open.{opened_or, open_outcome}
use Rattle.builder.specs.Build.{built_or, build_outcome, opening_answer}
use Rattle.builder.proofs.IsoOutBuilder.build.Goals as goal

pub returns-in-Err : goal.returns-in-Err
unfolding build_outcome built_or
returns-in-Err c = grind arith

pub returns-in-Ok : goal.returns-in-Ok
unfolding build_outcome built_or open_outcome opened_or opening_answer
returns-in-Ok c = grind arith
