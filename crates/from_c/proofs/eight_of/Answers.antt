-- `from_c::eight_of` meets its contract: each answer has its eight numbers. Assumes nothing.
use Rattle.std.proofs.Common.{rules}
use Rattle.from_c.specs.Told.{eight_of, unsigned64}
use Rattle.encoding.specs.Words.{places}
use Rattle.ring.specs.Counts.{table}
use Rattle.stream.specs.Numbers.{numbers_of}
use Rattle.from_c.proofs.eight_of.Goals as goal

pub returns-in-Refused : goal.returns-in-Refused
unfolding eight_of places table numbers_of unsigned64
returns-in-Refused c = search rules

pub returns-in-Done : goal.returns-in-Done
unfolding eight_of places table numbers_of unsigned64
returns-in-Done c = search rules

pub returns-in-Stopped : goal.returns-in-Stopped
unfolding eight_of places table numbers_of unsigned64
returns-in-Stopped c = search rules

pub returns-in-Nothing : goal.returns-in-Nothing
unfolding eight_of places table numbers_of unsigned64
returns-in-Nothing c = search rules

pub returns-in-Slot : goal.returns-in-Slot
unfolding eight_of places table numbers_of unsigned64
returns-in-Slot c = search rules

pub returns-in-Submit : goal.returns-in-Submit
unfolding eight_of places table numbers_of unsigned64
returns-in-Submit c = search rules

pub returns-in-Completed : goal.returns-in-Completed
unfolding eight_of places table numbers_of unsigned64
returns-in-Completed c = search rules

pub returns-in-Foreign : goal.returns-in-Foreign
unfolding eight_of places table numbers_of unsigned64
returns-in-Foreign c = search rules

pub returns-in-Yes : goal.returns-in-Yes
unfolding eight_of places table numbers_of unsigned64
returns-in-Yes c = search rules
