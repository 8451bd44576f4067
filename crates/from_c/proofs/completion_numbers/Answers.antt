-- `from_c::completion_numbers` meets its contract: the seven numbers and a zero. Assumes nothing.
use Rattle.std.proofs.Common.{rules}
use Rattle.encoding.specs.Words.{places}
use Rattle.ring.specs.Counts.{table}
use Rattle.stream.specs.Numbers.{figures_of}
use Rattle.from_c.specs.Told.{unsigned64}
use Rattle.ring.specs.Slots.{one}
use Rattle.from_c.proofs.completion_numbers.Goals as goal

pub returns : goal.returns
unfolding places table figures_of unsigned64 one
returns c = search rules
