-- `image::read::read_setup` meets its contract: the nine numbers, read one by one. Assumes nothing.
use Rattle.std.proofs.Common.{rules}
use Rattle.image.specs.Reading.{setup_in}
use Rattle.layout.specs.Numbers.{setup_from}
use Rattle.encoding.specs.Words.{numbers_at}
use Rattle.ring.specs.Counts.{table}
use Rattle.image.proofs.read.read_setup.Goals as goal

pub returns : goal.returns
unfolding setup_in setup_from numbers_at table
returns c = search rules
