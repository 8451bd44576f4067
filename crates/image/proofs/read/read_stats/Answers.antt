-- `image::read::read_stats` meets its contract: the eight numbers, read one by one. Assumes nothing.
use Rattle.std.proofs.Common.{rules}
use Rattle.image.specs.Reading.{stats_from}
use Rattle.encoding.specs.Words.{numbers_at}
use Rattle.ring.specs.Counts.{table}
use Rattle.image.proofs.read.read_stats.Goals as goal

pub returns : goal.returns
unfolding stats_from numbers_at table
returns c = search rules
