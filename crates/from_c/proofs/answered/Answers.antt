-- `from_c::answered` meets its contract: 31 where the record was no image, else the image and the answer. Assumes nothing.
use Rattle.std.proofs.Common.{rules}
use Rattle.from_c.specs.FromC.{answered_by, not_an_image}
use Rattle.from_c.specs.Told.{told}
use Rattle.from_c.proofs.answered.Goals as goal

pub returns-then-number_of-eq8 : goal.returns-then-number_of-eq8
unfolding answered_by not_an_image told
returns-then-number_of-eq8 c = search rules

pub returns : goal.returns
unfolding answered_by not_an_image told
returns c = search rules
