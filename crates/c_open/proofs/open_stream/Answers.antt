-- `c_open::open_stream` meets its contract: 31 for a policy or tag that names none, and else the values are opened. Assumes nothing.
use Rattle.std.proofs.Common.{rules}
use Rattle.layout.specs.Numbers.{setup_from}
use Rattle.from_c.specs.Told.{told}
use Rattle.from_c.specs.FromC.{not_an_image}
use Rattle.c_open.specs.Open.{open_from_c, names_none}
use Rattle.c_open.proofs.open_stream.Goals as goal

pub returns-then-policy-gt2 : goal.returns-then-policy-gt2
unfolding open_from_c names_none setup_from not_an_image told
returns-then-policy-gt2 c = search rules

pub returns : goal.returns
unfolding open_from_c names_none setup_from not_an_image told
returns c = search rules
