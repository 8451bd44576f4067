-- Within the limits the total fits, and the layout is that of the four values.
use Rattle.std.proofs.Common.{arith}
use Rattle.layout.specs.Opening.{layout_for}
use Rattle.layout.proofs.Limits.{limited-small}
use Rattle.layout.proofs.Setup.layout_of.Goals as goal

pub of-requires-clause-packet_bytes_bound : goal.of-requires-clause-packet_bytes_bound
of-requires-clause-packet_bytes_bound c = (omega (arith, limited-small _ c.requires), c.requires.some-frame)

pub returns : goal.returns
unfolding layout_for
returns c = c.of.ensures
