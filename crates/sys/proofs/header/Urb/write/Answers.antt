-- The header's numbers are laid at their widths, 56 bytes, each signed one as the number that stands for it.
use Rattle.std.proofs.Common.{arith}
use Rattle.sys.specs.Bytes.{le, laid}
use Rattle.sys.specs.Header.{header_bytes}
use Rattle.sys.proofs.Signs.{stands}
use Rattle.sys.proofs.header.Urb.write.Goals as goal

pub lay-requires : goal.lay-requires
unfolding laid le
lay-requires c = c.requires

pub returns : goal.returns
unfolding header_bytes laid le
returns c = grind (arith, stands)
