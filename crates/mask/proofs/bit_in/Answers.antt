-- `mask::bit_in`: the place is in this word or not.
use Rattle.mask.proofs.Operations.{bit-here, bit-elsewhere}
use Rattle.mask.proofs.bit_in.Goals as goal

pub returns-then-i-q : goal.returns-then-i-q
returns-then-i-q c = bit-here c.args.i c.args.q c.if-i-q.true

pub returns-else-i-q : goal.returns-else-i-q
returns-else-i-q c = bit-elsewhere c.args.i c.args.q c.if-i-q.false
