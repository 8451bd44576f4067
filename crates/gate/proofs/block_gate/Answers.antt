-- `gate::block_gate` meets its contract: it goes by the record's own test. Assumes nothing.
use Rattle.gate.proofs.Gates.{gate-asks, block-is}
use Rattle.gate.proofs.block_gate.Goals as goal

pub block_test-requires : goal.block_test-requires
block_test-requires c = gate-asks c.args.s.now c.args.lent c.sound.ensures

pub returns : goal.returns
returns c = block-is c.args.s.now c.args.lent c.sound.ensures c.block_test.ensures
