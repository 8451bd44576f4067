-- `gate::held_gate` meets its contract: it goes by the record's own test. Assumes nothing.
use Rattle.gate.proofs.Gates.{gate-asks, held-is}
use Rattle.gate.proofs.held_gate.Goals as goal

pub held_test-requires : goal.held_test-requires
held_test-requires c = gate-asks c.args.s.now c.args.lent c.sound.ensures

pub returns : goal.returns
returns c = held-is c.args.s.now c.args.lent c.sound.ensures c.held_test.ensures
