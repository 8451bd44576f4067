-- `gate::idle_gate` meets its contract: it goes by the record's own test. Assumes nothing.
use Rattle.gate.proofs.Gates.{gate-asks, idle-is}
use Rattle.gate.proofs.idle_gate.Goals as goal

pub idle_test-requires : goal.idle_test-requires
idle_test-requires c = gate-asks c.args.s.now c.args.lent c.sound.ensures

pub returns : goal.returns
returns c = idle-is c.args.s.now c.args.lent c.sound.ensures c.idle_test.ensures
