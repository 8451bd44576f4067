-- The interval is not zero, so that `urbs` may divide by it.
use Rattle.std.proofs.Common.{arith}
use Rattle.schedule.proofs.Intervals.{interval-positive}
use Rattle.schedule.proofs.Schedule.derive.Goals as goal

pub urbs-requires : goal.urbs-requires
urbs-requires c = (interval-positive _ _ _ c.in_ok-packet_interval_us.ensures, omega arith)
