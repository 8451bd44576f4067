-- `notice::packet_sums` meets its contract. What holds at each iteration: each sum so far and that of the descriptors left are the sum of
-- all, and it is below 2^32 for each passed. Assumes nothing.
use mathlib.Core.Path.{◌≡◌}
use Prim.Native.Nat.{◌+◌, ◌-◌, ◌*◌, ◌/◌, ◌≤◌}
use lib.ListN.{length}
use Rattle.sys.specs.Descriptor.{desc_size}
use Rattle.ledger.specs.Notice as Notice
use Rattle.ledger.specs.Notice.{packets_at}
use Rattle.notice.proofs.Packets.{whole}
use Rattle.notice.proofs.packet_sums.Given as goal

abbrev pub invariant-loop-k : goal.invariant-loop-k
invariant-loop-k l =
    (l.requested ≤ 4294967295 * l.k)
    × (l.short ≤ 4294967295 * l.k)
    × (l.requested + Notice.requested (packets_at (length l.descs / desc_size - l.k) (desc_size * l.k) l.descs)
    ≡ Notice.requested (whole l.descs))
    × (l.short + Notice.short (packets_at (length l.descs / desc_size - l.k) (desc_size * l.k) l.descs) ≡ Notice.short (whole l.descs))
