-- The two sums of a completion. Only an internal function promises them together.
use Rattle.std.specs.Prelude.{List}
use Rattle.sys.specs.declared.descriptor.IsoPacketDesc.{IsoPacketDesc}
use Rattle.ledger.specs.Notice as Notice
use Rattle.notice.specs.declared.Sums.{Sums}

-- The sum of lengths, and the sum of max(0, length - actual).
unfoldable pub sums_of : List IsoPacketDesc → Sums
sums_of packets = record { requested = Notice.requested packets; short = Notice.short packets }
