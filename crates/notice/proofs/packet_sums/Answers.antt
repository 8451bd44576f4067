-- `notice::packet_sums` meets its contract. An iteration takes in the first of the descriptors left. Assumes nothing.
use mathlib.Core.Path.{◌≡◌, ap}
use Prim.Native.Nat.{◌/◌}
use native.Mathlib.Nat.{sub-zero, zero-add}
use native.Mathlib.Omega.{arith}
use borrow.Author.Rules.{rules}
use lib.ListN.{length}
use Rattle.sys.specs.Descriptor.{desc_size}
use Rattle.sys.specs.declared.descriptor.IsoPacketDesc.{IsoPacketDesc}
use Rattle.ledger.specs.Notice as Notice
use Rattle.notice.specs.Sums.{sums_of}
use Rattle.notice.proofs.Packets.{whole, requested-next, short-next, requested-end, short-end}
use Rattle.notice.proofs.packet_sums.Goals as goal

pub loop-k-init : goal.loop-k-init
loop-k-init c = (search rules, search rules, rw (sub-zero, zero-add), rw (sub-zero, zero-add))

pub loop-k-preserved : goal.loop-k-preserved
loop-k-preserved c =
    let loop = c.loop-k in
    let descs = c.args.descs.now in
    let packets = length descs / desc_size in
    let length-is = ap (λ (d : IsoPacketDesc). d.length) c.load-packet.ensures in
    let actual-is = ap (λ (d : IsoPacketDesc). d.actual_length) c.load-packet.ensures in
    let requested-more = requested-next packets loop.k descs c.loop-k-test.true in
    let short-more = short-next packets loop.k descs c.loop-k-test.true in
    (omega arith, omega arith, omega arith, omega arith)

pub returns : goal.returns
unfolding sums_of
returns c =
    let loop = c.loop-k in
    let descs = c.args.descs.now in
    let packets = length descs / desc_size in
    let no-requested = requested-end packets loop.k descs c.loop-k-test.false in
    let no-short = short-end packets loop.k descs c.loop-k-test.false in
    let requested-is : loop.requested ≡ Notice.requested (whole descs) = omega arith in
    let short-is : loop.short ≡ Notice.short (whole descs) = omega arith in
    λ i. record { requested = requested-is i; short = short-is i }
