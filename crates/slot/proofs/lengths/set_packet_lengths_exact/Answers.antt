-- `slot::lengths::set_packet_lengths_exact` meets its contract: the header and then the descriptors are written at the slot's places, with
-- the lengths' own sum. The lengths are at most packet_bytes each, so their sum fits 32 bits. Assumes nothing.
use Rattle.std.proofs.Common.{rules, arith, ◌≡◌, ◌<◌, ◌^◌, sym, ap, ◌∙◌}
use Rattle.std.specs.List.{sum as list_sum}
use Rattle.sys.specs.Bytes.{store}
use Rattle.ledger.specs.Slot.{descriptors}
use Rattle.slot.proofs.PacketLengths.{sum-is}
use Rattle.slot.proofs.Commits.{sum_in_32, commit-parts}
use Rattle.slot.proofs.lengths.set_packet_lengths_exact.Goals as goal

pub sum-requires-clause-fits : goal.sum-requires-clause-fits
sum-requires-clause-fits c =
    let asked = c.requires.lengths_len in
    let fits : list_sum c.args.lengths.now < 2 ^ 64 =
    omega (arith, sum-is c.args.lengths.now, sum_in_32 _ _ _ c.places-at.ensures c.args.lengths.now asked.0 asked.1) in
    search rules

pub set_header-requires : goal.set_header-requires
set_header-requires c =
    let asked = c.requires.lengths_len in
    let total : c.sum.result ≡ list_sum c.args.lengths.now = search rules in
    omega (arith, sum-is c.args.lengths.now, sum_in_32 _ _ _ c.places-at.ensures c.args.lengths.now asked.0 asked.1)

pub write_lengths-requires : goal.write_lengths-requires
write_lengths-requires c =
    let asked = c.requires.lengths_len in
    (omega arith, sum_in_32 _ _ _ c.places-at.ensures c.args.lengths.now asked.0 asked.1)

pub returns : goal.returns
returns c =
    let lengths = c.args.lengths.now in
    let r = c.places-at.result in
    let total : c.sum.result ≡ list_sum lengths = search rules in
    c.write_lengths.ensures
    ∙ ap (store r.descs (descriptors lengths)) c.set_header.ensures
    ∙ commit-parts c.args.setup c.args.i r c.places-at.ensures lengths c.args.block.now c.sum.result (total ∙ sym (sum-is lengths))
