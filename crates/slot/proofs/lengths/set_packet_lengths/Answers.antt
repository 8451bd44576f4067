-- `slot::lengths::set_packet_lengths` meets its contract: the header and then the descriptors are written at the slot's places, and the shares sum to the bytes.
-- Assumes nothing.
use mathlib.Core.Path.{ap, ◌∙◌}
use Rattle.sys.specs.Bytes.{store}
use Rattle.ledger.specs.Slot.{shares, descriptors}
use Rattle.slot.proofs.Commits.{shares_parts}
use Rattle.slot.proofs.lengths.set_packet_lengths.Goals as goal

pub returns : goal.returns
returns c =
    let s = c.args.setup in
    let r = c.places-at.result in
    c.write_shares.ensures
    ∙ ap (store r.descs (descriptors (shares r.packets r.fill c.args.bytes))) c.set_header.ensures
    ∙ shares_parts s c.args.i r c.places-at.ensures c.args.bytes c.args.block.now c.requires.3
