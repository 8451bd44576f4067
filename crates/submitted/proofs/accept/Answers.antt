-- `submitted::accept` meets its contract: the out count has room for the slot in hand, and the record made anew is the one that shows the
-- ledger after the acceptance. Assumes nothing.
use Rattle.std.proofs.Common.{◌∙◌}
use Rattle.stream.proofs.Arrays.{arrays}
use Rattle.stream.specs.Parts.{with_state}
use Rattle.stream.proofs.Soundness.{setup-admissible}
use Rattle.ledger.specs.Ledger.{plus}
use Rattle.ledger.specs.Submitted.{one_submitted}
use Rattle.ledger.proofs.InHand.{slot-below, out-count-room}
use Rattle.submitted.proofs.Accepting.{accepted-stored}
use Rattle.submitted.proofs.accept.Goals as goal

pub buffer_bytes-bytes-requires : goal.buffer_bytes-bytes-requires
buffer_bytes-bytes-requires c =
    let s = c.args.s in
    (setup-admissible s c.requires.0, slot-below s c.requires.0 (arrays c.args.s c.well_formed.0) c.args.i c.requires.1, c.requires.2)

pub mark_in_flight-requires : goal.mark_in_flight-requires
mark_in_flight-requires c =
    out-count-room c.args.s c.requires.0 (arrays c.args.s c.well_formed.0) c.args.i c.requires.1

pub returns : goal.returns
unfolding with_state one_submitted plus
returns c =
    let s = c.args.s in
    c.new.ensures ∙
    rw (c.mark_in_flight.ensures, c.buffer_bytes-bytes.ensures)
    (accepted-stored s c.requires.0 (arrays c.args.s c.well_formed.0) c.args.i c.requires.1 c.args.block.now)
