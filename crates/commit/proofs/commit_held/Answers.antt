-- `commit::commit_held` meets its contract: past the capacity the slot is put back and the block is as it was; else its lengths are written and it is sent.
-- Assumes nothing.
use native.Mathlib.Omega.{arith}
use Rattle.error.specs.declared.Error.{Error}
use Rattle.stream.proofs.Arrays.{arrays}
use Rattle.stream.specs.declared.Answer.{Answer}
use Rattle.stream.proofs.Soundness.{setup-admissible}
use Rattle.ledger.proofs.InHand.{holding, slot-below}
use Rattle.commit.proofs.Ends.{ends-back, ends-sent, too_long, fits}
use Rattle.commit.proofs.commit_held.Goals as goal

pub slot_capacity-capacity-requires : goal.slot_capacity-capacity-requires
slot_capacity-capacity-requires c = setup-admissible c.args.s c.requires.0

pub put_back-requires : goal.put_back-requires
put_back-requires c = (c.requires.0, holding _ _ c.requires.1)

pub returns-then-capacity-bytes : goal.returns-then-capacity-bytes
returns-then-capacity-bytes c =
    ends-back c.args.s c.args.i _ _ _ (Answer.Refused Error.CommitTooLong)
    (too_long _ _ _ _ _ (rw c.slot_capacity-capacity.ensures at c.if-capacity-bytes.true))
    c.put_back.ensures

pub set_packet_lengths-requires : goal.set_packet_lengths-requires
set_packet_lengths-requires c = (
  setup-admissible c.args.s c.requires.0,
  slot-below c.args.s c.requires.0 (arrays c.args.s c.well_formed.0) c.args.i (holding _ _ c.requires.1),
  c.requires.2,
  omega (arith, c.slot_capacity-capacity.ensures),
)

pub returns : goal.returns
returns c =
    ends-sent c.args.s c.args.i _ _ _ _ _
    (fits _ _ _ _ _ (rw c.slot_capacity-capacity.ensures at c.if-capacity-bytes.false))
    c.send.ensures
    c.set_packet_lengths.ensures
