-- `commit::packets_held` meets its contract: with another number of lengths, or one above packet_bytes, the slot is put back and the block is as
-- it was; else the lengths are written and it is sent. Assumes nothing.
use mathlib.Core.Path.{sym, ◌∙◌}
use Rattle.error.specs.declared.Error.{Error}
use Rattle.stream.proofs.Arrays.{arrays}
use Rattle.stream.specs.declared.Answer.{Answer}
use Rattle.stream.proofs.Soundness.{setup-admissible}
use Rattle.ledger.proofs.InHand.{holding, slot-below}
use Rattle.commit.proofs.Ends.{ends-back, ends-sent, wrong-count, one-above, none_above}
use Rattle.commit.proofs.packets_held.Goals as goal

pub put_back-requires : goal.put_back-requires
put_back-requires c = (c.requires.0, holding _ _ c.requires.1)

pub returns-then-lengths-s : goal.returns-then-lengths-s
returns-then-lengths-s c =
    ends-back c.args.s c.args.i _ _ _ (Answer.Refused Error.PacketCount) (wrong-count _ _ _ _ _ c.if-lengths-s.true) c.put_back.ensures

pub put_back-requires-then-any_above : goal.put_back-requires-then-any_above
put_back-requires-then-any_above c = (c.requires.0, holding _ _ c.requires.1)

pub returns-then-any_above : goal.returns-then-any_above
returns-then-any_above c =
    ends-back c.args.s c.args.i _ _ _ (Answer.Refused Error.PacketTooLong)
    (one-above _ _ _ _ _ c.if-lengths-s.false (sym c.any_above.ensures ∙ c.if-any_above.true))
    c.put_back-then-any_above.ensures

pub set_packet_lengths_exact-requires : goal.set_packet_lengths_exact-requires
set_packet_lengths_exact-requires c =
    let s = c.args.s in
    record {
      setup_value = (
        setup-admissible s c.requires.0,
        slot-below s c.requires.0 (arrays s c.well_formed.0) c.args.i (holding _ _ c.requires.1),
        c.requires.2,
      );
      lengths_len = (c.if-lengths-s.false, sym c.any_above.ensures ∙ c.if-any_above.false);
    }

pub returns : goal.returns
returns c =
    ends-sent c.args.s c.args.i _ _ _ _ _
    (none_above _ _ _ _ _ c.if-lengths-s.false (sym c.any_above.ensures ∙ c.if-any_above.false))
    c.send.ensures
    c.set_packet_lengths_exact.ensures
