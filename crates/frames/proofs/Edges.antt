-- Every value of the cases of request 2026-04 computes.
-- Assumes nothing.
use mathlib.Core.Path.{refl}
use Rattle.error.specs.declared.Error.{Error}
use Rattle.error.specs.Errno as Errno
use Rattle.sys.specs.Bytes as Bytes
use Rattle.sys.specs.Signed as Signed
use Rattle.sys.specs.Header as Header
use Rattle.sys.specs.Descriptor as Descriptor
use Rattle.layout.specs.Tests.{first, passed}
use Rattle.layout.specs.Layout.{raised, slot_stride, data_base, data_stride, total, whole_frames, layout_of, sizes, any_above, overflowing, bad_frame, laid, laid_out}
use Rattle.layout.specs.Numbers as Numbers
use Rattle.layout.specs.Opening.{masked_of, limit, layout_for, total_of, limits, bad_base, base_address, admissible}
use Rattle.layout.specs.Places.{places_of}
use Rattle.mask.specs.Bits as Bits
use Rattle.mask.specs.Masks as Masks
use Rattle.ring.specs.Slots as Slots
use Rattle.ring.specs.Masks as States
use Rattle.ring.specs.Counts as Counts
use Rattle.ring.specs.Parts as Parts
use Rattle.ring.specs.Sound as Ring
use Rattle.stream.specs.Parts.{with_state}
use Rattle.stream.specs.Sound.{sound}
use Rattle.opening.specs.Opened.{opened_stream}
use Rattle.opening.specs.Open.{opened_header, with_headers, opened_block}
use Rattle.ledger.specs.Ledger as Ledger
use Rattle.ledger.specs.Slot as Slot
use Rattle.ledger.specs.Notice as Notice
use Rattle.ledger.specs.Step as Step
use Rattle.ledger.specs.Turn as Turn
use Rattle.ledger.specs.Commit as Commit
use Rattle.ledger.specs.Submitted as Submitted
use Rattle.ledger.specs.Record as Record
use Rattle.ledger.specs.Calls as Calls
use Rattle.history.specs.History.{record_after}
use Rattle.opening.specs.Refusals.{block_length, refusal_of, opens}
use Rattle.frames.specs.Edges.{FrameEdges}

pub frame-edges : FrameEdges
unfolding
    raised slot_stride data_base data_stride total whole_frames layout_of sizes any_above overflowing bad_frame first passed laid laid_out masked_of limit layout_for total_of limits bad_base base_address admissible places_of Numbers.policy_from Numbers.setup_from
    Errno.out_of_memory Errno.from_errno Bytes.le Bytes.of_le Bytes.store Bytes.laid Signed.signed Header.header_bytes Header.header_at Descriptor.desc_bytes Descriptor.desc_at
    block_length refusal_of opens opened_header with_headers opened_block opened_stream with_state sound
    Bits.bit Bits.word Masks.word_at Masks.member Masks.table_word Masks.mask_of States.state_at States.masks_of States.in_masks States.changed_at States.first_of Slots.is_in_flight Slots.is_discarding
    Parts.queue_of Parts.state_of Parts.with_queue Parts.with_masks Parts.with_state Parts.with_states Parts.with_out Parts.free_ring Slots.is_free Slots.is_filling Slots.is_out Slots.one Slots.holds Slots.hand_within Counts.slot_numbers Counts.table Counts.every_slot Counts.how_many Counts.times Counts.all_below
    Ring.masked_right Ring.masks_sound Ring.queued_right Ring.queue_sound Ring.out_sound Ring.held_right Ring.hand_sound Ring.sound_ring
    Ledger.with_hand Ledger.with_queue Ledger.with_marks Ledger.with_flags Ledger.with_totals Ledger.mark_of Ledger.marked Ledger.outs Ledger.slot_state Ledger.state_in Ledger.returned Ledger.plus
    Slot.sum Slot.shares Slot.descriptors Slot.headed Slot.committed Slot.silenced
    Notice.packets_at
    Step.refused Step.on_block Step.by_idle Step.when_idle Step.by_held Step.when_held Step.put_back
    Turn.take_front Turn.drained Turn.turn_idle Turn.turn
    Commit.send Commit.commit_held Commit.commit Commit.packets_held Commit.commit_packets
    Submitted.submit_failed Submitted.sent Submitted.by_sending Submitted.submitted_hand Submitted.submitted
    Record.mark_for Record.view Record.ring_for Record.stored Record.call
    Calls.rule Calls.lent_to Calls.made record_after
frame-edges =
    record {
      whole-96 = refl;
      layout-6 = refl;
      header-768 = refl;
      commit-250 = record { answer = refl; written = refl };
      commit-768 = record { answer = refl; written = refl };
      commit-769 = record { error = Error.CommitTooLong; is = refl; numbered = refl };
      packets-100 = refl;
      packets-101 = record { error = Error.PacketTooLong; is = refl; numbered = refl };
      silence-768 = refl;
      memory-3200 = refl;
      commit-250-whole = record { answer = refl; written = refl };
      frame-101 = record { error = Error.FrameSize; is = refl; numbered = refl };
      frame-0 = record { error = Error.FrameSize; is = refl; numbered = refl };
      frame-0-slots-257 = record { error = Error.TooLarge; is = refl; numbered = refl };
    }
