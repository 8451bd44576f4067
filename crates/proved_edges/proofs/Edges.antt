-- Every value of the cases computes.
-- Assumes nothing.
use mathlib.Core.Path.{refl}
use Rattle.error.specs.declared.Error.{Error}
use Rattle.sys.specs.Bytes as Bytes
use Rattle.sys.specs.Signed as Signed
use Rattle.sys.specs.Header as Header
use Rattle.sys.specs.Descriptor as Descriptor
use Rattle.schedule.specs.Interval.{packet_interval_us, interval_from}
use Rattle.schedule.specs.Derive.{derived, derived_from}
use Rattle.layout.specs.Tests.{first, passed}
use Rattle.layout.specs.Layout.{raised, slot_stride, data_base, data_stride, total, whole_frames, layout_of, sizes, any_above, overflowing, bad_frame, laid, laid_out}
use Rattle.layout.specs.Numbers as Numbers
use Rattle.layout.specs.Opening.{masked_of, limit, layout_for, total_of, limits, bad_base, base_address, admissible}
use Rattle.layout.specs.Places.{places_of}
use Rattle.mask.specs.Bits as Bits
use Rattle.mask.specs.Masks as Masks
use Rattle.ring.specs.Slots as Slots
use Rattle.ring.specs.Masks as States
use Rattle.ring.specs.Counts as Counts
use Rattle.ring.specs.Parts as Parts
use Rattle.ring.specs.Sound as Ring
use Rattle.stream.specs.Parts.{with_state}
use Rattle.stream.specs.Sound.{sound}
use Rattle.opening.specs.Opened.{opened_stream}
use Rattle.opening.specs.Open.{opened_header, with_headers, opened_block}
use Rattle.ledger.specs.Ledger as Ledger
use Rattle.ledger.specs.Slot as Slot
use Rattle.ledger.specs.Notice as Notice
use Rattle.ledger.specs.Step as Step
use Rattle.ledger.specs.Turn as Turn
use Rattle.ledger.specs.Commit as Commit
use Rattle.ledger.specs.Submitted as Submitted
use Rattle.ledger.specs.Reaped as Reaped
use Rattle.ledger.specs.Control as Control
use Rattle.ledger.specs.Record as Record
use Rattle.ledger.specs.Calls as Calls
use Rattle.history.specs.History.{record_after}
use Rattle.proved_edges.specs.Hosts as Hosts
use Rattle.proved_edges.specs.Edges.{Edges, eight_calls, sent, stopped_r, two_returned, all_returned}

pub edges : Edges
unfolding
    raised slot_stride data_base data_stride total whole_frames layout_of sizes any_above overflowing bad_frame first passed laid laid_out masked_of limit layout_for total_of limits bad_base base_address admissible places_of Numbers.policy_from Numbers.setup_from
    packet_interval_us interval_from derived derived_from
    Bytes.le Bytes.of_le Bytes.store Bytes.laid Signed.signed Header.header_bytes Header.header_at Descriptor.desc_bytes Descriptor.desc_at
    opened_header with_headers opened_block opened_stream with_state sound
    Bits.bit Bits.word Masks.word_at Masks.member Masks.table_word Masks.mask_of States.state_at States.masks_of States.in_masks States.changed_at States.first_of Slots.is_in_flight Slots.is_discarding
    Parts.queue_of Parts.state_of Parts.with_queue Parts.with_masks Parts.with_state Parts.with_states Parts.with_out Parts.free_ring Slots.is_free Slots.is_filling Slots.is_out Slots.one Slots.holds Slots.hand_within Counts.slot_numbers Counts.table Counts.every_slot Counts.how_many Counts.times Counts.all_below
    Ring.masked_right Ring.masks_sound Ring.queued_right Ring.queue_sound Ring.out_sound Ring.held_right Ring.hand_sound Ring.sound_ring
    Ledger.with_hand Ledger.with_queue Ledger.with_marks Ledger.with_flags Ledger.with_totals Ledger.mark_of Ledger.marked Ledger.outs Ledger.slot_state Ledger.state_in Ledger.returned Ledger.plus
    Slot.sum Slot.shares Slot.descriptors Slot.headed Slot.committed Slot.silenced
    Notice.buffer_bytes Notice.cookie_of Notice.slot_at Notice.slot_of_urb Notice.packets_at Notice.requested Notice.short Notice.completion_of
    Step.refused Step.on_block Step.by_idle Step.when_idle Step.by_held Step.when_held Step.put_back
    Turn.take_front Turn.silence_front Turn.drained Turn.one_underrun Turn.underrun Turn.on_underrun Turn.turn_idle Turn.turn
    Commit.send Commit.commit_held Commit.commit Commit.commit_full
    Submitted.one_submitted Submitted.accepted_ledger Submitted.sent Submitted.chained Submitted.silent Submitted.by_sending Submitted.submitted_hand Submitted.submitted
    Reaped.is_zero Reaped.is_gone Reaped.urb_error Reaped.one_completed Reaped.noticed Reaped.by_address Reaped.reaped_idle Reaped.reaped
    Control.started_ledger Control.start_idle Control.start Control.discard_all Control.in_flight_from Control.stop_idle Control.stop Control.finish_idle Control.finish
    Record.mark_for Record.view Record.ring_for Record.stored Record.call
    Calls.rule Calls.lent_to Calls.made record_after
    Hosts.opened Hosts.call_plain Hosts.call_lent Hosts.kernel_writes eight_calls sent stopped_r two_returned all_returned
edges =
    record {
      layout-2-1-192 = refl;
      layout-R = refl;
      layout-2-128-1 = refl;
      packets-129 = record { error = Error.TooManyPackets; is = refl; numbered = refl };
      commit-800 = record { answer = refl; written = refl };
      commit-801 = record { error = Error.CommitTooLong; is = refl; numbered = refl };
      commit-250 = record { answer = refl; written = refl };
      commit-0 = record { answer = refl; written = refl };
      address-65688 = refl;
      stray-65688 = record { error = Error.StrayNotice; is = refl; numbered = refl };
      address-65689 = refl;
      address-66144 = refl;
      address-65535 = refl;
      high-20-ms = refl;
      full-11 = refl;
      full-12 = refl;
      high-14 = refl;
      high-16 = refl;
      high-15 = refl;
      super-14 = refl;
      super-15 = refl;
      super-16 = refl;
      super-plus-14 = refl;
      super-plus-15 = refl;
      super-plus-16 = refl;
      size-1400 = refl;
      silence-answers = refl;
      silence-counters = refl;
      shutdown-answers = refl;
      shutdown-at-stop = refl;
      shutdown-counters = refl;
    }
