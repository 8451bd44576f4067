-- `notice::complete` meets its contract: the header's place is the slot's, the view reads its fields, and the part holds the slot's descriptors.
-- Assumes nothing.
use mathlib.Core.Path.{ap, ◌∙◌}
use Prim.Native.Nat.{ℕ}
use native.Mathlib.Omega.{arith}
use borrow.Author.Rules.{rules}
use Rattle.sys.specs.Header.{header_at}
use Rattle.sys.specs.Signed.{non_negative}
use Rattle.sys.proofs.Signs.{read_back}
use Rattle.layout.specs.declared.Places.{Places}
use Rattle.ledger.specs.Notice.{packets_at, requested, short, completion_of}
use Rattle.urb_view.specs.declared.UrbFields.{UrbFields}
use Rattle.urb_view.specs.Viewed.{fields_of}
use Rattle.notice.specs.declared.Sums.{Sums}
use Rattle.notice.specs.Sums.{sums_of}
use Rattle.notice.proofs.Packets.{packets-of-part}
use Rattle.notice.proofs.complete.Goals as goal

pub returns : goal.returns
unfolding completion_of sums_of fields_of
returns c =
    let block = c.args.block.now in
    let s = c.args.setup in
    let r = c.places-at.result in
    let slot = c.places-at.ensures in
    let is = slot.is in
    let packets =
    packets-of-part r.packets r.descs block (omega arith)
    ∙ ap (λ (n : ℕ). packets_at n r.descs block) slot.packets
    ∙ ap (λ (at : Places). packets_at s.packets_per_urb at.descs block) is in
    let sums = c.packet_sums-sums.ensures in
    let header = c.fields-header.ensures ∙ ap (λ (at : Places). fields_of (header_at at.header block)) is in
    let found = c.fields-header.result in
    λ i. record {
      status = (read_back found.status (search rules) ∙ ap (λ (u : UrbFields). u.status) header) i;
      actual_bytes = (c.non_negative.ensures
          ∙ ap non_negative (read_back found.actual_length (search rules) ∙ ap (λ (u : UrbFields). u.actual_length) header)) i;
      requested_bytes = (ap (λ (m : Sums). m.requested) sums ∙ ap requested packets) i;
      short_bytes = (ap (λ (m : Sums). m.short) sums ∙ ap short packets) i;
      packet_errors = (c.non_negative-2.ensures
          ∙ ap non_negative (read_back found.error_count (search rules) ∙ ap (λ (u : UrbFields). u.error_count) header)) i;
      was_discarded = c.args.was_discarded;
    }
