-- `reaped::noticed` meets its contract: whether the slot is out and Discarding says its mark in the ledger.
-- Assumes nothing.
use Rattle.std.proofs.Common.{◌≡◌, ℕ, ◌<◌, Bool, true, false, cond, sym, refl, ap, ◌∙◌, true≢false, arith}
use mathlib.Core.Bool.{false≢true}
use Rattle.ring.specs.declared.SlotState.{SlotState}
use Rattle.ring.specs.Parts.{state_of, Tabled}
use Rattle.ring.specs.Slots.{is_discarding, is_out}
use Rattle.ring.proofs.Wide.{Wide}
use Rattle.stream.specs.declared.Stream.{Stream}
use Rattle.stream.specs.Sound.{sound}
use Rattle.stream.proofs.Arrays.{arrays}
use Rattle.ledger.specs.Ledger.{home, out, discarded, mark_of}
use Rattle.ledger.specs.Record.{mark_for, view}
use Rattle.ledger.proofs.View.{facts, own-tabled, view-mark}
use Rattle.reaped.proofs.Replies.{by-mark, notice-stray}
use Rattle.reaped.proofs.noticed.Goals as goal

-- the mark of a slot that is out, and of one that is not
mark-out : (x : SlotState) → is_out x ≡ true → mark_for x ≡ cond (is_discarding x) discarded out
unfolding is_out is_discarding mark_for
mark-out SlotState.Free e = absurd (false≢true e)
mark-out SlotState.Filling e = absurd (false≢true e)
mark-out SlotState.InFlight e = refl
mark-out SlotState.Discarding e = refl

mark-home : (x : SlotState) → is_out x ≡ false → mark_for x ≡ home
unfolding is_out mark_for
mark-home SlotState.Free e = refl
mark-home SlotState.Filling e = refl
mark-home SlotState.InFlight e = absurd (true≢false e)
mark-home SlotState.Discarding e = absurd (true≢false e)

module _ (s : Stream) (ok : sound s ≡ true) (wide : Wide s.ring) (i : ℕ) (below : i < s.setup.slots) where
  in-ring : Tabled s.ring × (i < 256)
  in-ring = (own-tabled s ok wide, omega (arith, (facts s ok wide).few))

  mark-when-out : {b : Bool} → is_out (state_of s.ring i) ≡ true → b ≡ is_discarding (state_of s.ring i)
      → mark_of (view s) i ≡ cond b discarded out
  mark-when-out e d = view-mark s ok wide i below ∙ mark-out _ e ∙ ap (λ (b : Bool). cond b discarded out) (sym d)

  mark-when-home : is_out (state_of s.ring i) ≡ false → mark_of (view s) i ≡ home
  mark-when-home e = view-mark s ok wide i below ∙ mark-home _ e

pub is_discarding-was_discarded-requires : goal.is_discarding-was_discarded-requires
is_discarding-was_discarded-requires c = in-ring c.args.s c.requires.0 (arrays c.args.s c.well_formed.0) c.args.i c.requires.2

pub is_out-requires : goal.is_out-requires
is_out-requires c = in-ring c.args.s c.requires.0 (arrays c.args.s c.well_formed.0) c.args.i c.requires.2

pub reaped_slot-requires : goal.reaped_slot-requires
reaped_slot-requires c =
    (c.requires.0, c.requires.1, c.requires.2, sym c.is_out.ensures ∙ c.if-is_out.true, c.requires.3)

pub returns-then-is_out : goal.returns-then-is_out
returns-then-is_out c =
    let a = c.args in
    by-mark a.s a.i a.block.now _
    (mark-when-out a.s c.requires.0 (arrays a.s c.well_formed.0) a.i c.requires.2
    (sym c.is_out.ensures ∙ c.if-is_out.true) c.is_discarding-was_discarded.ensures)
    _ c.reaped_slot.ensures

pub returns-else-is_out : goal.returns-else-is_out
returns-else-is_out c =
    let a = c.args in
    let wide = arrays a.s c.well_formed.0 in
    by-mark a.s a.i a.block.now _
    (mark-when-home a.s c.requires.0 wide a.i c.requires.2 (sym c.is_out.ensures ∙ c.if-is_out.false))
    _ (notice-stray a.s c.requires.0 wide a.i a.block.now _ c.refused.ensures)
