-- `slot::silence::fill_silence` meets its contract: the payload is then all silence bytes, and all of it is committed.
-- Assumes nothing.
use mathlib.Core.Path.{ap, ◌∙◌}
use Prim.Native.Nat.{ℕ}
use native.Mathlib.Omega.{arith}
use lib.ListN.{length}
use Rattle.ledger.specs.Slot.{lengths_of, committed, silenced}
use Rattle.slot.proofs.Commits.{capacity-is, silence-parts, length-silenced}
use Rattle.slot.proofs.silence.fill_silence.Goals as goal

pub set_packet_lengths-requires : goal.set_packet_lengths-requires
set_packet_lengths-requires c =
    let slot = c.places-at.ensures in
    let block = c.args.block.now in
    let home = silence-parts _ _ _ slot c.fill.new.self block (omega arith) (c.fill.ensures.after (λ y is. is)) in
    (c.requires.0, c.requires.1, ap length home ∙ length-silenced _ _ block ∙ c.requires.2, omega (arith, capacity-is _ _ _ slot))

pub returns : goal.returns
returns c =
    let s = c.args.setup in
    let i = c.args.i in
    let slot = c.places-at.ensures in
    let block = c.args.block.now in
    c.set_packet_lengths.ensures
    ∙ ap (committed s i (lengths_of s c.places-at.result.capacity))
    (silence-parts _ _ _ slot c.fill.new.self block (omega arith) (c.fill.ensures.after (λ y is. is)))
    ∙ ap (λ (n : ℕ). committed s i (lengths_of s n) (silenced s i block)) (capacity-is _ _ _ slot)
