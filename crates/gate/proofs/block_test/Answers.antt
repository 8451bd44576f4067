-- `gate::block_test` meets its contract: each return knows the tests that led there, and a sound record's values have a layout.
-- Assumes nothing.
use borrow.Author.Tests.{eq-eqb, ne_eqb}
use Rattle.layout.proofs.Admission.{admits}
use Rattle.layout.proofs.Limits.{layout-total}
use Rattle.gate.specs.Gate.{and_then, sound_gate, length_gate, block_test}
use Rattle.gate.proofs.block_test.Goals as goal

pub returns-then-not-is_sound : goal.returns-then-not-is_sound
unfolding block_test sound_gate length_gate and_then
returns-then-not-is_sound c = rw (c.if-not-is_sound.true)

pub layout_of-requires : goal.layout_of-requires
layout_of-requires c = (admits _ (c.requires c.if-not-is_sound.false)).limits

pub returns-then-len-layout_of : goal.returns-then-len-layout_of
unfolding block_test sound_gate length_gate and_then
returns-then-len-layout_of c =
    rw (c.if-not-is_sound.false, c.in-Some.is, ← layout-total _ _ c.layout_of.ensures, ne_eqb _ _ c.if-len-layout_of.true)

pub returns : goal.returns
unfolding block_test sound_gate length_gate and_then
returns c =
    rw (c.if-not-is_sound.false, c.in-Some.is, ← layout-total _ _ c.layout_of.ensures, eq-eqb _ _ c.if-len-layout_of.false)

pub returns-in_default : goal.returns-in_default
unfolding block_test sound_gate length_gate and_then
returns-in_default c = rw (c.if-not-is_sound.false, c.in_default.is)
