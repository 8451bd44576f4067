-- `notice::slot_at` meets its contract: the tests are the definition's, in its order, and the cookie is read from the header of the slot
-- that the offset gives. That slot is one of the ring's, so its header is within the block. Assumes nothing.
use mathlib.Core.Path.{◌∙◌}
use native.Mathlib.Omega.{arith}
use Rattle.layout.proofs.Admission.{admits}
use Rattle.notice.proofs.Offsets.{strided, room, past, between, named}
use Rattle.notice.proofs.slot_at.Goals as goal
use Rattle.notice.proofs.slot_at.Goals.{then-setup-stride-via-then-setup-stride, then-setup-stride-via-else-setup-stride+then-offset-stride-ne0}

pub layout_of-stride-requires : goal.layout_of-stride-requires
layout_of-stride-requires c = (admits _ c.requires.0).limits

pub overflow_mul-setup : goal.overflow_mul-setup
overflow_mul-setup c = let known = strided _ _ c.layout_of-stride.ensures c.requires.0 in omega arith

pub returns-then-setup-stride : goal.returns-then-setup-stride
returns-then-setup-stride c =
    elim c.then-setup-stride.branch [
      | then-setup-stride-via-then-setup-stride w ↦ past _ _ c.layout_of-stride.ensures _ _ w.if-setup-stride.true
      | then-setup-stride-via-else-setup-stride+then-offset-stride-ne0 w ↦
          between _ _ c.layout_of-stride.ensures _ _ w.if-setup-stride.false w.if-offset-stride-ne0.true
    ]

pub fields-header-requires : goal.fields-header-requires
fields-header-requires c = omega (arith, room _ _ c.layout_of-stride.ensures _ c.requires.0 c.if-setup-stride.false)

pub returns : goal.returns
returns c =
    c.then_some.ensures
    ∙ named _ _ c.layout_of-stride.ensures _ _ c.if-setup-stride.false _ c.fields-header.ensures c.if-offset-stride-ne0.false
