-- `control::start` meets its contract: refused by the gate; else only the flags differ, and each way to `armed` knows whether the stream
-- was started. Assumes nothing.
use mathlib.Core.Path.{◌≡◌, refl, ◌∙◌}
use mathlib.Core.Bool.{false, cond}
use Rattle.stream.specs.Parts.{with_state}
use Rattle.stream.proofs.Arrays.{arrays}
use Rattle.ledger.specs.Calls.{start, rule, lent_to}
use Rattle.ledger.specs.Control as Control
use Rattle.control.proofs.Gated.{closed, told}
use Rattle.control.proofs.Unmoved.{started}
use Rattle.control.proofs.start.Goals as goal
use Rattle.control.proofs.start.Goals.{then-s, else-s}

pub returns-in-Err : goal.returns-in-Err
unfolding rule lent_to Control.start
returns-in-Err c =
    closed c.args.s c.idle_gate.ensures start Control.start_idle refl (arrays c.args.s c.well_formed.0) c.in-Err.is _ c.refused.ensures

pub returns-after-s : goal.returns-after-s
unfolding rule lent_to Control.start with_state
returns-after-s c =
    let s = c.args.s in
    let armed : c.if-s.flags ≡ cond s.flags.started s.flags.armed false =
    elim c.if-s.branch [ then-s w ↦ rw w.if-s.true w.flags-is | else-s w ↦ rw w.if-s.false (w.flags-is ∙ w.if-s.false) ] in
    told s c.idle_gate.ensures start Control.start_idle refl c.in-Ok.is _ _
    (λ ok. started s ok (arrays s c.well_formed.0) _ armed)
