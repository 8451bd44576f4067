-- `reaped::reaped` meets its contract: refused by the gate, or what `reaped_idle` gives is the rule's outcome.
-- Assumes nothing.
use Rattle.std.specs.Prelude.{Some}
use Rattle.std.proofs.Common.{sym, refl, ◌∙◌}
use Rattle.stream.proofs.Arrays.{arrays}
use Rattle.ledger.specs.Calls.{reaped, rule, lent_to}
use Rattle.ledger.specs.Reaped as Reaped
use Rattle.gate.proofs.Gates.{idle-open, idle-refused, idle-told}
use Rattle.reaped.proofs.reaped.Goals as goal

pub reaped_idle-requires : goal.reaped_idle-requires
reaped_idle-requires c =
    let a = c.args in
    idle-open a.s (Some _) a.block.now refl (sym c.idle_gate.ensures ∙ c.in-Ok.is)

pub returns-in-Err : goal.returns-in-Err
unfolding rule lent_to Reaped.reaped
returns-in-Err c =
    let a = c.args in
    idle-refused a.s (Some _) (reaped a.reply a.block.now) (Reaped.reaped_idle a.reply) refl refl (arrays a.s c.well_formed.0) _
    (sym c.idle_gate.ensures ∙ c.in-Err.is) _ c.refused.ensures

pub returns-in-Ok : goal.returns-in-Ok
unfolding rule lent_to Reaped.reaped
returns-in-Ok c =
    let a = c.args in
    idle-told a.s (Some _) (reaped a.reply a.block.now) (Reaped.reaped_idle a.reply) refl refl (sym c.idle_gate.ensures ∙ c.in-Ok.is) _ _ c.reaped_idle.ensures
