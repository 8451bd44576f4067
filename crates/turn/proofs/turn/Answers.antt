-- `turn::turn` meets its contract: refused by the gate, or what `turn_idle` gives is the rule's outcome.
-- Assumes nothing.
use Rattle.std.specs.Prelude.{Some}
use Rattle.std.proofs.Common.{sym, refl, ◌∙◌}
use Rattle.stream.proofs.Arrays.{arrays}
use Rattle.ledger.specs.Calls.{turn, rule, lent_to}
use Rattle.ledger.specs.Turn as Turn
use Rattle.gate.proofs.Gates.{idle-open, idle-refused, idle-told}
use Rattle.turn.proofs.turn.Goals as goal

pub turn_idle-requires : goal.turn_idle-requires
turn_idle-requires c =
    let s = c.args.s in
    idle-open s (Some _) c.args.block.now refl (sym c.idle_gate.ensures ∙ c.in-Ok.is)

pub returns-in-Err : goal.returns-in-Err
unfolding rule lent_to Turn.turn
returns-in-Err c =
    let s = c.args.s in
    idle-refused s (Some _) (turn c.args.block.now) Turn.turn_idle refl refl (arrays s c.well_formed.0) _
    (sym c.idle_gate.ensures ∙ c.in-Err.is) _ c.refused.ensures

pub returns-in-Ok : goal.returns-in-Ok
unfolding rule lent_to Turn.turn
returns-in-Ok c =
    let s = c.args.s in
    idle-told s (Some _) (turn c.args.block.now) Turn.turn_idle refl refl (sym c.idle_gate.ensures ∙ c.in-Ok.is) _ _ c.turn_idle.ensures
