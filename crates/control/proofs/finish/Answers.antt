-- `control::finish` meets its contract: refused by the gate; else the rule leaves the ledger as it was, and its answer goes by the
-- out count, which a sound record has right. Assumes nothing.
use mathlib.Core.Path.{refl}
use mathlib.Core.Bool.{true, false}
use borrow.Author.Tests.{eq-eqb, ne_eqb}
use Rattle.stream.proofs.Arrays.{arrays}
use Rattle.ledger.specs.Calls.{finish, rule, lent_to}
use Rattle.ledger.specs.Control as Control
use Rattle.control.proofs.Gated.{closed, told}
use Rattle.control.proofs.Unmoved.{finished}
use Rattle.control.proofs.finish.Goals as goal

pub returns-in-Err : goal.returns-in-Err
unfolding rule lent_to Control.finish
returns-in-Err c =
    closed c.args.s c.idle_gate.ensures finish Control.finish_idle refl (arrays c.args.s c.well_formed.0) c.in-Err.is _ c.refused.ensures

pub returns-then-s-eq0 : goal.returns-then-s-eq0
unfolding rule lent_to Control.finish
returns-then-s-eq0 c =
    let s = c.args.s in
    told s c.idle_gate.ensures finish Control.finish_idle refl c.in-Ok.is _ _
    (λ ok. finished s ok (arrays s c.well_formed.0) true (eq-eqb _ _ c.if-s-eq0.true) _ refl)

pub returns-else-s-eq0 : goal.returns-else-s-eq0
unfolding rule lent_to Control.finish
returns-else-s-eq0 c =
    let s = c.args.s in
    told s c.idle_gate.ensures finish Control.finish_idle refl c.in-Ok.is _ _
    (λ ok. finished s ok (arrays s c.well_formed.0) false (ne_eqb _ _ c.if-s-eq0.false) _ c.refused-else-s-eq0.ensures)
