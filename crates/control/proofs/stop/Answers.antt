-- `control::stop` meets its contract: refused by the gate; else a list with fewer places than the InFlight mask has slots is refused with the
-- record as it was, and one that is long enough gets their numbers. Assumes nothing.
use mathlib.Core.Path.{refl}
use native.Mathlib.Omega.{arith}
use Rattle.stream.specs.Parts.{with_state}
use Rattle.stream.proofs.Arrays.{arrays}
use Rattle.ledger.specs.Calls.{stop, rule, lent_to}
use Rattle.ledger.specs.Control as Control
use Rattle.ledger.proofs.View.{own-tabled}
use Rattle.control.proofs.Gated.{opened, closed, told}
use Rattle.control.proofs.Stopped.{numbered, too_short, all-stopped}
use Rattle.control.proofs.stop.Goals as goal

pub returns-in-Err : goal.returns-in-Err
unfolding rule lent_to Control.stop
returns-in-Err c =
    let a = c.args in
    closed a.s c.idle_gate.ensures (stop a.list.now) Control.stop_idle refl (arrays a.s c.well_formed.0) c.in-Err.is _ c.refused.ensures

pub returns-then-list-count : goal.returns-then-list-count
unfolding rule lent_to Control.stop
returns-then-list-count c =
    let a = c.args in
    told a.s c.idle_gate.ensures (stop a.list.now) Control.stop_idle refl c.in-Ok.is _ _
    (λ ok. too_short a.s ok (arrays a.s c.well_formed.0) _ c.list-listed.ensures a.list.now c.if-list-count.true _
    c.refused-then-list-count.ensures)

pub write_list-requires : goal.write_list-requires
write_list-requires c =
    let s = c.args.s in
    omega (arith, numbered s (opened s c.idle_gate.ensures c.in-Ok.is) (arrays s c.well_formed.0) _ c.list-listed.ensures)

pub mark_discarding-requires : goal.mark_discarding-requires
mark_discarding-requires c =
    own-tabled _ (opened c.args.s c.idle_gate.ensures c.in-Ok.is) (arrays c.args.s c.well_formed.0)

pub returns-else-list-count : goal.returns-else-list-count
unfolding rule lent_to Control.stop with_state
returns-else-list-count c =
    let a = c.args in
    told a.s c.idle_gate.ensures (stop a.list.now) Control.stop_idle refl c.in-Ok.is _ _
    (λ ok. all-stopped a.s ok (arrays a.s c.well_formed.0) _ c.list-listed.ensures a.list.now c.if-list-count.false
    _ c.mark_discarding.ensures _ c.write_list.ensures)
