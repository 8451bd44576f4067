-- `control::give_back` meets its contract: refused by the gate, or the slot in hand is put back.
-- Assumes nothing.
use Rattle.std.specs.Prelude.{None}
use mathlib.Core.Path.{refl, sym, ◌∙◌}
use Rattle.stream.proofs.Arrays.{arrays}
use Rattle.ledger.specs.Calls.{give_back, rule, lent_to}
use Rattle.ledger.specs.Control as Control
use Rattle.ledger.proofs.InHand.{holding}
use Rattle.gate.proofs.Gates.{held-open, held-refused, held-told}
use Rattle.control.proofs.give_back.Goals as goal

pub put_back-requires : goal.put_back-requires
put_back-requires c =
    let known = held-open c.args.s None (lent_to give_back) tt _ (sym c.held_gate.ensures ∙ c.in-Ok.is) in
    (known.0, holding _ _ known.1)

pub returns-in-Ok : goal.returns-in-Ok
unfolding rule lent_to Control.give_back Control.give_back_held
returns-in-Ok c =
    held-told c.args.s None give_back Control.give_back_held refl tt _ (sym c.held_gate.ensures ∙ c.in-Ok.is) _ _ c.put_back.ensures

pub returns-in-Err : goal.returns-in-Err
unfolding rule lent_to Control.give_back
returns-in-Err c =
    held-refused c.args.s None give_back Control.give_back_held refl tt (arrays c.args.s c.well_formed.0) _
    (sym c.held_gate.ensures ∙ c.in-Err.is) _ c.refused.ensures
