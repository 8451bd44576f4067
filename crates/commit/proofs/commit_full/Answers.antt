-- `commit::commit_full` meets its contract: the gate refuses, or leaves the slot in hand to commit's rule with the capacity.
-- Assumes nothing.
use Rattle.std.specs.Prelude.{Some}
use mathlib.Core.Path.{refl, sym, ◌∙◌}
use Rattle.layout.specs.Opening.{capacity_of}
use Rattle.stream.proofs.Arrays.{arrays}
use Rattle.stream.proofs.Soundness.{setup-admissible}
use Rattle.ledger.specs.Calls.{commit_full, rule, lent_to}
use Rattle.ledger.specs.Commit as Commit
use Rattle.ledger.specs.Step.{on_block, when_held}
use Rattle.gate.proofs.Gates.{held-open, held-refused, held-told}
use Rattle.commit.proofs.commit_full.Goals as goal

pub slot_capacity-capacity-requires : goal.slot_capacity-capacity-requires
slot_capacity-capacity-requires c =
    let a = c.args in
    setup-admissible a.s (held-open a.s (Some _) a.block.now refl _ (sym c.held_gate.ensures ∙ c.in-Ok.is)).0

pub commit_held-requires : goal.commit_held-requires
commit_held-requires c =
    let a = c.args in
    held-open a.s (Some _) a.block.now refl _ (sym c.held_gate.ensures ∙ c.in-Ok.is)

pub returns-in-Ok : goal.returns-in-Ok
unfolding rule lent_to Commit.commit_full Commit.commit on_block when_held
returns-in-Ok c =
    let a = c.args in
    let opened = sym c.held_gate.ensures ∙ c.in-Ok.is in
    held-told a.s (Some _) (commit_full a.block.now) (λ i st. Commit.commit_held (capacity_of st) i st) refl refl _ opened _ _
    (rw c.slot_capacity-capacity.ensures at c.commit_held.ensures)

pub returns-in-Err : goal.returns-in-Err
unfolding rule lent_to Commit.commit_full Commit.commit on_block when_held
returns-in-Err c =
    held-refused c.args.s (Some _) (commit_full c.args.block.now) (λ i st. Commit.commit_held (capacity_of st) i st) refl refl
    (arrays c.args.s c.well_formed.0) _ (sym c.held_gate.ensures ∙ c.in-Err.is) _ c.refused.ensures
