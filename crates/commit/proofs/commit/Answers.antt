-- `commit::commit` meets its contract: the gate refuses, or leaves the slot in hand to its own rule.
-- Assumes nothing.
use Rattle.std.specs.Prelude.{Some}
use mathlib.Core.Path.{refl, sym, ◌∙◌}
use Rattle.stream.proofs.Arrays.{arrays}
use Rattle.ledger.specs.Calls.{commit, rule, lent_to}
use Rattle.ledger.specs.Commit as Commit
use Rattle.gate.proofs.Gates.{held-open, held-refused, held-told}
use Rattle.commit.proofs.commit.Goals as goal

pub commit_held-requires : goal.commit_held-requires
commit_held-requires c =
    let a = c.args in
    held-open a.s (Some _) a.block.now refl _ (sym c.held_gate.ensures ∙ c.in-Ok.is)

pub returns-in-Ok : goal.returns-in-Ok
unfolding rule lent_to Commit.commit
returns-in-Ok c =
    let a = c.args in
    let opened = sym c.held_gate.ensures ∙ c.in-Ok.is in
    held-told a.s (Some _) (commit a.bytes a.block.now) (Commit.commit_held a.bytes) refl refl _ opened _ _
    c.commit_held.ensures

pub returns-in-Err : goal.returns-in-Err
unfolding rule lent_to Commit.commit
returns-in-Err c =
    held-refused c.args.s (Some _) (commit c.args.bytes c.args.block.now) (Commit.commit_held c.args.bytes) refl refl
    (arrays c.args.s c.well_formed.0) _ (sym c.held_gate.ensures ∙ c.in-Err.is) _ c.refused.ensures
