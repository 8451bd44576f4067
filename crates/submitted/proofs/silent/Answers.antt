-- `submitted::silent` meets its contract: after an acceptance the chain goes on from the record that shows the ledger after it, so its outcome
-- is the rule's; after a refusal the slot is back. Assumes nothing.
use Rattle.std.proofs.Common.{◌∙◌}
use Rattle.layout.specs.declared.Setup.{Setup}
use Rattle.stream.proofs.Arrays.{arrays}
use Rattle.ledger.specs.Ledger.{Ledger}
use Rattle.ledger.specs.Submitted.{chained, silent}
use Rattle.front.proofs.Again.{sound-again, hand-again, total-again, gives-again}
use Rattle.submitted.proofs.Accepting.{accepted-valid, accepted-queue, accepted-hand}
use Rattle.submitted.proofs.Failing.{failed-lent}
use Rattle.submitted.proofs.Replies.{silent-by}
use Rattle.submitted.proofs.silent.Goals as goal

pub chain-requires : goal.chain-requires
chain-requires c =
    let s = c.args.s in
    let block = c.args.block.now in
    let w = arrays s c.well_formed.0 in
    let v = accepted-valid s c.requires.0 w c.args.i c.requires.1 block in (
      sound-again s c.requires.0 w _ v _ c.accept.ensures,
      hand-again s c.requires.0 w _ v _ c.accept.ensures ∙ accepted-hand s c.requires.0 w c.args.i c.requires.1 block,
      c.requires.2 ∙ total-again s c.requires.0 w _ v _ c.accept.ensures,
    )

pub returns-in-Ok : goal.returns-in-Ok
unfolding silent
returns-in-Ok c =
    let s = c.args.s in
    let block = c.args.block.now in
    let w = arrays s c.well_formed.0 in
    silent-by s _ _ c.in-Ok.is c.args.i block _ _ c.args.left
    (gives-again s c.requires.0 w _ (accepted-valid s c.requires.0 w c.args.i c.requires.1 block) _ c.accept.ensures
    (accepted-queue s c.requires.0 w c.args.i c.requires.1 block)
    (λ (st : Setup) (l : Ledger). chained st c.args.left l block) _ _ c.chain.ensures)

pub returns-in-Err : goal.returns-in-Err
unfolding silent
returns-in-Err c =
    silent-by c.args.s _ _ c.in-Err.is c.args.i c.args.block.now _ _ c.args.left
    (failed-lent c.args.s c.args.i _ _ c.args.block.now c.fail.ensures)
