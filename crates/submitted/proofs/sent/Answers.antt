-- `submitted::sent` meets its contract: each arm knows the reply, and its callee gives what the rule says of that one.
-- Assumes nothing.
use Rattle.std.proofs.Common.{refl}
use Rattle.ledger.specs.Submitted.{sent}
use Rattle.submitted.proofs.Failing.{failed-lent}
use Rattle.submitted.proofs.Replies.{sent-by}
use Rattle.submitted.proofs.sent.Goals as goal

pub returns-in-Ok : goal.returns-in-Ok
unfolding sent
returns-in-Ok c =
    sent-by c.args.s _ _ c.in-Ok.is c.args.i c.args.block.now _ _
    (record { answer = refl; stream = c.accept.ensures; block = refl })

pub returns-in-Err : goal.returns-in-Err
unfolding sent
returns-in-Err c =
    sent-by c.args.s _ _ c.in-Err.is c.args.i c.args.block.now _ _
    (failed-lent c.args.s c.args.i _ _ c.args.block.now c.fail.ensures)
