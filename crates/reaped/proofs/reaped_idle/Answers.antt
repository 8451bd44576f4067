-- `reaped::reaped_idle` meets its contract: each arm knows the reply, and its callee gives what the rule says of that one.
-- Assumes nothing.
use Rattle.ledger.specs.Reaped.{reaped_idle}
use Rattle.reaped.proofs.Replies.{by-reply, errno-lent}
use Rattle.reaped.proofs.reaped_idle.Goals as goal

pub returns-in-Err : goal.returns-in-Err
unfolding reaped_idle
returns-in-Err c =
    let a = c.args in
    by-reply a.s a.block.now _ _ c.in-Err.is _ (errno-lent a.s _ _ a.block.now c.by_errno.ensures)

pub returns-in-Ok : goal.returns-in-Ok
unfolding reaped_idle
returns-in-Ok c =
    let a = c.args in
    by-reply a.s a.block.now _ _ c.in-Ok.is _ c.by_address.ensures
