-- `reaped::by_errno` meets its contract: each return knows whether the errno is 11, and the record is the one that came.
-- Assumes nothing.
use Rattle.std.proofs.Common.{eq-eqb, ne_eqb}
use Rattle.stream.proofs.Arrays.{arrays}
use Rattle.ledger.specs.Reaped.{by_errno}
use Rattle.reaped.proofs.Replies.{errno-told}
use Rattle.reaped.proofs.by_errno.Goals as goal

pub returns-then-errno-eq11 : goal.returns-then-errno-eq11
unfolding by_errno
returns-then-errno-eq11 c =
    errno-told c.args.s c.requires (arrays c.args.s c.well_formed.0) c.args.errno _ (rw (eq-eqb _ _ c.if-errno-eq11.true))

pub returns-else-errno-eq11 : goal.returns-else-errno-eq11
unfolding by_errno
returns-else-errno-eq11 c =
    rw c.refused.ensures
    (errno-told c.args.s c.requires (arrays c.args.s c.well_formed.0) c.args.errno _
    (rw (ne_eqb _ _ c.if-errno-eq11.false, c.from_errno.ensures)))
