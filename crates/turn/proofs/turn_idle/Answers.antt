-- `turn::turn_idle` meets its contract: by whether the stream has drained, one callee or the other gives what the rule says.
-- Assumes nothing.
use Rattle.std.proofs.Common.{true, false, sym, ◌∙◌}
use Rattle.ledger.specs.Record.{view}
use Rattle.front.proofs.Taking.{take-lent}
use Rattle.turn.proofs.Underruns.{by-drained}
use Rattle.turn.proofs.turn_idle.Goals as goal

pub returns-then-drained : goal.returns-then-drained
returns-then-drained c =
    by-drained c.args.s c.args.block.now _ _ true (sym c.drained.ensures ∙ c.if-drained.true) c.on_underrun.ensures

pub returns-else-drained : goal.returns-else-drained
returns-else-drained c =
    let s = c.args.s in
    by-drained s c.args.block.now _ _ false (sym c.drained.ensures ∙ c.if-drained.false)
    (take-lent s (view s).queue (view s) _ c.args.block.now c.take_front.ensures)
