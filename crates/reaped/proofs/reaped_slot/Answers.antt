-- `reaped::reaped_slot` meets its contract: counters and answer are made of the slot's completion.
-- Assumes nothing.
use Rattle.std.proofs.Common.{ap, ◌∙◌}
use Rattle.stream.specs.declared.IsoStats.{IsoStats}
use Rattle.stream.proofs.Soundness.{setup-admissible}
use Rattle.ledger.specs.Ledger.{with_totals, returned}
use Rattle.ledger.specs.Record.{view, stored}
use Rattle.reaped.proofs.Replies.{notice-back}
use Rattle.reaped.proofs.reaped_slot.Goals as goal

pub complete-done-requires : goal.complete-done-requires
complete-done-requires c = (setup-admissible c.args.s c.requires.0, c.requires.2, c.requires.4)

pub returned-requires : goal.returned-requires
returned-requires c = (c.requires.0, c.requires.1, c.requires.2, c.requires.3)

pub returns : goal.returns
returns c =
    let s = c.args.s in
    let i = c.args.i in
    notice-back s i c.args.block.now c.args.was_discarded c.complete-done.result c.complete-done.ensures _
    c.answer_for.ensures
    (c.returned.ensures ∙ ap (λ (t : IsoStats). stored s (with_totals t (returned i (view s)))) c.totals_after-stats.ensures)
