-- What a completion does to the counters, and what it answers. Only internal functions promise these; reaped itself promises the ledger's
-- rule.
use Rattle.std.specs.Prelude.{cond}
use Rattle.error.specs.declared.Error.{Error}
use Rattle.stream.specs.declared.Answer.{Answer}
use Rattle.stream.specs.declared.Completion.{Completion}
use Rattle.stream.specs.declared.IsoStats.{IsoStats}
use Rattle.ledger.specs.Reaped.{is_gone, one_completed}

-- The counters move if not discarded.
unfoldable pub totals_after : Completion → IsoStats → IsoStats
totals_after c t = cond c.was_discarded t (one_completed c t)

-- If not discarded, status -19 or -108 answers 13.
unfoldable pub answer_for : Completion → Answer
answer_for c =
    cond c.was_discarded (Answer.Completed c)
    (cond (is_gone c.status) (Answer.Refused Error.Disconnected) (Answer.Completed c))
