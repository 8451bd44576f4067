-- `encoding::put_slots` meets its contract. The loop's invariant: the first i numbers are written, the others are as they were, and the two words have
-- lost their i lowest digits. Assumes nothing.
use mathlib.Core.Path.{refl, ◌∙◌}
use native.Mathlib.Omega.{arith}
use borrow.Author.Rules.{rules}
use Rattle.ring.specs.Counts.{table}
use Rattle.ring.proofs.Numbers.{table-put, table-whole}
use Rattle.encoding.proofs.Digits.{shift_none, shift-more, number-written}
use Rattle.encoding.proofs.codes.put_slots.Invariants.{number}
use Rattle.encoding.proofs.codes.put_slots.Goals as goal

pub loop-code-preserved : goal.loop-code-preserved
loop-code-preserved c =
    let at = c.loop-code in
    let a = c.args in
    let i = at.code-index in
    let written =
    number-written a.filling a.flying a.discarding (search rules) (search rules)
    i at.low at.high (omega arith) at.invariant.1 at.invariant.2 in (
      rw at.invariant.0 (table-put (number a.filling a.flying a.discarding) a.codes.now i _ (omega arith) written),
      shift-more i _ at.low at.invariant.1,
      shift-more i _ at.high at.invariant.2,
    )

pub loop-code-init : goal.loop-code-init
unfolding table
loop-code-init c = (refl, shift_none _, shift_none _)

pub returns : goal.returns
returns c =
    let at = c.loop-code in
    let a = c.args in
    at.invariant.0 ∙ table-whole (number a.filling a.flying a.discarding) a.codes.now at.code-index (omega arith)
