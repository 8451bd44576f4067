-- `mask::list::list_word`: in a round, the lowest place of what is left is stored; there is room for it.
use Rattle.std.proofs.Common.{◌-◌, ◌<◌, sym, ap, ◌∙◌, ◌≡◌, length, arith}
use lib.Bits.{and_le_r}
use Rattle.mask.specs.Masks.{with_more}
use Rattle.mask.proofs.Laws.{lowest}
use Rattle.mask.proofs.Masks.{places-none}
use Rattle.mask.proofs.Lists.{more-none, more-next}
use Rattle.mask.proofs.list.list_word.Goals as goal

pub bounds-list-list : goal.bounds-list-list
bounds-list-list c =
    let p : 0 < c.loop-left.left = omega arith in
    let n = lowest 64 c.args.base c.loop-left.left c.loop-left.invariant.0 p in
    omega (arith, ap length n.next)

pub loop-left-preserved : goal.loop-left-preserved
loop-left-preserved c =
    let p : 0 < c.loop-left.left = omega arith in
    let n = lowest 64 c.args.base c.loop-left.left c.loop-left.invariant.0 p in (
      omega (arith, and_le_r c.loop-left.left (c.loop-left.left - 1)),
      omega (arith, ap length n.next),
      sym (more-next c.loop-left.list _ _) ∙ ap (with_more c.loop-left.list) (sym n.next) ∙ c.loop-left.invariant.2,
    )

pub returns : goal.returns
returns c =
    let e : c.loop-left.left ≡ 0 = omega arith in
    sym (more-none c.loop-left.list) ∙ rw (← places-none c.args.base 64, ← e) c.loop-left.invariant.2
