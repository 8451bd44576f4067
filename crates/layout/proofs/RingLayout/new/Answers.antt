-- The tests of the sizes come first in the list, then 4, then 33, and where none holds the layout is made.
use Rattle.std.proofs.Common.{sym, ◌∙◌, rules}
use Rattle.layout.specs.Tests.{first}
use Rattle.layout.specs.Layout.{laid, laid_out}
use Rattle.layout.proofs.Refusals.{first-early, first-late, passed_none, refused-some, sized}
use Rattle.layout.proofs.Frames.{good-frame}
use Rattle.layout.proofs.Strides.{total-fits}
use Rattle.layout.proofs.RingLayout.new.Goals as goal

pub overflows-requires : goal.overflows-requires
overflows-requires c = sized _ _ _ (passed_none _ _ c.test_sizes.ensures c.in_ok-test_sizes.was)

pub returns-then-overflows : goal.returns-then-overflows
unfolding laid_out laid first
returns-then-overflows c =
    rw (first-late _ _ (passed_none _ _ c.test_sizes.ensures c.in_ok-test_sizes.was), sym c.overflows.ensures, c.if-overflows.true)

pub returns-then-bad_frame : goal.returns-then-bad_frame
unfolding laid_out laid first
returns-then-bad_frame c =
    rw (
      first-late _ _ (passed_none _ _ c.test_sizes.ensures c.in_ok-test_sizes.was),
      sym c.overflows.ensures,
      c.if-overflows.false,
      sym c.bad_frame.ensures,
      c.if-bad_frame.true,
    )

pub of-requires-clause-sized : goal.of-requires-clause-sized
of-requires-clause-sized c = sized _ _ _ (passed_none _ _ c.test_sizes.ensures c.in_ok-test_sizes.was)

pub of-requires-clause-packet_bytes_bound : goal.of-requires-clause-packet_bytes_bound
of-requires-clause-packet_bytes_bound c = (
  total-fits _ _ _ (sized _ _ _ (passed_none _ _ c.test_sizes.ensures c.in_ok-test_sizes.was)) (sym c.overflows.ensures ∙ c.if-overflows.false),
  (good-frame _ _ (sym c.bad_frame.ensures ∙ c.if-bad_frame.false)).0,
)

pub returns-in_err-test_sizes : goal.returns-in_err-test_sizes
unfolding laid_out laid first
returns-in_err-test_sizes c = rw (first-early _ _ _ (refused-some _ _ _ c.test_sizes.ensures c.in_err-test_sizes.was)) (search rules)

pub returns : goal.returns
unfolding laid_out laid first
returns c =
    rw (
      first-late _ _ (passed_none _ _ c.test_sizes.ensures c.in_ok-test_sizes.was),
      sym c.overflows.ensures,
      c.if-overflows.false,
      sym c.bad_frame.ensures,
      c.if-bad_frame.false,
      c.of.ensures,
    )
