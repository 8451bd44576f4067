-- The tests of the sizes come first in the list, then 5, then 33.
use Rattle.std.proofs.Common.{sym, ◌∙◌, inl, inr, arith, lt-ltb, le-ltb, rules}
use mathlib.Core.Bool.{or-true}
use Rattle.layout.specs.Tests.{first, tested}
use Rattle.layout.specs.Opening.{limits}
use Rattle.layout.proofs.Refusals.{first-early, first-late, passed_none, refused-some, sized}
use Rattle.layout.proofs.Frames.{good-frame}
use Rattle.layout.proofs.Limits.{limited-passes}
use Rattle.layout.proofs.Setup.test_limits.Goals as goal

pub returns-then-self-gt-MAX_SLOTS : goal.returns-then-self-gt-MAX_SLOTS
unfolding limits first tested
returns-then-self-gt-MAX_SLOTS c =
    rw (first-late _ _ (passed_none _ _ c.test_sizes.ensures c.in_ok-test_sizes.was))
    (elim c.then-self-gt-MAX_SLOTS.either [ inl h ↦ simp (lt-ltb 256 c.args.self.slots h) | inr h ↦ simp (lt-ltb 49152 c.args.self.packet_bytes h.1, or-true) ])

pub returns-then-bad_frame : goal.returns-then-bad_frame
unfolding limits first tested
returns-then-bad_frame c =
    rw (
      first-late _ _ (passed_none _ _ c.test_sizes.ensures c.in_ok-test_sizes.was),
      le-ltb 256 c.args.self.slots (omega arith),
      le-ltb 49152 c.args.self.packet_bytes (omega arith),
      sym c.bad_frame.ensures,
      c.if-bad_frame.true,
    )

pub returns-in_err-test_sizes : goal.returns-in_err-test_sizes
unfolding limits tested
returns-in_err-test_sizes c = rw (first-early _ _ _ (refused-some _ _ _ c.test_sizes.ensures c.in_err-test_sizes.was)) (search rules)

pub returns : goal.returns
unfolding tested
returns c =
    let frame = good-frame _ _ (sym c.bad_frame.ensures ∙ c.if-bad_frame.false) in
    rw (limited-passes c.args.self
    (record {
      sizes = sized _ _ _ (passed_none _ _ c.test_sizes.ensures c.in_ok-test_sizes.was);
      slots = omega arith;
      bytes = omega arith;
      some-frame = frame.0;
      frame = frame.1;
    }))
