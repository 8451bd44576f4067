-- The limits come first in the list of tests, then 7, and within the limits the layout's total fits.
use Rattle.std.proofs.Common.{sym}
use Rattle.layout.specs.Tests.{passed}
use Rattle.layout.specs.Opening.{total_of, base_address, admissible}
use Rattle.layout.proofs.Refusals.{first-early, first-late, passed_none, refused-some, passed-only}
use Rattle.layout.proofs.Limits.{limited, limited-small, layout-total}
use Rattle.layout.proofs.Setup.admissible.Goals as goal

pub layout_of-layout-requires : goal.layout_of-layout-requires
layout_of-layout-requires c = limited _ (passed_none _ _ c.test_limits.ensures c.in-Ok.is)

pub bad_base-requires : goal.bad_base-requires
unfolding total_of
bad_base-requires c =
    rw (layout-total _ _ c.layout_of-layout.ensures) (limited-small _ (limited _ (passed_none _ _ c.test_limits.ensures c.in-Ok.is))).some

pub returns-in-Err : goal.returns-in-Err
unfolding admissible passed
returns-in-Err c = rw (first-early _ _ _ (refused-some _ _ _ c.test_limits.ensures c.in-Err.is))

pub returns-in-Ok : goal.returns-in-Ok
unfolding admissible base_address
returns-in-Ok c =
    rw (
      first-late _ _ (passed_none _ _ c.test_limits.ensures c.in-Ok.is),
      passed-only,
      ← layout-total _ _ c.layout_of-layout.ensures,
      sym c.bad_base.ensures,
    )
