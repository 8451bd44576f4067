-- A step's stretch stands in the buffer that it is of, and a step of neither buffer moves nothing. Assumes nothing.
use Rattle.std.specs.Prelude.{None}
use mathlib.Core.Path.{◌≡◌}
use mathlib.Core.Bool.{Bool}
use mathlib.Core.List.{List}
use Prim.Native.Nat.{ℕ, ◌≤◌, ◌+◌}
use native.Mathlib.Omega.{arith}
use lib.ListN.{length}
use Rattle.stretch.specs.declared.Positions.{Positions}
use Rattle.stretch.specs.declared.Stretch.{Stretch}
use Rattle.stretch.specs.Stretch.{source_of, stretch_from, next_stretch, buffer_of}

module _ (p m : List ℕ) (flag : Bool) (at : Positions) (capacity : ℕ) where
  abbrev step : Stretch
  step = next_stretch p m flag capacity at

  -- the stretch stands in the buffer that it is of
  pub next_stands : step.start + step.len ≤ length (buffer_of step.source p m)
  unfolding source_of stretch_from
  next_stands = grind arith

  -- a step of neither buffer moves nothing
  pub next_unmoved : step.source ≡ None → step.next ≡ at
  unfolding source_of stretch_from
  next_unmoved e = grind arith
