-- Build answers a schedule exactly where record and block are the opened ones; refused, the record has no slots and the block is as it was.
-- By what `plan_of` and `opens` say. Assumes nothing.
use Rattle.std.specs.Prelude.{Ok, Err}
use Prim.Native.Nat.{ℕ}
use mathlib.Core.Path.{◌≡◌}
use mathlib.Core.Bool.{Bool}
use mathlib.Core.List.{List}
use native.Mathlib.Omega.{arith}
use Rattle.error.specs.declared.Error.{Error}
use Rattle.opening.specs.Opened.{opened_stream, no_stream}
use Rattle.opening.specs.Open.{opened_block, opened_or, open_outcome}
use Rattle.schedule.specs.declared.Schedule.{Schedule}
use Rattle.builder.specs.declared.IsoOutBuilder.{IsoOutBuilder}
use Rattle.builder.specs.Build.{setup_of, opening_answer, built_or, build_outcome}

module _ (b : IsoOutBuilder) (base : ℕ) (tagged : Bool) (block : List ℕ) where
  pub scheduled : (s : Schedule) → (build_outcome b base tagged block).answer ≡ Ok s
      → ((build_outcome b base tagged block).stream ≡ opened_stream (setup_of b s base tagged))
      × ((build_outcome b base tagged block).block ≡ opened_block (setup_of b s base tagged))
  unfolding build_outcome built_or opening_answer open_outcome opened_or
  scheduled s h = grind arith

  pub refused : (e : Error) → (build_outcome b base tagged block).answer ≡ Err e
      → ((build_outcome b base tagged block).stream ≡ no_stream) × ((build_outcome b base tagged block).block ≡ block)
  unfolding build_outcome built_or opening_answer open_outcome opened_or
  refused e h = grind arith
