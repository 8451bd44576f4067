-- What request 2026-06 says of one step, for every step: each sentence by the cases of its tests. Assumes nothing.
use mathlib.Core.Bool.{Bool}
use mathlib.Core.List.{List}
use Prim.Native.Nat.{ℕ}
use native.Mathlib.Omega.{arith}
use lib.ListN.{length-take, length-drop}
use Rattle.stretch.specs.declared.Positions.{Positions}
use Rattle.stretch.specs.Stretch.{source_of, stretch_from}
use Rattle.stretch.specs.OneStep.{OneStep}
use Rattle.stretch.proofs.Chosen.{next_stands}

module _ (p m : List ℕ) (flag : Bool) (capacity : ℕ) (at : Positions) where
  pub one-step : OneStep p m flag capacity at
  unfolding source_of stretch_from
  one-step =
      record {
        programme-beyond = λ h. grind arith;
        message-beyond = λ h. grind arith;
        refused = λ e. record { part = grind arith; next = grind arith };
        within = λ w. grind arith;
        stays_within = λ w. record { programme = grind arith; message = grind arith };
        from-message = λ w f h. grind arith;
        from-programme = λ w f. grind arith;
        used-up = λ w e. grind arith;
        programme-used-up = λ w s e. record { part = grind arith; next = grind arith };
        no-capacity = λ z. record { part = grind arith; next = grind arith };
        long = simp (length-take, length-drop) (omega (arith, next_stands p m flag at capacity));
      }
