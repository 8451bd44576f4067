-- Refusals as a list of tests in order: the first test that holds refuses.
use Rattle.std.specs.Prelude.{Bool, true, false, cond, List, [], ◌∷◌, Result, Ok, Err}
use Rattle.std.proofs.Math.Option.{Option, none, some}
use Rattle.error.specs.declared.Error.{Error}

-- A test, and the refusal that it gives where it holds.
abbrev pub Test : Type 0
Test = Bool × Error

-- The refusal of the first test that holds.
unfoldable pub first : List Test → Option Error
first [] = none
first (t ∷ ts) = cond t.0 (some t.1) (first ts)

-- The answer to a run of tests.
unfoldable pub tested : Option Error → Result (Unit {0}) Error
tested none = (Ok tt)
tested (some e) = Err e

-- No test held.
unfoldable pub passed : Option Error → Bool
passed none = true
passed (some e) = false
