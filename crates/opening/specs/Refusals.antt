-- What opening refuses, by its values and the block's length: 1, 2, 3, 5 and 33, then 6, then 7.
use Rattle.layout.specs.declared.RingLayout.{RingLayout}
use Rattle.std.specs.Prelude.{ℕ, not, List, [], ◌∷◌, ◌++◌, eqb, Result}
use Rattle.std.proofs.Math.Option.{Option}
use Rattle.error.specs.declared.Error.{Error}
use Rattle.layout.specs.declared.Setup.{Setup}
use Rattle.layout.specs.Layout.{laid}
use Rattle.layout.specs.Opening.{layout_for, total_of, limits, base_address}
use Rattle.layout.specs.Tests.{Test, first}

-- Refusal 6: block length not total.
unfoldable pub block_length : Setup → ℕ → List Test
block_length s len = (not (eqb len (total_of s)), Error.BlockLength) ∷ []

-- The first of 1, 2, 3, 5, 33, 6, 7.
unfoldable pub refusal_of : Setup → ℕ → Option Error
refusal_of s len = first (limits s ++ (block_length s len ++ base_address s))

-- The layout of the values, or the refusal.
unfoldable pub opens : Setup → ℕ → Result RingLayout Error
opens s len = laid (refusal_of s len) (layout_for s)
