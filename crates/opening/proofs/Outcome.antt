-- Opening answers Done exactly for admissible values with a block of their total; the record and the block are then the opened ones.
-- By what `opens` says of the values and the block's length. Assumes nothing.
use Rattle.std.specs.Prelude.{Result, Ok, Err}
use Rattle.layout.specs.declared.RingLayout.{RingLayout}
use Rattle.error.specs.declared.Error.{Error}
use Prim.Native.Nat.{ℕ}
use native.Mathlib.Omega.{arith}
use mathlib.Core.Path.{◌≡◌, refl}
use mathlib.Core.Bool.{true}
use mathlib.Core.List.{List}
use lib.ListN.{length}
use Rattle.layout.specs.declared.Setup.{Setup}
use Rattle.layout.specs.Opening.{total_of, admissible}
use Rattle.stream.specs.declared.Answer.{Answer}
use Rattle.opening.specs.Refusals.{opens}
use Rattle.opening.specs.Opened.{opened_stream}
use Rattle.opening.specs.Open.{opened_block, opened_or, open_outcome}
use Rattle.opening.proofs.Refusals.{opened-layout, admissible-opens}

module _ (s : Setup) (block : List ℕ) where
  pub done-admissible : (open_outcome s block).answer ≡ Answer.Done → (admissible s ≡ true) × (length block ≡ total_of s)
  unfolding open_outcome opened_or
  done-admissible = by (opens s (length block)) refl
    where
      by : (o : Result RingLayout Error) → opens s (length block) ≡ o → (opened_or o s block).answer ≡ Answer.Done → (admissible s ≡ true) × (length block ≡ total_of s)
      by (Ok layout) e d = ((opened-layout s (length block) layout e).admissible, (opened-layout s (length block) layout e).length)
      by (Err error) e d = let z : ◌≡◌ {A = ℕ} 0 1 = cc in absurd (omega arith)

  pub admissible-done : admissible s ≡ true → length block ≡ total_of s → open_outcome s block ≡ record { answer = Answer.Done; stream = opened_stream s; block = opened_block s }
  unfolding open_outcome opened_or
  admissible-done a e = rw (e, admissible-opens s a)
