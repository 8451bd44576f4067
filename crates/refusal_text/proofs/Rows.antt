-- The rows of the refusals in an array, at the places that are their numbers: the rows are numbered from 1 on, which computes, and 0,
-- which no row has, has an empty one. Assumes nothing.
use mathlib.Core.Path.{◌≡◌, refl, sym, ap, ◌∙◌}
use mathlib.Core.List.{List, [], ◌∷◌, map}
use Prim.Native.Nat.{ℕ, zero, suc, ◌+◌}
use Prim.Native.String.{String}
use native.Mathlib.Omega.{arith}
use borrow.Author.Tests.{eq-eqb, ne_eqb}
use lib.ListN.{get_or}
use Rattle.std.proofs.Common.{rules}
use Rattle.refusal_text.specs.CString.{codes}
use Rattle.refusal_text.specs.Refusals.{Refusal, refusals, row, name_of, text_of}

-- the rows are numbered from k on
abbrev Numbered : ℕ → List Refusal → Type 0
Numbered k [] = Unit {0}
Numbered k (r ∷ rows) = (r.0 ≡ k) × Numbered (suc k) rows

-- a text of each row: its name, or what it means; a number that no row has shows none
module _ (column : Refusal → String) (empty : (n : ℕ) → codes (column (n, "", "")) ≡ []) where
  column-row : (rows : List Refusal) (k n : ℕ) → Numbered k rows → get_or (map (λ r. codes (column r)) rows) n [] ≡ codes (column (row (k + n) rows))
  unfolding row
  column-row [] k n p = sym (empty (k + n))
  column-row (r ∷ rows) k zero p = rw (eq-eqb (k + 0) r.0 (omega (arith, p.0)))
  column-row (r ∷ rows) k (suc n) p =
      let next : suc k + n ≡ k + suc n = omega arith in
      rw (ne_eqb (k + suc n) r.0 (λ e. omega (arith, p.0)))
      (column-row rows (suc k) n p.1 ∙ ap (λ (m : ℕ). codes (column (row m rows))) next)

-- an empty text, then a text a row
unfoldable pub texts_of : (Refusal → String) → List (List ℕ)
texts_of column = [] ∷ map (λ r. codes (column r)) refusals

module _ (column : Refusal → String) (empty : (n : ℕ) → codes (column (n, "", "")) ≡ []) where
  text_at : Numbered 1 refusals → (n : ℕ) → get_or (texts_of column) n [] ≡ codes (column (row n refusals))
  unfolding refusals row texts_of
  text_at p zero = sym (empty 0)
  text_at p (suc n) =
      let next : 1 + n ≡ suc n = omega arith in
      column-row column empty refusals 1 n p ∙ ap (λ (m : ℕ). codes (column (row m refusals))) next

abbrev pub name : Refusal → String
name r = r.1

abbrev pub text : Refusal → String
text r = r.2

numbered : Numbered 1 refusals
unfolding refusals
numbered = search rules

pub name-at : (n : ℕ) → get_or (texts_of name) n [] ≡ codes (name_of n)
unfolding codes name_of
name-at = text_at name (λ n. refl) numbered

pub text-at : (n : ℕ) → get_or (texts_of text) n [] ≡ codes (text_of n)
unfolding codes text_of
text-at = text_at text (λ n. refl) numbered
