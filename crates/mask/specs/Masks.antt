-- 256 places in four words of 64 bits, and lists of places.
use Rattle.std.specs.Prelude.{ℕ, zero, suc, ◌+◌, ◌-◌, ◌*◌, ◌/◌, ◌%◌, Bool, ◌&&◌, List, ◌++◌, eqb, length, replicate}
use Rattle.std.proofs.lemmas.List.Edits.{sets}
use Rattle.mask.specs.declared.Mask.{Mask}
use Rattle.mask.specs.declared.list.MaskList.{MaskList}
use Rattle.mask.specs.Bits.{bit, word}

-- Word q of a mask; past the four, 0.
unfoldable pub word_at : Mask → ℕ → ℕ
word_at m zero = m.a
word_at m (suc zero) = m.b
word_at m (suc (suc zero)) = m.c
word_at m (suc (suc (suc zero))) = m.d
word_at m (suc (suc (suc (suc q)))) = 0

-- Whether the mask has place i.
unfoldable pub member : Mask → ℕ → Bool
member m i = bit (word_at m (i / 64)) (i % 64)

-- Word q of the places at which the function says yes.
unfoldable pub table_word : (ℕ → Bool) → ℕ → ℕ
table_word f q = word 64 (λ j. f (q * 64 + j))

-- The mask of the places at which the function says yes.
unfoldable pub mask_of : (ℕ → Bool) → Mask
mask_of f = record { a = table_word f 0; b = table_word f 1; c = table_word f 2; d = table_word f 3 }

-- The mask has no place: its words are 0.
unfoldable pub is_empty : Mask → Bool
is_empty m = eqb m.a 0 && eqb m.b 0 && eqb m.c 0 && eqb m.d 0

-- These places as a list, with zeros behind them.
unfoldable pub list_of : List ℕ → MaskList
list_of l = record { places = l ++ replicate (256 - length l) 0; count = length l }

-- The list with more places at its end.
unfoldable pub with_more : MaskList → List ℕ → MaskList
with_more list more = record { places = sets list.places list.count more; count = list.count + length more }
