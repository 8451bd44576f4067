-- Numbers one after the other in bytes, all of one width, little-endian.
use Rattle.std.specs.Prelude.{ℕ, ◌+◌, ◌*◌, ◌/◌, Bool, true, false, ◌&&◌, List, [], ◌∷◌, ◌++◌, eqb, length, take, get_or}
use Rattle.ring.specs.Counts.{table}
use Rattle.sys.specs.Bytes.{le, field, store}

-- The numbers, w bytes each.
unfoldable pub words : ℕ → List ℕ → List ℕ
words w [] = []
words w (v ∷ vs) = le w v ++ words w vs

-- The k numbers of w bytes each that stand at an offset.
unfoldable pub numbers_at : ℕ → ℕ → ℕ → List ℕ → List ℕ
numbers_at w k at bytes = table (λ i. field (at + w * i) w bytes) k

-- Numbers in n places, the unused ones zero.
unfoldable pub places : ℕ → List ℕ → List ℕ
places n numbers = table (λ i. get_or numbers i 0) n

-- A list that is lent as bytes: 8-byte numbers, a ragged end not counting.
unfoldable pub list_in : List ℕ → List ℕ
list_in bytes = numbers_at 8 (length bytes / 8) 0 bytes

-- 8-byte numbers written to a lent slice, as many whole ones as fit.
unfoldable pub written : List ℕ → List ℕ → List ℕ
written numbers out = store 0 (words 8 (take (length out / 8) numbers)) out

-- The bytes begin with these.
unfoldable pub begins : List ℕ → List ℕ → Bool
begins [] bytes = true
begins (x ∷ xs) [] = false
begins (x ∷ xs) (b ∷ bytes) = eqb x b && begins xs bytes
