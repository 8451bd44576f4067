-- Numbers in a block of bytes, little-endian. A block is the list of its bytes.
use Rattle.std.specs.Prelude.{ℕ, zero, suc, ◌+◌, ◌*◌, ◌/◌, ◌%◌, List, [], ◌∷◌, ◌++◌, take, drop, map}
use Rattle.std.proofs.lemmas.List.Edits.{sets}

-- The k low bytes of v, the lowest first.
unfoldable pub le : ℕ → ℕ → List ℕ
le zero v = []
le (suc k) v = v % 256 ∷ le k (v / 256)

-- The number whose bytes are these, the lowest first.
unfoldable pub of_le : List ℕ → ℕ
of_le [] = 0
of_le (b ∷ bs) = 256 * of_le bs + b

-- The k bytes at an offset of a block.
abbrev pub part : ℕ → ℕ → List ℕ → List ℕ
part at k block = take k (drop at block)

-- The number in the k bytes at an offset of a block.
abbrev pub field : ℕ → ℕ → List ℕ → ℕ
field at k block = of_le (part at k block)

-- The block with these bytes stored at an offset, and all others as they were; a byte past the block's end is stored nowhere.
unfoldable pub store : ℕ → List ℕ → List ℕ → List ℕ
store at bytes block = sets block at bytes

-- Numbers laid one after the other, each in as many bytes as its width says.
unfoldable pub laid : List ℕ → List ℕ → List ℕ
laid [] values = []
laid (w ∷ widths) [] = []
laid (w ∷ widths) (v ∷ values) = le w v ++ laid widths values

-- The same of numbers that each have their width before them.
abbrev pub laid_fields : List (ℕ × ℕ) → List ℕ
laid_fields fields = laid (map (λ (f : ℕ × ℕ). f.0) fields) (map (λ (f : ℕ × ℕ). f.1) fields)
