-- A text as C reads it: its bytes, then a zero byte.
use Rattle.std.specs.Prelude.{ℕ, ◌-◌, List, [], ◌∷◌, ◌++◌, length, take}
use Prim.Native.Char.{code}
use Prim.Native.String.{String, [] as []ˢ, ◌∷◌ as ◌∷ˢ◌}
use Rattle.std.proofs.lemmas.List.Edits.{sets}

-- The codes of a text's characters.
unfoldable pub codes : String → List ℕ
codes []ˢ = []
codes (c ∷ˢ s) = code c ∷ codes s

-- The slice with a text stored from its start: as many bytes as leave room for a zero byte, then that. What lies behind is as it
-- was, and so is an empty slice: `sets` stores nothing past the end.
unfoldable pub c_string : List ℕ → List ℕ → List ℕ
c_string text slice = sets slice 0 (take (length slice - 1) text ++ (0 ∷ []))
