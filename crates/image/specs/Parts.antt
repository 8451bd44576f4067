-- Bytes made of parts with no gaps, each part numbers of one width.
use Rattle.std.specs.Prelude.{ℕ, ◌+◌, ◌*◌, List, [], ◌∷◌, ◌++◌, length}
use Rattle.encoding.specs.Words.{words}

pub record Part : Type 0 where
  pub width : ℕ
  pub numbers : List ℕ

-- The parts' bytes.
unfoldable pub bytes_of : List Part → List ℕ
bytes_of [] = []
bytes_of (p ∷ rest) = words p.width p.numbers ++ bytes_of rest

-- Where each part starts, the first at an offset.
unfoldable pub starts : ℕ → List Part → List ℕ
starts at [] = []
starts at (p ∷ rest) = at ∷ starts (at + p.width * length p.numbers) rest
