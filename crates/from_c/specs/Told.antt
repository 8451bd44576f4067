-- What C is told by a call: the number that it returns, and what its slices hold afterwards.
use Rattle.std.specs.Prelude.{ℕ, suc, ◌-◌, ◌^◌, List, ◌∷◌, map, ◌≡◌, ℤ, pos, negsuc}
use Rattle.stream.specs.declared.Answer.{Answer}
use Rattle.stream.specs.Numbers.{numbers_of}
use Rattle.encoding.specs.Words.{places, written}

-- The returned number, the image's buffer, the block or list that was lent ([] where nothing was), and the slice for the eight numbers.
pub record FromC : Type 0 where
  pub returned : ℕ
  pub image : List ℕ
  pub lent : List ℕ
  pub out : List ℕ

-- The number below 2^64 that stands for z in two's complement.
unfoldable pub unsigned64 : ℤ → ℕ
unsigned64 (pos n) = n
unsigned64 (negsuc n) = 2 ^ 64 - suc n

-- Eight numbers: the kind, the answer's own, zeros.
unfoldable pub eight_of : Answer → List ℕ
eight_of a = places 8 ((numbers_of a).kind ∷ map unsigned64 (numbers_of a).values)

-- 0 or the refusal's number is returned, and the eight numbers are written, as many whole ones as fit.
unfoldable pub told : Answer → List ℕ → List ℕ → List ℕ → FromC
told a image lent out =
    record { returned = (numbers_of a).number; image = image; lent = lent; out = written (eight_of a) out }

-- What a function of C promises: all of it.
pub record Returned (f : FromC) (r : ℕ) (bytes left numbers : List ℕ) : Type 0 where
  pub returned : r ≡ f.returned
  pub image : bytes ≡ f.image
  pub lent : left ≡ f.lent
  pub out : numbers ≡ f.out
