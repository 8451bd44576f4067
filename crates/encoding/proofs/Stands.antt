-- Numbers that stand at an offset of the bytes: what stands behind them, and that they are read there. By the laws of reading back.
-- Assumes nothing.
use Prim.Native.Nat.{ℕ, ◌+◌, ◌*◌, ◌^◌, ◌≤◌, ◌<◌}
use native.Mathlib.Omega.{arith}
use mathlib.Core.Path.{◌≡◌, sym, ap, subst, ◌∙◌}
use mathlib.Core.List.{List, ◌++◌, append_assoc}
use lib.ListN.{length, get_or, length-append}
use Rattle.sys.specs.Bytes.{field}
use Rattle.encoding.specs.Words.{words, numbers_at}
use Rattle.encoding.proofs.Laid.{length-words}
use Rattle.encoding.proofs.Bytes.{number-at, numbers-back}

-- numbers of w bytes
abbrev pub Fit : ℕ → List ℕ → Type 0
Fit w vs = (i : ℕ) → i < length vs → get_or vs i 0 < 256 ^ w

-- the numbers vs, each of w bytes, stand at an offset of the bytes, and behind them the rest
pub record Stands (w at : ℕ) (vs rest bytes : List ℕ) : Type 0 where
  pub pre : List ℕ
  pub is : bytes ≡ pre ++ (words w vs ++ rest)
  pub long : length pre ≡ at

module _ {w at : ℕ} {vs rest bytes : List ℕ} (here : Stands w at vs rest bytes) where
  -- what stands behind them
  pub next : (u k : ℕ) (us more : List ℕ) → length vs ≡ k → rest ≡ words u us ++ more → Stands u (at + w * k) us more bytes
  next u k us more e split =
      record {
        pre = here.pre ++ words w vs;
        is =
            here.is
            ∙ ap (λ (r : List ℕ). here.pre ++ (words w vs ++ r)) split
            ∙ sym (append_assoc here.pre (words w vs) (words u us ++ more));
        long = rw (length-append, length-words w vs, e, here.long);
      }

  -- they are read there
  pub read : Fit w vs → (i : ℕ) → i < length vs → field (at + w * i) w bytes ≡ get_or vs i 0
  read fits i h = number-at w at here.pre vs rest bytes here.is here.long i h (fits i h)

  pub read_all : Fit w vs → (k : ℕ) → length vs ≡ k → numbers_at w k at bytes ≡ vs
  read_all fits k e =
      subst (λ (n : ℕ). numbers_at w n at bytes ≡ vs) e (numbers-back w at here.pre vs rest bytes here.is here.long fits)

  pub room : at + w * length vs ≤ length bytes
  room =
      let long : length bytes ≡ at + (w * length vs + length rest) = ap length here.is ∙ simp (length-append, length-words w vs, here.long) in
      omega arith
