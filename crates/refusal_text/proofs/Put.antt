-- A text stored as far as there is room for a zero byte behind it, and then that. Assumes nothing.
use mathlib.Core.Path.{◌≡◌, refl, sym, ap, ◌∙◌}
use mathlib.Core.Logic.{◌⊎◌, inl, inr}
use mathlib.Core.List.{List, [], ◌∷◌, ◌++◌, append_assoc}
use Prim.Native.Nat.{ℕ, suc, ◌-◌, ◌≤◌, ◌<◌, min}
use native.Mathlib.Nat.{zero-add}
use native.Mathlib.Omega.{arith}
use lib.ListN.{length, take, drop, set, length-append}
use lib.Seq.{sets, sets-eq, drop-cons, length-take-le}
use Rattle.std.proofs.lemmas.List.{set_at, take_all}
use Rattle.std.proofs.lemmas.Bool.{cases_lt}
use Rattle.refusal_text.specs.CString.{c_string}

-- as much of the text as leaves room for a zero byte
cut : (text : List ℕ) (n room : ℕ) → n ≡ min (length text) room → take n text ≡ take room text
cut text n room e = go (cases_lt room (length text)) where
  go : (room < length text) ⊎ (length text ≤ room) → take n text ≡ take room text
  go (inl h) = let same : n ≡ room = omega arith in ap (λ (k : ℕ). take k text) same
  go (inr h) = take_all n text (omega arith) ∙ sym (take_all room text h)

-- bytes with room and a zero byte behind them
stored : (bytes out : List ℕ) (n : ℕ) → length bytes ≡ n → n < length out → bytes ++ (0 ∷ drop (suc n) out) ≡ sets out 0 (bytes ++ (0 ∷ []))
stored bytes out n e h =
    let all : length (bytes ++ (0 ∷ [])) ≡ suc n = omega (arith, length-append bytes (0 ∷ [])) in
    rw (sets-eq (bytes ++ (0 ∷ [])) out 0 (omega arith), all, zero-add) (sym (append_assoc bytes (0 ∷ []) (drop (suc n) out)))

pub put_cut : (text out : List ℕ) (n : ℕ) → 0 < length out → n ≡ min (length text) (length out - 1) → set (take n text ++ drop n out) n 0 ≡ c_string text out
unfolding c_string
put_cut text out n h e =
    let inside : n < length out = omega arith in
    let size : length (take n text) ≡ n = length-take-le n text (omega arith) in
    rw (drop-cons out n 0 inside)
    (set_at (take n text) _ (drop (suc n) out) 0 n size
    ∙ stored (take n text) out n size inside
    ∙ ap (λ (l : List ℕ). sets out 0 (l ++ (0 ∷ []))) (cut text n (length out - 1) e))

-- an empty slice stays so
pub put_nowhere : (text out : List ℕ) → length out ≡ 0 → out ≡ c_string text out
unfolding c_string
put_nowhere text [] h = refl
put_nowhere text (b ∷ out) h = absurd (omega arith)
