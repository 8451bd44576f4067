-- `image::read::states_match` meets its contract: a byte is the number of the state that it is read as where it is 0 to 3. Assumes nothing.
use mathlib.Core.Path.{◌≡◌, refl, sym, ap, ap₂, ◌∙◌}
use mathlib.Core.Bool.{Bool, ◌&&◌}
use mathlib.Core.List.{List, [], ◌∷◌, ◌++◌, map}
use Prim.Native.Nat.{ℕ, zero, suc, ◌+◌, ◌-◌, ◌%◌, ◌≤◌, ◌<◌}
use native.Mathlib.Nat.{min-eq_left}
use native.Mathlib.Omega.{arith}
use borrow.Author.Rules.{rules}
use borrow.Author.Tests.{tests, ne_eqb, lt-leb}
use lib.Dec.{eqb, leb}
use lib.ListN.{length, take, drop, get_or, length-take, length-drop, length-map, get_or-map, take-append-drop}
use lib.Seq.{get_or-take, get_or-drop}
use Rattle.std.specs.List.{list_all}
use Rattle.std.proofs.lemmas.Iterator.{YieldsList-from_slice}
use Rattle.std.proofs.lemmas.Iterator.Search.{all_from_yields_List}
use Rattle.sys.specs.Bytes.{le}
use Rattle.ring.specs.Counts.{table}
use Rattle.ring.proofs.Numbers.{table_is}
use Rattle.encoding.specs.Codes.{state_number, state_from}
use Rattle.encoding.specs.Words.{words, begins}
use Rattle.image.specs.Reading.{states_at}
use Rattle.image.proofs.read.states_match.Goals as goal

-- the number of the state that a byte is read as
unfoldable state : ℕ → ℕ
state code = state_number (state_from code)

over : (code : ℕ) → 3 < code → state code ≡ 3
unfolding state state_number state_from
over code h = rw (ne_eqb code 0 (λ e. omega arith), ne_eqb code 1 (λ e. omega arith), ne_eqb code 2 (λ e. omega arith))

off : (code : ℕ) → 3 < code → leb code 3 ≡ eqb (state code % 256) code
off code h = rw (over code h, lt-leb code 3 h) (sym (ne_eqb 3 code (λ e. omega arith)))

same : (code : ℕ) → leb code 3 ≡ eqb (state code % 256) code
unfolding state state_number state_from
same zero = refl
same (suc zero) = refl
same (suc (suc zero)) = refl
same (suc (suc (suc zero))) = refl
same (suc (suc (suc (suc b)))) = off (suc (suc (suc (suc b)))) (omega arith)

each : (codes rest : List ℕ) → list_all (λ code. leb code 3) codes ≡ begins (words 1 (map state codes)) (codes ++ rest)
unfolding begins words le
each [] rest = refl
each (code ∷ codes) rest = ap₂ (λ (a b : Bool). a && b) (same code) (each codes rest)

all-match : (bytes codes : List ℕ) (n : ℕ) → codes ≡ take n (drop states_at bytes) → states_at + n ≤ length bytes
    → list_all (λ code. leb code 3) codes
    ≡ begins (words 1 (table (λ i. state_number (state_from (get_or bytes (states_at + i) 0))) n)) (drop states_at bytes)
unfolding state
all-match bytes codes n e room =
    let long : length codes ≡ n = rw (e, length-take, length-drop) (min-eq_left (omega arith)) in
    let at : (i : ℕ) → i < n → get_or (map state codes) i (state 0) ≡ state (get_or bytes (states_at + i) 0) =
    λ i h. get_or-map state codes i 0 ∙ ap state (rw e (get_or-take n (drop states_at bytes) i 0 h ∙ get_or-drop states_at bytes i 0)) in
    each codes (drop n (drop states_at bytes))
    ∙ ap₂ (λ (vs l : List ℕ). begins (words 1 vs) l)
    (sym
    (table_is (λ i. state (get_or bytes (states_at + i) 0)) (state 0) n (map state codes) (length-map codes state ∙ long)
    (λ i h. sym (at i h))))
    (rw (e, take-append-drop))

pub returns : goal.returns
returns c =
    let n = c.args.n in
    let behind : List ℕ = drop states_at c.args.image.now in
    all_from_yields_List (λ code. leb code 3) _ _ _ c.all.ensures.ran
    (YieldsList-from_slice (take (states_at + n - states_at) behind) c.iter.ensures.rest) (λ x b q k. search (rules, tests))
    ∙ all-match c.args.image.now _ n (ap (λ (k : ℕ). take k behind) (omega arith)) (omega arith)
