-- Laws of a list of tests: a list is gone through front to back, and a run of tests answers with the first refusal or passes.
-- Assumes nothing.
use Rattle.std.specs.Prelude.{Result, Ok, Err}
use mathlib.Core.Path.{◌≡◌, refl}
use Prim.Native.Nat.{ℕ}
use mathlib.Core.Bool.{Bool, true, false, not, ◌||◌}
use mathlib.Core.List.{List, [], ◌∷◌, ◌++◌}
use mathlib.Core.Option.{Option, none, some}
use native.Mathlib.Omega.{arith}
use lib.Dec.{ltb, eqb}
use borrow.Author.Tests.{ltb-false, eqb-false, le-ltb, ne_eqb}
use Rattle.error.specs.declared.Error.{Error}
use Rattle.layout.specs.Tests.{Test, first, tested, passed}
use Rattle.layout.specs.Layout.{sizes, Sized}

-- What a list of tests refuses, a longer one refuses the same way.
pub first-early : (ts us : List Test) (e : Error) → first ts ≡ some e → first (ts ++ us) ≡ some e
unfolding first
first-early [] us e h = cc
first-early ((true, e') ∷ ts) us e h = h
first-early ((false, e') ∷ ts) us e h = first-early ts us e h

-- After tests that all pass, the rest decides.
pub first-late : (ts us : List Test) → first ts ≡ none → first (ts ++ us) ≡ first us
unfolding first
first-late [] us h = refl
first-late ((true, e') ∷ ts) us h = cc
first-late ((false, e') ∷ ts) us h = first-late ts us h

-- What an answer to a run of tests tells of the run.
pub passed_none : (t : Result (Unit {0}) Error) (o : Option Error) → t ≡ tested o → t ≡ (Ok tt) → o ≡ none
unfolding tested
passed_none t none h q = refl
passed_none t (some e) h q = cc

pub refused-some : (t : Result (Unit {0}) Error) (o : Option Error) (e : Error) → t ≡ tested o → t ≡ Err e → o ≡ some e
unfolding tested
refused-some t none e h q = cc
refused-some t (some e') e h q = cc

-- A list that passes: its first test doesn't hold, and the rest passes.
pub none-next : (t : Bool) (e : Error) (ts : List Test) → first ((t, e) ∷ ts) ≡ none → (t ≡ false) × (first ts ≡ none)
unfolding first
none-next true e ts h = (cc, cc)
none-next false e ts h = (refl, h)

pub or-falses : (a b : Bool) → (a || b) ≡ false → (a ≡ false) × (b ≡ false)
or-falses true b h = (cc, cc)
or-falses false b h = (refl, h)

-- Refusals 1, 2 and 3 leave what Sized says, and nothing else.
pub sized : (n p b : ℕ) → first (sizes n p b) ≡ none → Sized n p b
unfolding sizes
sized n p b h =
    let one = none-next (ltb n 2) _ _ h in
    let two = none-next (eqb p 0 || eqb b 0) _ _ one.1 in
    let three = none-next (ltb 128 p) _ _ two.1 in
    let zero = or-falses (eqb p 0) (eqb b 0) two.0 in
    record {
      slots = ltb-false n 2 one.0;
      packets = omega (arith, eqb-false p 0 zero.0);
      bytes = omega (arith, eqb-false b 0 zero.1);
      few = ltb-false 128 p three.0;
    }

pub sized-passes : (n p b : ℕ) → Sized n p b → first (sizes n p b) ≡ none
unfolding sizes first
sized-passes n p b s =
    simp (le-ltb n 2 s.slots, ne_eqb p 0 (omega arith), ne_eqb b 0 (omega arith), le-ltb 128 p s.few)

-- A list that passes passes in its front part.
pub none-front : (ts us : List Test) → first (ts ++ us) ≡ none → first ts ≡ none
unfolding first
none-front [] us h = refl
none-front ((true, e) ∷ ts) us h = h
none-front ((false, e) ∷ ts) us h = none-front ts us h

-- A list of one test passes exactly when the test doesn't hold.
pub passed-only : (t : Bool) (e : Error) → passed (first ((t, e) ∷ [])) ≡ not t
unfolding passed first
passed-only true e = refl
passed-only false e = refl

pub passed_first : (o : Option Error) → passed o ≡ true → o ≡ none
unfolding passed
passed_first none h = refl
passed_first (some e) h = cc
