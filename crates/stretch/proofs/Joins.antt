-- The stretches of each buffer join to the part of it that has been passed. By induction over the asks: a step's stretch is the part
-- between its position and the next, and two parts that meet join. Assumes nothing.
use Rattle.std.specs.Prelude.{Option, Some, None}
use mathlib.Core.Path.{◌≡◌, sym, ap, ◌∙◌}
use mathlib.Core.List.{List, [], ◌∷◌, ◌++◌}
use Prim.Native.Nat.{ℕ, ◌+◌, ◌-◌, ◌≤◌}
use native.Mathlib.Omega.{arith}
use lib.ListN.{take, drop}
use lib.Seq.{take-add, drop-drop}
use Rattle.stretch.specs.declared.Positions.{Positions}
use Rattle.stretch.specs.declared.Source.{Source}
use Rattle.stretch.specs.declared.Source.TheVariants.{Programme, Message}
use Rattle.stretch.specs.declared.Stretch.{Stretch}
use Rattle.stretch.specs.Stretch.{source_of, stretch_from, next_stretch, part_of}
use Rattle.stretch.specs.Steps.{Ask, steps, last, of_programme, of_message, joined, passed, Joins}

-- two parts that meet join
meet : (a b e : ℕ) (l : List ℕ) → a ≤ b → b ≤ e → passed a b l ++ passed b e l ≡ passed a e l
meet a b e l g h =
    let there : a + (b - a) ≡ b = omega arith in
    let whole : (b - a) + (e - b) ≡ e - a = omega arith in
    sym
    (ap (λ (n : ℕ). take n (drop a l)) (sym whole)
    ∙ take-add (b - a) (e - b) (drop a l)
    ∙ ap (λ (r : List ℕ). passed a b l ++ take (e - b) r) (drop-drop (b - a) a l ∙ ap (λ (n : ℕ). drop n l) there))

-- a part from a position on, so long, is what has been passed
first : (at n : ℕ) (l : List ℕ) → take n (drop at l) ≡ passed at (at + n) l
first at n l = let same : at + n - at ≡ n = omega arith in rw same

none : (at : ℕ) (l : List ℕ) → [] ≡ passed at at l
none at l = let same : at - at ≡ 0 = omega arith in rw same

-- what one step passes
module _ (p m : List ℕ) (at : Positions) where
  record One (s : Stretch) : Type 0 where
    programme-on : at.programme ≤ s.next.programme
    message-on : at.message ≤ s.next.message
    programme : of_programme s.source (part_of p m s) ≡ passed at.programme s.next.programme p
    message : of_message s.source (part_of p m s) ≡ passed at.message s.next.message m

  one : (capacity : ℕ) (s : Option Source) → One (stretch_from s p m capacity at)
  unfolding stretch_from
  one capacity (Some Programme) =
      record { programme-on = omega arith; message-on = omega arith; programme = first at.programme _ p; message = none at.message m }
  one capacity (Some Message) =
      record { programme-on = omega arith; message-on = omega arith; programme = none at.programme p; message = first at.message _ m }
  one capacity None =
      record { programme-on = omega arith; message-on = omega arith; programme = none at.programme p; message = none at.message m }

pub joins : (p m : List ℕ) (at : Positions) (asks : List Ask) → Joins p m at (last at (steps p m at asks)) (steps p m at asks)
unfolding steps last joined
joins p m at [] =
    record { programme-on = omega arith; message-on = omega arith; programme = none at.programme p; message = none at.message m }
joins p m at (a ∷ asks) =
    let s = next_stretch p m a.flag a.capacity at in
    let here = one p m at a.capacity (source_of p m a.flag at) in
    let rest = joins p m s.next asks in
    record {
      programme-on = omega (arith, here.programme-on, rest.programme-on);
      message-on = omega (arith, here.message-on, rest.message-on);
      programme = rw (here.programme, rest.programme) (meet at.programme s.next.programme _ p here.programme-on rest.programme-on);
      message = rw (here.message, rest.message) (meet at.message s.next.message _ m here.message-on rest.message-on);
    }
