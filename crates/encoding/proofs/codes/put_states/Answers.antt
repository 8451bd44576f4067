-- `encoding::put_states` meets its contract. The loop's invariant: the numbers of the first `at` slots are written, the others are as they were.
-- Assumes nothing.
use mathlib.Core.Path.{◌≡◌, refl, sym, ap, ◌∙◌}
use mathlib.Core.Bool.{Bool, true, false, cond}
use mathlib.Core.List.{List, [], ◌∷◌, ◌++◌, append_assoc, append-nil}
use Prim.Native.Nat.{ℕ, zero, suc, ◌+◌, ◌-◌, ◌*◌, ◌≤◌, ◌<◌, min}
use native.Mathlib.Nat.{add-zero, add-suc}
use native.Mathlib.Omega.{arith}
use borrow.Rule.Slice.PartMut.{put_mid}
use lib.ListN.{length, take, drop, length-drop}
use lib.Seq.{length-take-le, take_at, drop_at, drop-drop}
use Rattle.mask.specs.Bits.{bit}
use Rattle.mask.specs.Masks.{word_at, member}
use Rattle.mask.proofs.Masks.{member-word}
use Rattle.ring.specs.declared.SlotState.TheVariants.{Free, Filling, InFlight, Discarding}
use Rattle.ring.specs.declared.SlotStates.{SlotStates}
use Rattle.ring.specs.Counts.{table}
use Rattle.ring.specs.Masks.{state_at}
use Rattle.ring.specs.Parts.{state_of}
use Rattle.ring.proofs.Numbers.{table-long, table_same, table-whole}
use Rattle.encoding.specs.Codes.{state_number}
use Rattle.encoding.proofs.Digits.{number_in}
use Rattle.encoding.proofs.codes.put_states.Invariants.{number}
use Rattle.encoding.proofs.codes.put_states.Goals as goal

-- the numbers of the slots of word q
pick-number : (f i d : Bool) → number_in f i d ≡ state_number (cond f Filling (cond i InFlight (cond d Discarding Free)))
unfolding state_number
pick-number true i d = refl
pick-number false true d = refl
pick-number false false true = refl
pick-number false false false = refl

module _ (m : SlotStates) (q : ℕ) where
  abbrev number_at : ℕ → ℕ
  number_at j = number_in (bit (word_at m.filling q) j) (bit (word_at m.in_flight q) j) (bit (word_at m.discarding q) j)

  number-at : (j : ℕ) → j < 64 → number_at j ≡ number m (q * 64 + j)
  unfolding number state_at
  number-at j h =
      rw (← member-word m.filling q j h, ← member-word m.in_flight q j h, ← member-word m.discarding q j h)
      (pick-number (member m.filling (q * 64 + j)) (member m.in_flight (q * 64 + j)) (member m.discarding (q * 64 + j)))

-- a table in two parts
table-append : (g : ℕ → ℕ) (a b : ℕ) → table g (a + b) ≡ table g a ++ table (λ j. g (a + j)) b
unfolding table
table-append g a zero = rw (add-zero a) (sym (append-nil (table g a)))
table-append g a (suc b) =
    rw add-suc
    (ap (λ (l : List ℕ). l ++ (g (a + b) ∷ [])) (table-append g a b) ∙ append_assoc (table g a) (table (λ j. g (a + j)) b) (g (a + b) ∷ []))

-- a part of the codes comes home with the numbers of its slots
part-home : (g h : ℕ → ℕ) (l cur : List ℕ) (at end : ℕ) → cur ≡ table g at ++ drop at l → at ≤ end → end ≤ length l
    → ((j : ℕ) → j < end - at → h j ≡ g (at + j))
    → (part : List ℕ) → part ≡ table h (length (take (end - at) (drop at cur))) → put_mid at (end - at) cur part ≡ table g end ++ drop end l
part-home g h l cur at end is low room same part e =
    let count = end - at in
    let front : take at cur ≡ table g at = ap (take at) is ∙ take_at (table g at) (drop at l) at (table-long g at) in
    let back : drop at cur ≡ drop at l = ap (drop at) is ∙ drop_at (table g at) (drop at l) at (table-long g at) in
    let ends : at + count ≡ end = omega arith in
    let long : length (take count (drop at cur)) ≡ count =
    length-take-le count (drop at cur) (rw (back, length-drop) (omega arith)) in
    let all : part ≡ table (λ j. g (at + j)) count = e ∙ ap (table h) long ∙ table_same h (λ j. g (at + j)) count same in
    rw (front, all, back, drop-drop count at l, ends)
    (sym (append_assoc (table g at) (table (λ j. g (at + j)) count) (drop end l))
    ∙ ap (λ (t : List ℕ). t ++ drop end l) (sym (table-append g at count) ∙ ap (table g) ends))

-- so with the words that were picked
round : (m : SlotStates) (f i d q at end : ℕ) (l cur part : List ℕ)
    → f ≡ word_at m.filling q → i ≡ word_at m.in_flight q → d ≡ word_at m.discarding q
    → at ≡ min (length l) (q * 64) → end ≡ min (length l) (at + 64) → cur ≡ table (number m) at ++ drop at l
    → part ≡ table (λ j. number_in (bit f j) (bit i j) (bit d j)) (length (take (end - at) (drop at cur)))
    → put_mid at (end - at) cur part ≡ table (number m) end ++ drop end l
round m f i d q at end l cur part ef ei ed is-at is-end is e =
    part-home (number m) (number_at m q) l cur at end is (omega arith) (omega arith)
    (λ j h. number-at m q j (omega arith) ∙ ap (λ (k : ℕ). number m (k + j)) (omega arith))
    part (rw (ef, ei, ed) at e)

-- before the first
none : (g : ℕ → ℕ) (l : List ℕ) (k : ℕ) → k ≡ 0 → l ≡ table g k ++ drop k l
unfolding table
none g l k e = rw e

pub loop-q-init : goal.loop-q-init
loop-q-init c = none _ _ _ (omega arith)

pub loop-q-preserved : goal.loop-q-preserved
loop-q-preserved c =
    let l = c.args.codes.now in
    let q = c.loop-q.q in
    let from : q * 64 ≡ min (length l) (q * 64) = omega (arith, c.div_ceil-q-end.ensures) in
    let turned =
    round c.args.ring.states _ _ _ q (q * 64) c.min-to.result l c.loop-q.codes _
    c.word.ensures c.word-in-loop-q.ensures c.word-in-loop-q-2.ensures
    from c.min-to.ensures (rw (← from) at c.loop-q.invariant) c.put_slots.ensures in
    let next : min (length l) ((q + 1) * 64) ≡ c.min-to.result = omega (arith, c.min-to.ensures) in
    rw next turned

pub returns : goal.returns
unfolding number state_of
returns c =
    let l = c.args.codes.now in
    let q = c.loop-q.q in
    c.loop-q.invariant ∙ table-whole (number c.args.ring.states) l (min (length l) (q * 64)) (omega (arith, c.div_ceil-q-end.ensures))
