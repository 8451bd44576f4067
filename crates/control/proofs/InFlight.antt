-- The numbers that stop lists: the places of the InFlight mask are the ledger's InFlight slots, since a slot is in the mask exactly when its mark
-- says out. By induction on the marks. Assumes nothing.
use Prim.Native.Nat.{ℕ, zero, suc, ◌≤◌, ◌<◌}
use mathlib.Core.Path.{◌≡◌, refl, sym, ap, ◌∙◌}
use mathlib.Core.Bool.{Bool, true, false, cond}
use mathlib.Core.List.{List, [], ◌∷◌}
use native.Mathlib.Omega.{arith}
use lib.ListN.{length, get_or}
use Rattle.mask.specs.Bits.{places}
use Rattle.mask.specs.Masks.{member}
use Rattle.ring.specs.declared.SlotState.{SlotState}
use Rattle.ring.specs.Parts.{state_of}
use Rattle.ring.specs.Slots.{is_in_flight}
use Rattle.ring.proofs.Masks.{flying-bit}
use Rattle.ring.proofs.Sound.{free-past}
use Rattle.ring.proofs.Wide.{Wide}
use Rattle.stream.specs.declared.Stream.{Stream}
use Rattle.stream.specs.Sound.{sound}
use Rattle.ledger.specs.Ledger.{Mark, home, out, discarded, mark_of}
use Rattle.ledger.specs.Control.{in_flight_from}
use Rattle.ledger.specs.Record.{mark_for, view}
use Rattle.ledger.proofs.View.{facts, view-marks-long, view-mark, own-tabled}

-- whether a slot with this mark is InFlight
unfoldable flying : Mark → Bool
flying home = false
flying out = true
flying discarded = false

state-flying : (state : SlotState) → is_in_flight state ≡ flying (mark_for state)
unfolding is_in_flight flying mark_for
state-flying SlotState.Free = refl
state-flying SlotState.Filling = refl
state-flying SlotState.InFlight = refl
state-flying SlotState.Discarding = refl

-- the first mark, and those behind it
first-listed : (m : Mark) (ms : List Mark) (i : ℕ) (l : List ℕ) → l ≡ in_flight_from (suc i) ms → cond (flying m) (i ∷ l) l ≡ in_flight_from i (m ∷ ms)
unfolding flying in_flight_from
first-listed home ms i l e = e
first-listed out ms i l e = ap (λ (x : List ℕ). i ∷ x) e
first-listed discarded ms i l e = e

-- places that are those of the marks, and none behind them
marks-listed :
    (ms : List Mark) (i k : ℕ) (f : ℕ → Bool) → length ms ≤ k →
    ((j : ℕ) → j < length ms → f j ≡ flying (get_or ms j home)) →
    ((j : ℕ) → length ms ≤ j → j < k → f j ≡ false) →
    places i k f ≡ in_flight_from i ms
unfolding places in_flight_from
marks-listed [] i zero f h same none = refl
marks-listed [] i (suc k) f h same none =
    rw (none 0 (omega arith) (omega arith))
    (marks-listed [] (suc i) k (λ j. f (suc j)) (omega arith) (λ j l. absurd (omega arith)) (λ j l b. none (suc j) (omega arith) (omega arith)))
marks-listed (m ∷ ms) i zero f h same none = absurd (omega arith)
marks-listed (m ∷ ms) i (suc k) f h same none =
    rw (same 0 (omega arith))
    (first-listed m ms i _
    (marks-listed ms (suc i) k (λ j. f (suc j)) (omega arith) (λ j l. same (suc j) (omega arith)) (λ j l b. none (suc j) (omega arith) (omega arith))))

module _ (s : Stream) (ok : sound s ≡ true) (wide : Wide s.ring) where
  -- a slot's place in the mask is as its state says
  flies : (i : ℕ) → i < 256 → member s.ring.states.in_flight i ≡ is_in_flight (state_of s.ring i)
  unfolding state_of
  flies = flying-bit s.ring.states (own-tabled s ok wide)

  pub mask-lists : places 0 256 (member s.ring.states.in_flight) ≡ in_flight_from 0 (view s).marks
  unfolding mark_of is_in_flight
  mask-lists =
      let few = (facts s ok wide).few in
      let long = view-marks-long s ok wide in
      marks-listed (view s).marks 0 256 (member s.ring.states.in_flight) (omega arith)
      (λ i h.
      flies i (omega arith)
      ∙ state-flying (state_of s.ring i)
      ∙ ap flying (sym (view-mark s ok wide i (omega arith))))
      (λ i h b. flies i b ∙ ap is_in_flight (free-past (facts s ok wide) i (omega arith)))
