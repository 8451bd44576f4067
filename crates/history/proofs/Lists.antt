-- The words about the whole list: they agree with the ledger after opening and after every call.
-- Assumes nothing.
use mathlib.Core.Path.{◌≡◌, refl, sym, ap, ◌∙◌}
use mathlib.Core.Bool.{true, false≢true}
use mathlib.Core.List.{List, [], ◌∷◌, append-nil}
use Prim.Native.Nat.{ℕ, zero, suc}
use lib.ListN.{get_or, replicate}
use Rattle.layout.specs.declared.Setup.{Setup}
use Rattle.ring.specs.declared.Hand.{Hand}
use Rattle.ring.specs.Counts.{slot_numbers}
use Rattle.ring.specs.Slots.{holds}
use Rattle.ledger.specs.Ledger.{home, outs, opened_ledger}
use Rattle.ledger.specs.Calls.{Call}
use Rattle.ledger.proofs.Valid.{Valid}
use Rattle.history.specs.History.{ledger_after}
use Rattle.history.specs.Words.{log_of, is_out, in_hand, never_left, after_discard}
use Rattle.history.specs.Demand3.{those, ascending, Counted}
use Rattle.history.specs.Sums.{total, underruns}
use Rattle.history.proofs.Marks.{gone, Discards}
use Rattle.history.proofs.Hands.{sends}
use Rattle.history.proofs.Totals.{Adds}
use Rattle.history.proofs.Effects.{Agrees}
use Rattle.history.proofs.Steps.{step_after}

-- a list of which all pass
those-all : (xs : List ℕ) → those (λ i. true) xs ≡ xs
unfolding those
those-all [] = refl
those-all (x ∷ xs) = ap (λ (r : List ℕ). x ∷ r) (those-all xs)

-- marks of slots at home
home_at : (n i : ℕ) → get_or (replicate n home) i home ≡ home
home_at zero i = refl
home_at (suc n) zero = refl
home_at (suc n) (suc i) = home_at n i

home-outs : (n : ℕ) → outs (replicate n home) ≡ 0
unfolding outs
home-outs zero = refl
home-outs (suc n) = home-outs n

pub opened-agrees : (s : Setup) → Agrees s Hand.Idle (slot_numbers s.slots) (replicate s.slots home) []
unfolding is_out in_hand never_left after_discard gone Discards holds sends total those ascending
opened-agrees s =
    record {
      marks-agree = record { out-is = λ i. rw (home_at s.slots i); discard-is = λ i. rw (home_at s.slots i) tt };
      hand-agrees =
          record { hand-is = λ i. refl; named-is = λ i p. absurd (false≢true p); submit-is = λ i p. absurd (false≢true p) };
      in_order =
          record {
            rest = [];
            split = sym (append-nil _ ∙ those-all (slot_numbers s.slots));
            left = refl;
            by-return = refl;
          };
      conserved = record { is = rw (home-outs s.slots) };
    }

-- after every list
pub list-agrees : (s : Setup) → ((h : List Call) → Valid s.slots (ledger_after s h)) → (h : List Call) → Agrees s (ledger_after s h).hand (ledger_after s h).queue (ledger_after s h).marks (log_of s h)
unfolding ledger_after log_of opened_ledger
list-agrees s valid [] = opened-agrees s
list-agrees s valid (c ∷ h) = (step_after s (ledger_after s h) (valid h) (log_of s h) (list-agrees s valid h) c).agrees

-- the counters after every list
pub list_counted : (s : Setup) → ((h : List Call) → Valid s.slots (ledger_after s h)) → (h : List Call) → Counted s h (ledger_after s h).totals
unfolding ledger_after log_of opened_ledger total underruns Adds
list_counted s valid [] =
    record {
      submitted = refl;
      completed = refl;
      bytes-submitted = refl;
      bytes-transferred = refl;
      short-bytes = refl;
      packet-errors = refl;
      urb-errors = refl;
      underruns = refl;
    }
list_counted s valid (c ∷ h) =
    let p = step_after s (ledger_after s h) (valid h) (log_of s h) (list-agrees s valid h) c in
    let k = list_counted s valid h in
    record {
      submitted = p.moves.submitted _ k.submitted;
      completed = p.moves.completed-one _ k.completed;
      bytes-submitted = p.moves.bytes-submitted _ k.bytes-submitted;
      bytes-transferred = p.moves.bytes-transferred _ k.bytes-transferred;
      short-bytes = p.moves.short-bytes _ k.short-bytes;
      packet-errors = p.moves.packet-errors _ k.packet-errors;
      urb-errors = p.moves.urb-errors _ k.urb-errors;
      underruns = p.underruns _ k.underruns;
    }
