-- give_back, start, stop and finish keep a ledger valid.
-- Assumes nothing.
use mathlib.Core.Path.{◌≡◌, refl, ap, ◌∙◌}
use mathlib.Core.Bool.{Bool, true, false}
use mathlib.Core.List.{List, [], ◌∷◌, ◌++◌}
use Prim.Native.Nat.{ℕ, zero, suc}
use lib.Dec.{ltb}
use lib.ListN.{length, get_or, drop}
use Rattle.error.specs.declared.Error.{Error}
use Rattle.layout.specs.declared.Setup.{Setup}
use Rattle.ring.specs.Slots.{is_free, one, holds}
use Rattle.stream.specs.declared.Answer.{Answer}
use Rattle.ledger.specs.Ledger.{Ledger, Mark, home, out, discarded, with_marks, with_flags, mark_of, outs, slot_state, state_in}
use Rattle.ledger.specs.Step.{refused}
use Rattle.ledger.specs.Control.{give_back_held, give_back, started_ledger, start_idle, start, discard_all, in_flight_from, stop_idle, stop, finish_idle, finish}
use Rattle.ledger.proofs.Valid.{Valid}
use Rattle.ledger.proofs.Kept.{either, flagged, refused-valid, idle-valid, held-valid, back-valid}

pub give-back-valid : (n : ℕ) (s : Setup) (l : Ledger) (lent : List ℕ) → Valid n l → Valid n (give_back s l lent).ledger
unfolding give_back give_back_held
give-back-valid n s l lent v = held-valid n give_back_held s l lent v (λ i e. back-valid n l v i e Answer.Done lent)

started-valid : (n : ℕ) (b : Bool) (l : Ledger) → Valid n l → Valid n (started_ledger b l)
unfolding started_ledger
started-valid n true l v = v
started-valid n false l v = flagged n true false l v

pub start-valid : (n : ℕ) (s : Setup) (l : Ledger) (lent : List ℕ) → Valid n l → Valid n (start s l lent).ledger
unfolding start start_idle
start-valid n s l lent v = idle-valid n start_idle s l lent v (λ e. started-valid n l.started l v)

-- a mark after stop
unfoldable pub stopped : Mark → Mark
stopped home = home
stopped out = discarded
stopped discarded = discarded

discard-long : (ms : List Mark) → length (discard_all ms) ≡ length ms
unfolding discard_all
discard-long [] = refl
discard-long (home ∷ ms) = ap suc (discard-long ms)
discard-long (out ∷ ms) = ap suc (discard-long ms)
discard-long (discarded ∷ ms) = ap suc (discard-long ms)

pub discard-at : (ms : List Mark) (i : ℕ) → get_or (discard_all ms) i home ≡ stopped (get_or ms i home)
unfolding discard_all stopped
discard-at [] i = refl
discard-at (home ∷ ms) zero = refl
discard-at (out ∷ ms) zero = refl
discard-at (discarded ∷ ms) zero = refl
discard-at (home ∷ ms) (suc i) = discard-at ms i
discard-at (out ∷ ms) (suc i) = discard-at ms i
discard-at (discarded ∷ ms) (suc i) = discard-at ms i

-- stop changes no mark to or from home, so as many are out
pub outs-discarded : (ms : List Mark) → outs (discard_all ms) ≡ outs ms
unfolding outs discard_all
outs-discarded [] = refl
outs-discarded (home ∷ ms) = outs-discarded ms
outs-discarded (out ∷ ms) = ap suc (outs-discarded ms)
outs-discarded (discarded ∷ ms) = ap suc (outs-discarded ms)

stopped-free : (b : Bool) (m : Mark) → is_free (slot_state b m) ≡ is_free (slot_state b (stopped m))
unfolding stopped is_free slot_state
stopped-free true m = refl
stopped-free false home = refl
stopped-free false out = refl
stopped-free false discarded = refl

stopped-home : (m : Mark) → m ≡ home → stopped m ≡ home
unfolding stopped
stopped-home m e = rw e

discards-valid : (n : ℕ) (l : Ledger) → Valid n l → Valid n (with_marks (discard_all l.marks) l)
unfolding with_marks state_in mark_of
discards-valid n l v =
    record {
      few = v.few;
      long = discard-long l.marks ∙ v.long;
      below = v.below;
      queued = λ i h. rw (discard-at l.marks i) (v.queued i h ∙ ap one (stopped-free (holds l.hand i) (get_or l.marks i home)));
      within = v.within;
      at_home = λ i h e. discard-at l.marks i ∙ stopped-home _ (v.at_home i h e);
    }

pub stop-valid : (n : ℕ) (s : Setup) (l : Ledger) (list : List ℕ) → Valid n l → Valid n (stop s l list).ledger
unfolding stop stop_idle
stop-valid n s l list v =
    idle-valid n stop_idle s l list v
    (λ e.
    let slots = in_flight_from 0 l.marks in
    either n (ltb (length list) (length slots)) (refused Error.ListTooShort l list)
    (record {
      ledger = with_flags false false (with_marks (discard_all l.marks) l);
      answer = Answer.Stopped (length slots);
      lent = slots ++ drop (length slots) list;
    })
    (refused-valid n Error.ListTooShort l list v)
    (flagged n false false _ (discards-valid n l v)))

pub finish-valid : (n : ℕ) (s : Setup) (l : Ledger) (lent : List ℕ) → Valid n l → Valid n (finish s l lent).ledger
unfolding finish finish_idle
finish-valid n s l lent v = idle-valid n finish_idle s l lent v (λ e. v)
