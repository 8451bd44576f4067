-- submitted: the words agree after an acceptance, with what it takes from the queue, and after a refused submission.
-- Assumes nothing.
use Rattle.std.specs.Prelude.{Result, Ok, Err}
use mathlib.Core.Path.{◌≡◌, refl, ap, ◌∙◌}
use mathlib.Core.Bool.{true, false≢true}
use mathlib.Core.List.{List, [], ◌∷◌}
use mathlib.Core.Option.{some}
use Prim.Native.Nat.{ℕ, zero, suc, ◌*◌, ◌<◌}
use lib.Dec.{eqb}
use lib.ListN.{length}
use borrow.Author.Tests.{eq-eqb, eqb-true}
use Rattle.error.specs.declared.ErrnoContext.{ErrnoContext}
use Rattle.layout.specs.declared.Setup.{Setup}
use Rattle.ring.specs.declared.Hand.{Hand}
use Rattle.ring.specs.Slots.{holds}
use Rattle.stream.specs.declared.Answer.{Answer}
use Rattle.ledger.specs.Ledger.{Ledger, home, with_hand, with_queue, with_marks, with_flags, with_totals, marked, mark_of}
use Rattle.ledger.specs.Turn.{take_front, silence_front}
use Rattle.ledger.specs.Submitted.{accepted_ledger, submit_failed, sent, chained, silent, by_sending, submitted_hand}
use Rattle.ledger.specs.Submitted as Submitted
use Rattle.ledger.specs.Calls.{submitted, lent_to}
use Rattle.ledger.proofs.Valid.{Valid}
use Rattle.ledger.proofs.Kept.{in-sending, in-silent}
use Rattle.history.specs.Words.{Entry, said, last_submit}
use Rattle.history.proofs.Hands.{sends}
use Rattle.history.proofs.Totals.{one-submitted}
use Rattle.history.proofs.Answers.{says-accepted, says-errno}
use Rattle.history.proofs.Effects.{Agrees, accepts, accepts-and-takes}
use Rattle.history.proofs.Gates.{After, once, at_9, on-block, at_back}

module _ (s : Setup) (l : Ledger) (v : Valid s.slots l) (log : List Entry) (a : Agrees s l.hand l.queue l.marks log) where
  -- submitted: the hand sends slot i
  module _ (i : ℕ) (below : i < s.slots) (held : (k : ℕ) → holds l.hand k ≡ eqb i k) (sending : sends l.hand i ≡ true) (block : List ℕ) where
    in-hand : holds l.hand i ≡ true
    in-hand = held i ∙ eq-eqb i i refl

    last : last_submit log ≡ some i
    last = a.hand-agrees.submit-is i sending

    marks-long : i < length l.marks
    marks-long = rw v.long below

    at-failed : (e : ℕ) → After s (submitted (Err e) block) log l.totals (submit_failed s i e l block)
    unfolding submit_failed
    at-failed e =
        at_back s l v log a i below held (submitted (Err e) block) _ block
        (says-errno s e block (ErrnoContext.Submit (s.slots * s.packets_per_urb * s.packet_bytes)) log)

    at_home : mark_of l i ≡ home
    at_home = v.at_home i below in-hand

    at-sent : (r : Result (Unit {0}) ℕ) → After s (submitted r block) log l.totals (sent r i s l block)
    unfolding sent accepted_ledger lent_to with_hand with_totals with_flags marked with_marks mark_of said Submitted.one_submitted
    at-sent (Ok tt) =
        let w = says-accepted s block Answer.Done log i last refl refl in
        record { agrees = accepts _ a i w held marks-long at_home; moves = one-submitted i w l.totals; underruns-kept = refl }
    at-sent (Err e) = at-failed e

    -- accepted, and the next front slot taken, for the host or silenced
    at-next-take : (q : List ℕ) → l.queue ≡ q → After s (submitted (Ok tt) block) log l.totals (take_front q (accepted_ledger s i l block) block)
    unfolding take_front accepted_ledger lent_to with_hand with_queue with_totals with_flags marked with_marks mark_of said holds sends Submitted.one_submitted
    at-next-take [] p =
        let w = says-accepted s block Answer.Nothing log i last refl refl in
        record { agrees = accepts _ a i w held marks-long at_home; moves = one-submitted i w l.totals; underruns-kept = refl }
    at-next-take (j ∷ rest) p =
        record {
          agrees = accepts-and-takes _ a i j rest (says-accepted s block (Answer.Slot j) log i last refl refl) held marks-long at_home p (once s l v log a j rest p)
              (Hand.Held j) (λ k. refl) (λ k x. absurd (false≢true x));
          moves = one-submitted i (says-accepted s block (Answer.Slot j) log i last refl refl) l.totals;
          underruns-kept = refl;
        }

    at-next-silence : (left : ℕ) (q : List ℕ) → l.queue ≡ q → After s (submitted (Ok tt) block) log l.totals (silence_front s left q (accepted_ledger s i l block) block)
    unfolding silence_front accepted_ledger lent_to with_hand with_queue with_totals with_flags marked with_marks mark_of said holds sends Submitted.one_submitted
    at-next-silence left [] p = at-next-take [] p
    at-next-silence left (j ∷ rest) p =
        record {
          agrees = accepts-and-takes _ a i j rest (says-accepted s block (Answer.Submit j) log i last refl refl) held marks-long at_home p (once s l v log a j rest p)
              (Hand.Silent j left) (λ k. refl) (λ k x. ap some (eqb-true j k x));
          moves = one-submitted i (says-accepted s block (Answer.Submit j) log i last refl refl) l.totals;
          underruns-kept = refl;
        }

    at-chained : (left : ℕ) → After s (submitted (Ok tt) block) log l.totals (chained s left (accepted_ledger s i l block) block)
    unfolding chained accepted_ledger with_hand with_totals with_flags marked with_marks
    at-chained zero = at-next-take l.queue refl
    at-chained (suc more) = at-next-silence more l.queue refl

    at-silent : (r : Result (Unit {0}) ℕ) (left : ℕ) → After s (submitted r block) log l.totals (silent r i left s l block)
    unfolding silent
    at-silent (Ok tt) left = at-chained left
    at-silent (Err e) left = at-failed e

  at-sending : (r : Result (Unit {0}) ℕ) (block : List ℕ) (h : Hand) → l.hand ≡ h → After s (submitted r block) log l.totals (by_sending r h s l block)
  unfolding by_sending holds sends
  at-sending r block Hand.Idle e = at_9 s l v log a (submitted r block) block
  at-sending r block (Hand.Held i) e = at_9 s l v log a (submitted r block) block
  at-sending r block (Hand.Sending i) e =
      at-sent i (in-sending s.slots l v i e) (λ k. ap (λ (h : Hand). holds h k) e) (ap (λ (h : Hand). sends h i) e ∙ eq-eqb i i refl) block r
  at-sending r block (Hand.Silent i left) e =
      at-silent i (in-silent s.slots l v i left e).0 (λ k. ap (λ (h : Hand). holds h k) e) (ap (λ (h : Hand). sends h i) e ∙ eq-eqb i i refl) block r left

  pub at-submitted : (r : Result (Unit {0}) ℕ) (block : List ℕ) → After s (submitted r block) log l.totals (Submitted.submitted r s l block)
  unfolding Submitted.submitted submitted_hand
  at-submitted r block = on-block s l v log a (submitted r block) (submitted_hand r) block (at-sending r block l.hand refl)
