-- reaped: the words agree after a notice taken, by the slot's mark, and after every other reply.
-- Assumes nothing.
use Rattle.std.specs.Prelude.{Option, Some, None, Result, Ok, Err}
use mathlib.Core.Path.{◌≡◌, refl, sym, ap, subst, ◌∙◌}
use mathlib.Core.Bool.{Bool, true, false, cond}
use mathlib.Core.List.{List, [], ◌∷◌, ◌++◌}
use mathlib.Core.Option.{none, some}
use Prim.Native.Nat.{ℕ, ◌<◌}
use native.Mathlib.Omega.{arith}
use lib.Dec.{eqb}
use lib.ListN.{set}
use Rattle.error.specs.declared.Error.{Error}
use Rattle.error.specs.declared.ErrnoContext.{ErrnoContext}
use Rattle.error.specs.Errno.{from_errno}
use Rattle.layout.specs.declared.Setup.{Setup}
use Rattle.ring.specs.declared.Hand.{Hand}
use Rattle.ring.specs.Slots.{one}
use Rattle.stream.specs.declared.Answer.{Answer}
use Rattle.ledger.specs.Ledger.{Ledger, Mark, home, out, discarded, with_queue, with_marks, with_totals, marked, mark_of, returned}
use Rattle.ledger.specs.Notice.{slot_of_urb, completion_of}
use Rattle.ledger.specs.Step.{Next, refused, when_idle}
use Rattle.ledger.specs.Reaped.{is_gone, one_completed, noticed, by_address, by_errno, reaped_idle}
use Rattle.ledger.specs.Reaped as Reaped
use Rattle.ledger.specs.Calls.{reaped, lent_to}
use Rattle.ledger.proofs.Valid.{Valid}
use Rattle.ledger.proofs.Moves.{away-not-free}
use Rattle.ledger.proofs.Rings.{away}
use Rattle.ledger.proofs.KeptReplies.{away-below}
use Rattle.history.specs.Words.{Entry, asked, slot_at_address, after_discard}
use Rattle.history.proofs.Entries.{Says}
use Rattle.history.proofs.Marks.{Discards}
use Rattle.history.proofs.Totals.{one-completed, none-completed}
use Rattle.history.proofs.Answers.{back-errno, says-noticed, says-gone, says-foreign, says-stray, slot-addressed}
use Rattle.history.proofs.Effects.{Agrees, notices}
use Rattle.history.proofs.Gates.{After, says_nothing, says-refusal, at_rest, on-block, on-idle}

away≢home : 1 ≡ away home → ⊥
unfolding away
away≢home e = omega arith

away-out : away out ≡ 1
unfolding away
away-out = refl

away-discarded : away discarded ≡ 1
unfolding away
away-discarded = refl

-- whether a slot that is out was discarded
fresh-out : (m : Mark) (b : Bool) → m ≡ out → Discards m b → b ≡ false
unfolding Discards
fresh-out m b e d = subst (λ (x : Mark). Discards x b) e d

stale-out : (m : Mark) (b : Bool) → m ≡ discarded → Discards m b → b ≡ true
unfolding Discards
stale-out m b e d = subst (λ (x : Mark). Discards x b) e d

module _ (s : Setup) (l : Ledger) (v : Valid s.slots l) (log : List Entry) (a : Agrees s l.hand l.queue l.marks log) where
  -- reaped
  module _ (idle : l.hand ≡ Hand.Idle) (address : ℕ) (block : List ℕ) where
    -- slot i, which is out, noticed
    at-notice : (i : ℕ) → slot_at_address s address ≡ i → away (mark_of l i) ≡ 1 → (answer : Answer) → Says s (record { call = reaped (Ok address) block; answer = answer }) log none (some (slot_at_address s address)) none none false false → Agrees s l.hand (l.queue ++ (i ∷ [])) (set l.marks i home) (record { call = reaped (Ok address) block; answer = answer } ∷ log)
    unfolding mark_of one
    at-notice i at gone answer w =
        subst (λ (h : Hand). Agrees s h (l.queue ++ (i ∷ [])) (set l.marks i home) (entry ∷ log)) (sym idle)
        (notices entry a i (subst (λ (k : ℕ). Says s entry log none (some k) none none false false) at w) idle (rw v.long below) gone
        (v.queued i below ∙ ap one (away-not-free l i not_home)))
      where
        entry : Entry
        entry = record { call = reaped (Ok address) block; answer = answer }

        not_home : mark_of l i ≡ home → ⊥
        not_home e = away≢home (sym gone ∙ ap away e)

        below : i < s.slots
        below = away-below s.slots l v i not_home

    at_mark : (i : ℕ) → slot_at_address s address ≡ i → (m : Mark) → mark_of l i ≡ m → After s (reaped (Ok address) block) log l.totals (noticed s m i l block)
    unfolding noticed refused with_totals returned with_queue marked with_marks lent_to mark_of one_completed
    at_mark i at home e = at_rest s l v log a (reaped (Ok address) block) (Answer.Refused Error.StrayNotice) block (says-stray s address block log)
    at_mark i at out e = by-status (is_gone (completion_of s i false block).status)
      where
        fresh : after_discard i log ≡ false
        fresh = fresh-out (mark_of l i) (after_discard i log) e (a.marks-agree.discard-is i)

        next : Bool → Next
        next b =
            record {
              ledger = with_totals (one_completed (completion_of s i false block) l.totals) (returned i l);
              answer = cond b (Answer.Refused Error.Disconnected) (Answer.Completed (completion_of s i false block));
              lent = block;
            }

        by-status : (b : Bool) → After s (reaped (Ok address) block) log l.totals (next b)
        by-status true =
            let w = subst (λ (k : ℕ). Says s (record { call = reaped (Ok address) block; answer = Answer.Refused Error.Disconnected }) log none (some k) none none false false) at (says-gone s address block log) in
            record {
              agrees = at-notice i at (ap away e ∙ away-out) (Answer.Refused Error.Disconnected) (says-gone s address block log);
              moves = one-completed i w fresh l.totals;
              underruns-kept = refl;
            }
        by-status false =
            let c = completion_of s i false block in
            let w = subst (λ (k : ℕ). Says s (record { call = reaped (Ok address) block; answer = Answer.Completed c }) log none (some k) none none false false) at (says-noticed s address block c log) in
            record {
              agrees = at-notice i at (ap away e ∙ away-out) (Answer.Completed c) (says-noticed s address block c log);
              moves = one-completed i w fresh l.totals;
              underruns-kept = refl;
            }
    at_mark i at discarded e =
        let c = completion_of s i true block in
        let w = subst (λ (k : ℕ). Says s (record { call = reaped (Ok address) block; answer = Answer.Completed c }) log none (some k) none none false false) at (says-noticed s address block c log) in
        record {
          agrees = at-notice i at (ap away e ∙ away-discarded) (Answer.Completed c) (says-noticed s address block c log);
          moves = none-completed i w (stale-out (mark_of l i) (after_discard i log) e (a.marks-agree.discard-is i)) l.totals;
          underruns-kept = refl;
        }

    at_address : (f : Option ℕ) → slot_of_urb s address block ≡ f → After s (reaped (Ok address) block) log l.totals (by_address s f l block)
    unfolding by_address
    at_address None e = at_rest s l v log a (reaped (Ok address) block) Answer.Foreign block (says-foreign s address block log)
    at_address (Some i) e = at_mark i (slot-addressed s address block i e) (mark_of l i) refl

  at-errno : (e : ℕ) (block : List ℕ) → After s (reaped (Err e) block) log l.totals (by_errno e l block)
  unfolding by_errno asked
  at-errno e block = by-errno (eqb e 11)
    where
      by-errno : (b : Bool) → After s (reaped (Err e) block) log l.totals (record { ledger = l; answer = cond b Answer.Nothing (Answer.Refused (from_errno e ErrnoContext.Other)); lent = block })
      by-errno true = at_rest s l v log a (reaped (Err e) block) Answer.Nothing block (says_nothing s (reaped (Err e) block) log refl)
      by-errno false =
          let error = from_errno e ErrnoContext.Other in
          at_rest s l v log a (reaped (Err e) block) (Answer.Refused error) block
          (says-refusal s (reaped (Err e) block) error log refl (back-errno e ErrnoContext.Other))

  at-reaping : l.hand ≡ Hand.Idle → (r : Result ℕ ℕ) (block : List ℕ) → After s (reaped r block) log l.totals (reaped_idle r s l block)
  unfolding reaped_idle
  at-reaping idle (Err e) block = at-errno e block
  at-reaping idle (Ok address) block = at_address idle address block (slot_of_urb s address block) refl

  pub at-reaped : (r : Result ℕ ℕ) (block : List ℕ) → After s (reaped r block) log l.totals (Reaped.reaped r s l block)
  unfolding Reaped.reaped
  at-reaped r block =
      on-block s l v log a (reaped r block) (when_idle (reaped_idle r)) block
      (on-idle s l v log a (reaped r block) (reaped_idle r) block (λ idle. at-reaping idle r block))
