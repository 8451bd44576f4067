-- reaped and finish leave the hand as it is, by the cases of their rules; a stop that gives Done finds it Idle, and leaves it so. Assumes nothing.
use Rattle.std.specs.Prelude.{Option, Some, None, Result, Ok, Err}
use Prim.Native.Nat.{ℕ}
use mathlib.Core.Path.{◌≡◌, refl}
use mathlib.Core.Bool.{Bool, true, false, cond, false≢true}
use mathlib.Core.List.{List, [], ◌++◌}
use lib.Dec.{ltb, eqb}
use lib.ListN.{length, drop}
use Rattle.error.specs.declared.Error.{Error}
use Rattle.error.proofs.Numbers.{never-0}
use Rattle.layout.specs.declared.Setup.{Setup}
use Rattle.layout.specs.Opening.{total_of}
use Rattle.ring.specs.declared.Hand.{Hand}
use Rattle.stream.specs.declared.Answer.{Answer}
use Rattle.stream.specs.Numbers.{numbers_of}
use Rattle.ledger.specs.Ledger.{Ledger, Mark, home, out, discarded, with_queue, with_marks, with_flags, with_totals, marked, mark_of, returned}
use Rattle.ledger.specs.Notice.{slot_of_urb}
use Rattle.ledger.specs.Step.{Next, Rule, refused, on_block, by_idle, when_idle}
use Rattle.ledger.specs.Reaped.{noticed, by_address, by_errno, reaped_idle}
use Rattle.ledger.specs.Reaped as Reaped
use Rattle.ledger.specs.Control.{discard_all, in_flight_from, stop_idle, finish_idle}
use Rattle.ledger.specs.Control as Control
use Rattle.ledger.specs.Calls.{Call, turn, commit, commit_full, commit_packets, submitted, reaped, give_back, start, stop, finish, rule, lent_to, step_of}
use Rattle.history.specs.Words.{said}
use Rattle.history.specs.Shutdown.{is_reaped_or_finish}

-- what holds of every reaped and of finish holds of each of these calls
pub reaped-or-finish : (P : Call → Type 0) → ((r : Result ℕ ℕ) (block : List ℕ) → P (reaped r block)) → P finish → (c : Call) → is_reaped_or_finish c ≡ true → P c
unfolding is_reaped_or_finish
reaped-or-finish P f g (turn block) p = absurd (false≢true p)
reaped-or-finish P f g (commit bytes block) p = absurd (false≢true p)
reaped-or-finish P f g (commit_full block) p = absurd (false≢true p)
reaped-or-finish P f g (commit_packets lengths block) p = absurd (false≢true p)
reaped-or-finish P f g (submitted reply block) p = absurd (false≢true p)
reaped-or-finish P f g (reaped r block) p = f r block
reaped-or-finish P f g give_back p = absurd (false≢true p)
reaped-or-finish P f g start p = absurd (false≢true p)
reaped-or-finish P f g (stop list) p = absurd (false≢true p)
reaped-or-finish P f g finish p = g

-- one call on a ledger: the hand stays
module _ (s : Setup) (l : Ledger) where
  abbrev Keeps : Next → Type 0
  Keeps x = x.ledger.hand ≡ l.hand

  by-test : (b : Bool) (x y : Next) → Keeps x → Keeps y → Keeps (cond b x y)
  by-test true x y p q = p
  by-test false x y p q = q

  by_hand : (step : Rule) (lent : List ℕ) → Keeps (step s l lent) → Keeps (when_idle step s l lent)
  unfolding when_idle by_idle refused
  by_hand step lent p = go l.hand
    where
      go : (h : Hand) → Keeps (by_idle h (step s l lent) (refused Error.WrongHand l lent))
      go Hand.Idle = p
      go (Hand.Held i) = refl
      go (Hand.Sending i) = refl
      go (Hand.Silent i left) = refl

  noticed-keeps : (m : Mark) (i : ℕ) (block : List ℕ) → Keeps (noticed s m i l block)
  unfolding noticed refused with_totals returned with_queue marked with_marks
  noticed-keeps home i block = refl
  noticed-keeps out i block = refl
  noticed-keeps discarded i block = refl

  address-keeps : (f : Option ℕ) (block : List ℕ) → Keeps (by_address s f l block)
  unfolding by_address
  address-keeps None block = refl
  address-keeps (Some i) block = noticed-keeps (mark_of l i) i block

  reply-keeps : (r : Result ℕ ℕ) (block : List ℕ) → Keeps (reaped_idle r s l block)
  unfolding reaped_idle by_errno
  reply-keeps (Err e) block = refl
  reply-keeps (Ok address) block = address-keeps (slot_of_urb s address block) block

  reaped-keeps : (r : Result ℕ ℕ) (block : List ℕ) → Keeps (Reaped.reaped r s l block)
  unfolding Reaped.reaped on_block refused
  reaped-keeps r block =
      by-test (eqb (length block) (total_of s)) (when_idle (reaped_idle r) s l block) (refused Error.BlockLength l block)
      (by_hand (reaped_idle r) block (reply-keeps r block)) refl

  finish-keeps : Keeps (Control.finish s l [])
  unfolding Control.finish finish_idle
  finish-keeps = by_hand finish_idle [] refl

  pub hand-keeps : (c : Call) → is_reaped_or_finish c ≡ true → (step_of s c l).ledger.hand ≡ l.hand
  unfolding step_of rule lent_to
  hand-keeps = reaped-or-finish (λ (c : Call). (step_of s c l).ledger.hand ≡ l.hand) reaped-keeps finish-keeps

-- stop refuses, or finds the hand Idle and gives Done
module _ (s : Setup) (l : Ledger) (list : List ℕ) where
  slots : List ℕ
  slots = in_flight_from 0 l.marks

  done : Next
  done =
      record {
        ledger = with_flags false false (with_marks (discard_all l.marks) l);
        answer = Answer.Stopped (length slots);
        lent = slots ++ drop (length slots) list;
      }

  stop-cases : (P : Next → Type 0) → ((e : Error) → P (refused e l list)) → (l.hand ≡ Hand.Idle → P done) → P (Control.stop s l list)
  unfolding Control.stop when_idle by_idle stop_idle done slots
  stop-cases P f g = by l.hand refl
    where
      room : (b : Bool) → l.hand ≡ Hand.Idle → P (cond b (refused Error.ListTooShort l list) done)
      room true e = f Error.ListTooShort
      room false e = g e

      by : (h : Hand) → l.hand ≡ h → P (by_idle h (stop_idle s l list) (refused Error.WrongHand l list))
      by Hand.Idle e = room (ltb (length list) (length slots)) e
      by (Hand.Held i) e = f Error.WrongHand
      by (Hand.Sending i) e = f Error.WrongHand
      by (Hand.Silent i left) e = f Error.WrongHand

  pub stop-idle : (said (Control.stop s l list).answer).stopped ≡ true → (Control.stop s l list).ledger.hand ≡ Hand.Idle
  unfolding refused done said with_flags with_marks
  stop-idle =
      stop-cases (λ (x : Next). (said x.answer).stopped ≡ true → x.ledger.hand ≡ Hand.Idle) (λ e p. absurd (false≢true p)) (λ e p. e)

  -- it gives Done where its number is 0
  pub stop-done : (numbers_of (Control.stop s l list).answer).number ≡ 0 → (said (Control.stop s l list).answer).stopped ≡ true
  unfolding refused done said numbers_of
  stop-done =
      stop-cases (λ (x : Next). (numbers_of x.answer).number ≡ 0 → (said x.answer).stopped ≡ true) (λ e p. absurd (never-0 e p)) (λ e p. refl)

  -- it moves no counter
  pub stop-totals : (Control.stop s l list).ledger.totals ≡ l.totals
  unfolding refused done with_flags with_marks
  stop-totals = stop-cases (λ (x : Next). x.ledger.totals ≡ l.totals) (λ e. refl) (λ e. refl)
