-- The kinds of call by what they do to a slot, and that the words agree with the ledger after each.
-- Assumes nothing.
use mathlib.Core.Path.{◌≡◌, refl, sym, ap, subst, ◌∙◌}
use mathlib.Core.Bool.{Bool, true, false, cond, not, ◌&&◌, false≢true}
use mathlib.Core.List.{List, [], ◌∷◌, ◌++◌}
use mathlib.Core.Option.{Option, none, some}
use Prim.Native.Nat.{ℕ, ◌+◌, ◌<◌}
use native.Mathlib.Omega.{arith}
use lib.Dec.{eqb}
use lib.ListN.{length, get_or, set}
use lib.Seq.{set-get_or}
use borrow.Author.Tests.{eq-eqb, eqb-true}
use Rattle.layout.specs.declared.Setup.{Setup}
use Rattle.ring.specs.declared.Hand.{Hand}
use Rattle.ring.specs.Counts.{times}
use Rattle.ring.specs.Slots.{holds}
use Rattle.stream.specs.declared.Answer.{Answer}
use Rattle.ledger.specs.Ledger.{Mark, home, out, discarded, outs}
use Rattle.ledger.specs.Control.{discard_all}
use Rattle.ledger.proofs.Rings.{away, outs-set}
use Rattle.ledger.proofs.KeptControl.{outs-discarded}
use Rattle.history.specs.Words.{Entry, said, asked, six_or_nine, or_else, given, is_slot, last_submit, last_named, acceptance, notice, is_out, never_left}
use Rattle.history.specs.Demand3.{InOrder}
use Rattle.history.proofs.Entries.{Says, never-next, return-next}
use Rattle.history.proofs.Marks.{MarksAgree, gone, marks-kept, marks-accepted, marks-noticed, marks-stopped}
use Rattle.history.proofs.Hands.{HandAgrees, sends, hand-kept, hand-emptied, hand-named, leaves}
use Rattle.history.proofs.Order.{order-kept, order-took, order-back}
use Rattle.history.proofs.Totals.{Conserved, conserved-kept, conserved-accepted, conserved-noticed}

pub record Agrees (s : Setup) (hand : Hand) (queue : List ℕ) (marks : List Mark) (log : List Entry) : Type 0 where
  pub marks-agree : MarksAgree s marks log
  pub hand-agrees : HandAgrees s hand log
  pub in_order : InOrder s log queue
  pub conserved : Conserved s marks log

-- a slot that was named left the queue
left-again : (i : ℕ) (e : Entry) (log : List Entry) → never_left i log ≡ false → never_left i (e ∷ log) ≡ false
unfolding never_left
left-again i e log p = rw p (step (is_slot (said e.answer).named i))
  where
    step : (b : Bool) → (not b && false) ≡ false
    step true = refl
    step false = refl

-- what the last answer that named a slot says
last-left : (i : ℕ) (nam last : Option ℕ) (never : Bool) → or_else nam last ≡ some i → (last ≡ some i → never ≡ false) → (not (is_slot nam i) && never) ≡ false
unfolding or_else is_slot
last-left i none last never p f = f p
last-left i (some j) last never p f = rw (eq-eqb j i (cc p))

pub named-left : (i : ℕ) (log : List Entry) → last_named log ≡ some i → never_left i log ≡ false
unfolding last_named never_left
named-left i [] p = let z : ◌≡◌ {A = ℕ} 0 1 = cc in absurd (omega arith)
named-left i (e ∷ log) p = last-left i (said e.answer).named (last_named log) (never_left i log) p (λ q. named-left i log q)

submit-named : (a : Answer) (i : ℕ) → (said a).submit ≡ some i → (said a).named ≡ some i
unfolding said
submit-named (Answer.Refused e) i p = p
submit-named Answer.Done i p = p
submit-named (Answer.Stopped k) i p = p
submit-named Answer.Nothing i p = p
submit-named (Answer.Slot j) i p = let z : ◌≡◌ {A = ℕ} 0 1 = cc in absurd (omega arith)
submit-named (Answer.Submit j) i p = p
submit-named (Answer.Completed c) i p = p
submit-named Answer.Foreign i p = p
submit-named Answer.Yes i p = p

-- a slot that was submitted left the queue
submit-cases : (i : ℕ) (sub nam last : Option ℕ) (never : Bool) → (sub ≡ some i → nam ≡ some i) → or_else sub last ≡ some i → (last ≡ some i → never ≡ false) → (not (is_slot nam i) && never) ≡ false
unfolding or_else is_slot
submit-cases i none none last never n p f = f p
submit-cases i none (some k) last never n p f = rw (f p) (step (eqb k i))
  where
    step : (b : Bool) → (not b && false) ≡ false
    step true = refl
    step false = refl
submit-cases i (some j) nam last never n p f = rw (n p, eq-eqb i i refl)

pub submit-left : (i : ℕ) (log : List Entry) → last_submit log ≡ some i → never_left i log ≡ false
unfolding last_submit never_left
submit-left i [] p = let z : ◌≡◌ {A = ℕ} 0 1 = cc in absurd (omega arith)
submit-left i (e ∷ log) p =
    submit-cases i (said e.answer).submit (said e.answer).named (last_submit log) (never_left i log) (submit-named e.answer i) p (λ q. submit-left i log q)

-- a slot that is out was accepted, so it was submitted
given-some : (b : Bool) (o : Option ℕ) (i : ℕ) → is_slot (given b o) i ≡ true → o ≡ some i
unfolding given is_slot
given-some true none i p = absurd (false≢true p)
given-some true (some j) i p = ap some (eqb-true j i p)
given-some false o i p = absurd (false≢true p)

out_cases : (i : ℕ) (acc ntc was never : Bool) → cond acc true (cond ntc false was) ≡ true → (acc ≡ true → never ≡ false) → (was ≡ true → never ≡ false) → never ≡ false
out_cases i true ntc was never p f g = f refl
out_cases i false true was never p f g = absurd (false≢true p)
out_cases i false false was never p f g = g p

pub out-left : (s : Setup) (i : ℕ) (log : List Entry) → is_out s i log ≡ true → never_left i log ≡ false
unfolding is_out acceptance
out-left s i [] p = absurd (false≢true p)
out-left s i (e ∷ log) p =
    left-again i e log
    (out_cases i (is_slot (acceptance e log) i) (is_slot (notice s e) i) (is_out s i log) (never_left i log) p
    (λ q. submit-left i log (given-some ((asked e.call).accepted && not (six_or_nine e.answer)) (last_submit log) i q))
    (λ q. out-left s i log q))

-- naming a slot that had left the queue changes no other's having left
still-left : (j : ℕ) (log : List Entry) → never_left j log ≡ false → (k : ℕ) → (not (eqb j k) && never_left k log) ≡ never_left k log
still-left j log p k = step (eqb j k) refl
  where
    step : (b : Bool) → eqb j k ≡ b → (not b && never_left k log) ≡ never_left k log
    step true e = sym (ap (λ (x : ℕ). never_left x log) (sym (eqb-true j k e)) ∙ p)
    step false e = refl

-- the marks of a slot that is at home, set again
home-again : (marks : List Mark) (i : ℕ) → get_or marks i home ≡ home → set marks i home ≡ marks
home-again marks i e = ap (set marks i) (sym e) ∙ set-get_or marks i home

outs-accepted : (marks : List Mark) (i : ℕ) → i < length marks → get_or marks i home ≡ home → outs (set marks i out) ≡ outs marks + 1
unfolding away
outs-accepted marks i h e = omega (arith, outs-set marks i out h, ap away e)

outs-noticed : (marks : List Mark) (i : ℕ) → i < length marks → away (get_or marks i home) ≡ 1 → outs (set marks i home) + 1 ≡ outs marks
unfolding away
outs-noticed marks i h e = omega (arith, outs-set marks i home h)

away-gone : (m : Mark) → away m ≡ 1 → gone m ≡ true
unfolding away gone
away-gone home e = absurd (omega arith)
away-gone out e = refl
away-gone discarded e = refl

module _ {s : Setup} {hand : Hand} {queue : List ℕ} {marks : List Mark} {log : List Entry} (e : Entry) (a : Agrees s hand queue marks log) where
  -- nothing happens to a slot
  pub quiet : Says s e log none none none none false false → Agrees s hand queue marks (e ∷ log)
  unfolding is_slot or_else given
  quiet w =
      record {
        marks-agree = marks-kept a.marks-agree w;
        hand-agrees = hand-kept a.hand-agrees w;
        in_order = order-kept e a.in_order (never-next w) (return-next w);
        conserved = conserved-kept e a.conserved w marks refl;
      }

  -- both flags off, every slot out discarded
  pub stops : Says s e log none none none none false true → Agrees s hand queue (discard_all marks) (e ∷ log)
  unfolding is_slot or_else given
  stops w =
      record {
        marks-agree = marks-stopped a.marks-agree w;
        hand-agrees = hand-kept a.hand-agrees w;
        in_order = order-kept e a.in_order (never-next w) (return-next w);
        conserved = conserved-kept e a.conserved w (discard_all marks) (outs-discarded marks);
      }

  -- the hand's slot j named again, and to be sent
  pub names-again : (j : ℕ) → Says s e log none none (some j) (some j) false false → hand ≡ Hand.Held j → Agrees s (Hand.Sending j) queue marks (e ∷ log)
  unfolding is_slot or_else given holds sends leaves
  names-again j w h =
      record {
        marks-agree = marks-kept a.marks-agree w;
        hand-agrees =
            hand-named a.hand-agrees j w (λ k p q. absurd (false≢true (sym p ∙ sym (held k) ∙ q))) (Hand.Sending j) (λ k. refl)
            (λ k p. ap some (eqb-true j k p));
        in_order = order-kept e a.in_order (λ k. never-next w k ∙ still-left j log left k) (return-next w);
        conserved = conserved-kept e a.conserved w marks refl;
      }
    where
      held : (k : ℕ) → holds hand k ≡ eqb j k
      held k = ap (λ (x : Hand). holds x k) h

      left : never_left j log ≡ false
      left = named-left j log (a.hand-agrees.named-is j (held j ∙ eq-eqb j j refl))

  -- the hand's slot i returned
  pub brings-back : (i : ℕ) → Says s e log none none none none true false → ((k : ℕ) → holds hand k ≡ eqb i k) → times i queue ≡ 0 → get_or marks i home ≡ home → Agrees s Hand.Idle (queue ++ (i ∷ [])) (set marks i home) (e ∷ log)
  unfolding is_slot or_else given leaves
  brings-back i w held none-queued at_home =
      record {
        marks-agree = subst (λ (m : List Mark). MarksAgree s m (e ∷ log)) (sym (home-again marks i at_home)) (marks-kept a.marks-agree w);
        hand-agrees = hand-emptied a.hand-agrees w (λ k p. rw (last, sym (held k)) p);
        in_order = order-back e a.in_order i (named-left i log last) none-queued (never-next w) (λ k. return-next w k ∙ rw last);
        conserved = conserved-kept e a.conserved w (set marks i home) (ap outs (home-again marks i at_home));
      }
    where
      last : last_named log ≡ some i
      last = a.hand-agrees.named-is i (held i ∙ eq-eqb i i refl)

  -- slot i, out, noticed: returned
  pub notices : (i : ℕ) → Says s e log none (some i) none none false false → hand ≡ Hand.Idle → i < length marks → away (get_or marks i home) ≡ 1 → times i queue ≡ 0 → Agrees s Hand.Idle (queue ++ (i ∷ [])) (set marks i home) (e ∷ log)
  unfolding is_slot or_else given holds leaves
  notices i w idle h out_one none-queued =
      record {
        marks-agree = marks-noticed a.marks-agree i w h;
        hand-agrees = hand-emptied a.hand-agrees w (λ k p. absurd (false≢true (sym (ap (λ (x : Hand). holds x k) idle) ∙ p)));
        in_order =
            order-back e a.in_order i
            (out-left s i log (a.marks-agree.out-is i ∙ away-gone (get_or marks i home) out_one))
            none-queued (never-next w) (return-next w);
        conserved = conserved-noticed e a.conserved i w (set marks i home) (outs-noticed marks i h out_one);
      }

  -- the hand's slot i accepted
  pub accepts : (i : ℕ) → Says s e log (some i) none none none false false → ((k : ℕ) → holds hand k ≡ eqb i k) → i < length marks → get_or marks i home ≡ home → Agrees s Hand.Idle queue (set marks i out) (e ∷ log)
  unfolding is_slot or_else given leaves
  accepts i w held h at_home =
      record {
        marks-agree = marks-accepted a.marks-agree i w h;
        hand-agrees = hand-emptied a.hand-agrees w (λ k p. rw (sym (held k) ∙ p));
        in_order = order-kept e a.in_order (never-next w) (return-next w);
        conserved = conserved-accepted e a.conserved i w (set marks i out) (outs-accepted marks i h at_home);
      }

  -- the front slot j taken, with nothing in hand
  pub takes : (j : ℕ) (rest : List ℕ) {sub : Option ℕ} → Says s e log none none (some j) sub false false → hand ≡ Hand.Idle → queue ≡ j ∷ rest → times j queue ≡ 1 → (to : Hand) → ((k : ℕ) → holds to k ≡ eqb j k) → ((k : ℕ) → sends to k ≡ true → sub ≡ some k) → Agrees s to rest marks (e ∷ log)
  unfolding is_slot or_else given leaves holds
  takes j rest w idle q once to held sent =
      record {
        marks-agree = marks-kept a.marks-agree w;
        hand-agrees =
            hand-named a.hand-agrees j w (λ k p r. absurd (false≢true (sym (ap (λ (x : Hand). holds x k) idle) ∙ r))) to held sent;
        in_order = order-took e a.in_order j rest q once (never-next w) (return-next w);
        conserved = conserved-kept e a.conserved w marks refl;
      }

  -- the hand's slot i accepted, and the front slot j taken
  pub accepts-and-takes : (i j : ℕ) (rest : List ℕ) {sub : Option ℕ} → Says s e log (some i) none (some j) sub false false → ((k : ℕ) → holds hand k ≡ eqb i k) → i < length marks → get_or marks i home ≡ home → queue ≡ j ∷ rest → times j queue ≡ 1 → (to : Hand) → ((k : ℕ) → holds to k ≡ eqb j k) → ((k : ℕ) → sends to k ≡ true → sub ≡ some k) → Agrees s to rest (set marks i out) (e ∷ log)
  unfolding is_slot or_else given leaves
  accepts-and-takes i j rest w held h at_home q once to named sent =
      record {
        marks-agree = marks-accepted a.marks-agree i w h;
        hand-agrees = hand-named a.hand-agrees j w (λ k p r. rw (sym (held k) ∙ r)) to named sent;
        in_order = order-took e a.in_order j rest q once (never-next w) (return-next w);
        conserved = conserved-accepted e a.conserved i w (set marks i out) (outs-accepted marks i h at_home);
      }
