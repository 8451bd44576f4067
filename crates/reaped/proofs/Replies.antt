-- What each end of reaped shows: the rule by the slot's mark, by what the address names and by the kernel's reply. Where nothing differs, storing what
-- the record shows gives the record. Assumes nothing.
use Rattle.std.specs.Prelude.{Option, None, Result}
use Rattle.std.proofs.Common.{◌≡◌, ℕ, Bool, true, false, cond, List, [], sym, refl, ap, ◌∙◌, subst}
use Rattle.error.specs.declared.Error.{Error}
use Rattle.ring.proofs.Wide.{Wide}
use Rattle.stream.specs.declared.Answer.{Answer}
use Rattle.stream.specs.declared.Completion.{Completion}
use Rattle.stream.specs.declared.Reply.{Reply}
use Rattle.stream.specs.declared.Stream.{Stream}
use Rattle.stream.specs.Sound.{sound}
use Rattle.ledger.specs.Gives.{Gives}
use Rattle.ledger.specs.Ledger.{Mark, home, out, discarded, with_totals, with_queue, with_marks, marked, mark_of, returned}
use Rattle.ledger.specs.Notice.{completion_of}
use Rattle.ledger.specs.Reaped.{noticed, by_address, by_errno, reaped_idle}
use Rattle.ledger.specs.Record.{view, stored}
use Rattle.ledger.proofs.Calls.{gives-kept, gives-refused, gives-lent}
use Rattle.reaped.specs.Completed.{totals_after, answer_for}

-- a notice of slot i that was out, discarded or not
pub notice-back : (s : Stream) (i : ℕ) (block : List ℕ) (b : Bool) (c : Completion) → c ≡ completion_of s.setup i b block → (r : Reply) → r.answer ≡ answer_for c → r.stream ≡ stored s (with_totals (totals_after c s.stats) (returned i (view s))) → Gives s (noticed s.setup (cond b discarded out) i (view s) block) r block
unfolding noticed answer_for totals_after completion_of with_totals returned with_queue marked with_marks view
notice-back s i block true c e r a p =
    record {
      answer = a ∙ ap answer_for e;
      stream = p ∙ ap (λ (x : Completion). stored s (with_totals (totals_after x s.stats) (returned i (view s)))) e;
      block = refl;
    }
notice-back s i block false c e r a p =
    record {
      answer = a ∙ ap answer_for e;
      stream = p ∙ ap (λ (x : Completion). stored s (with_totals (totals_after x s.stats) (returned i (view s)))) e;
      block = refl;
    }

-- by the slot's mark
pub by-mark : (s : Stream) (i : ℕ) (block : List ℕ) (m : Mark) → mark_of (view s) i ≡ m → (r : Reply) → Gives s (noticed s.setup m i (view s) block) r block → Gives s (noticed s.setup (mark_of (view s) i) i (view s) block) r block
by-mark s i block m e r g = subst (λ (x : Mark). Gives s (noticed s.setup x i (view s) block) r block) (sym e) g

-- by what the address names
pub by-found : (s : Stream) (block : List ℕ) (f g : Option ℕ) → f ≡ g → (r : Reply) → Gives s (by_address s.setup g (view s) block) r block → Gives s (by_address s.setup f (view s) block) r block
by-found s block f g e r p = subst (λ (x : Option ℕ). Gives s (by_address s.setup x (view s) block) r block) (sym e) p

-- by the reply
pub by-reply : (s : Stream) (block : List ℕ) (reply told : Result ℕ ℕ) → reply ≡ told → (r : Reply) → Gives s (reaped_idle told s.setup (view s) block) r block → Gives s (reaped_idle reply s.setup (view s) block) r block
by-reply s block reply told e r g = subst (λ (x : Result ℕ ℕ). Gives s (reaped_idle x s.setup (view s) block) r block) (sym e) g

-- an errno leaves any block as it was
pub errno-lent : (s : Stream) (e : ℕ) (r : Reply) (block : List ℕ) → Gives s (by_errno e (view s) []) r [] → Gives s (by_errno e (view s) block) r block
unfolding by_errno
errno-lent s e r block g = gives-lent s (by_errno e (view s)) (λ x. (refl, refl, refl)) r g block

module _ (s : Stream) (ok : sound s ≡ true) (wide : Wide s.ring) where
  pub errno-told : (e : ℕ) (a : Answer) → a ≡ (by_errno e (view s) []).answer → Gives s (by_errno e (view s) []) (record { stream = s; answer = a }) []
  unfolding by_errno
  errno-told e a p =
      let g = gives-kept s ok wide a [] in
      record { answer = p; stream = g.stream; block = refl }

  -- 18 for a slot at home
  pub notice-stray : (i : ℕ) (block : List ℕ) (r : Reply) → r ≡ record { stream = s; answer = Answer.Refused Error.StrayNotice } → Gives s (noticed s.setup home i (view s) block) r block
  unfolding noticed
  notice-stray i block r is = gives-refused s ok wide Error.StrayNotice block r is

  pub named_none : (block : List ℕ) → Gives s (by_address s.setup None (view s) block) (record { stream = s; answer = Answer.Foreign }) block
  unfolding by_address
  named_none block = gives-kept s ok wide Answer.Foreign block
