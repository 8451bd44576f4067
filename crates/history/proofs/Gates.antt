-- What every call shares: refusals 6 and 9, the tests of the hand, taking the front slot, and the hand's slot returned or sent.
-- Assumes nothing.
use mathlib.Core.Path.{◌≡◌, refl, ap, subst, ◌∙◌}
use mathlib.Core.Bool.{Bool, true, false, cond, false≢true}
use mathlib.Core.List.{List, [], ◌∷◌}
use mathlib.Core.Option.{none, some}
use Prim.Native.Nat.{ℕ, ◌<◌}
use native.Mathlib.Omega.{arith}
use lib.Dec.{ltb, eqb}
use lib.ListN.{length}
use borrow.Author.Tests.{eq-eqb, eqb-true, ltb-true}
use Rattle.error.specs.declared.Error.{Error}
use Rattle.layout.specs.declared.Setup.{Setup}
use Rattle.layout.specs.declared.Underrun.{Underrun}
use Rattle.layout.specs.Opening.{total_of}
use Rattle.ring.specs.declared.Hand.{Hand}
use Rattle.ring.specs.Counts.{times, all_below}
use Rattle.ring.specs.Slots.{is_free, one, holds}
use Rattle.ring.proofs.Truth.{first, one_at_most}
use Rattle.stream.specs.declared.Answer.{Answer}
use Rattle.stream.specs.declared.IsoStats.{IsoStats}
use Rattle.ledger.specs.Ledger.{Ledger, with_hand, with_queue, with_marks, marked, mark_of, returned, state_in}
use Rattle.ledger.specs.Step.{Next, Rule, refused, on_block, by_idle, when_idle, by_held, when_held, put_back}
use Rattle.ledger.specs.Turn.{take_front, silence_front, on_underrun}
use Rattle.ledger.specs.Commit.{send}
use Rattle.ledger.specs.Calls.{Call}
use Rattle.ledger.proofs.Valid.{Valid}
use Rattle.ledger.proofs.Moves.{held-not-free, times-here}
use Rattle.history.specs.Words.{Entry, said, asked, nothing_asked, six_or_nine}
use Rattle.history.proofs.Entries.{Says}
use Rattle.history.proofs.Hands.{sends}
use Rattle.history.proofs.Totals.{Moves, still}
use Rattle.history.proofs.Answers.{committed_back, says_plain, says-shut}
use Rattle.history.proofs.Effects.{Agrees, quiet, names-again, brings-back, takes}

-- After a call that gave x, from a ledger with totals t: the words agree, the counters moved by the call's figures, underruns are t's.
pub record After (s : Setup) (c : Call) (log : List Entry) (t : IsoStats) (x : Next) : Type 0 where
  pub agrees : Agrees s x.ledger.hand x.ledger.queue x.ledger.marks (record { call = c; answer = x.answer } ∷ log)
  pub moves : Moves s t x.ledger.totals (record { call = c; answer = x.answer }) log
  pub underruns-kept : x.ledger.totals.underruns ≡ t.underruns

pub pick : (s : Setup) (c : Call) (log : List Entry) (t : IsoStats) (b : Bool) (x y : Next) → After s c log t x → After s c log t y → After s c log t (cond b x y)
pick s c log t true x y p q = p
pick s c log t false x y p q = q

pub says_nothing : (s : Setup) (c : Call) (log : List Entry) → asked c ≡ nothing_asked → Says s (record { call = c; answer = Answer.Nothing }) log none none none none false false
unfolding said committed_back
says_nothing s c log p = says_plain s c Answer.Nothing log p

pub says-refusal : (s : Setup) (c : Call) (e : Error) (log : List Entry) → asked c ≡ nothing_asked → committed_back (Answer.Refused e) ≡ false → Says s (record { call = c; answer = Answer.Refused e }) log none none none none false false
unfolding said
says-refusal s c e log p q =
    subst (λ (b : Bool). Says s (record { call = c; answer = Answer.Refused e }) log none none none none b false) q (says_plain s c (Answer.Refused e) log p)

module _ (s : Setup) (l : Ledger) (v : Valid s.slots l) (log : List Entry) (a : Agrees s l.hand l.queue l.marks log) where
  -- what a valid ledger says of the hand's slot, of the front slot and of a slot that is out
  pub once : (j : ℕ) (rest : List ℕ) → l.queue ≡ j ∷ rest → times j l.queue ≡ 1
  unfolding all_below
  once j rest q =
      let below : j < s.slots = ltb-true j s.slots (first (ltb j s.slots) (all_below s.slots rest) (rw q at v.below)) in
      omega (arith, v.queued j below, one_at_most (is_free (state_in l j)), ap (times j) q, times-here j rest)

  pub hand-away : (i : ℕ) → i < s.slots → holds l.hand i ≡ true → times i l.queue ≡ 0
  unfolding one
  hand-away i h p = v.queued i h ∙ ap one (held-not-free l i p)

  -- nothing differs
  pub at_rest : (c : Call) (answer : Answer) (lent : List ℕ) → Says s (record { call = c; answer = answer }) log none none none none false false → After s c log l.totals (record { ledger = l; answer = answer; lent = lent })
  at_rest c answer lent w = record { agrees = quiet _ a w; moves = still w l.totals; underruns-kept = refl }

  -- 6 and 9
  pub at-6 : (c : Call) (lent : List ℕ) → After s c log l.totals (refused Error.BlockLength l lent)
  unfolding refused six_or_nine said committed_back
  at-6 c lent = at_rest c (Answer.Refused Error.BlockLength) lent (says-shut s c Error.BlockLength log refl refl refl)

  pub at_9 : (c : Call) (lent : List ℕ) → After s c log l.totals (refused Error.WrongHand l lent)
  unfolding refused six_or_nine said committed_back
  at_9 c lent = at_rest c (Answer.Refused Error.WrongHand) lent (says-shut s c Error.WrongHand log refl refl refl)

  pub on-block : (c : Call) (rule : Rule) (block : List ℕ) → After s c log l.totals (rule s l block) → After s c log l.totals (on_block rule s l block)
  unfolding on_block
  on-block c rule block p = pick s c log l.totals (eqb (length block) (total_of s)) (rule s l block) _ p (at-6 c block)

  pub on-idle : (c : Call) (rule : Rule) (lent : List ℕ) → (l.hand ≡ Hand.Idle → After s c log l.totals (rule s l lent)) → After s c log l.totals (when_idle rule s l lent)
  unfolding when_idle by_idle
  on-idle c rule lent p = by l.hand refl
    where
      by : (h : Hand) → l.hand ≡ h → After s c log l.totals (by_idle h (rule s l lent) (refused Error.WrongHand l lent))
      by Hand.Idle e = p e
      by (Hand.Held i) e = at_9 c lent
      by (Hand.Sending i) e = at_9 c lent
      by (Hand.Silent i left) e = at_9 c lent

  pub on-held : (c : Call) (rule : ℕ → Rule) (lent : List ℕ) → ((i : ℕ) → l.hand ≡ Hand.Held i → After s c log l.totals (rule i s l lent)) → After s c log l.totals (when_held rule s l lent)
  unfolding when_held by_held
  on-held c rule lent p = by l.hand refl
    where
      by : (h : Hand) → l.hand ≡ h → After s c log l.totals (by_held h (λ i. rule i s l lent) (refused Error.WrongHand l lent))
      by Hand.Idle e = at_9 c lent
      by (Hand.Held i) e = p i e
      by (Hand.Sending i) e = at_9 c lent
      by (Hand.Silent i left) e = at_9 c lent

  -- turn's taking and silencing
  module _ (c : Call) (plain : asked c ≡ nothing_asked) (idle : l.hand ≡ Hand.Idle) where
    at-nothing : (block : List ℕ) → After s c log l.totals (take_front [] l block)
    unfolding take_front with_hand said committed_back
    at-nothing block =
        record {
          agrees = subst (λ (h : Hand). Agrees s h l.queue l.marks (record { call = c; answer = Answer.Nothing } ∷ log)) idle
              (quiet _ a (says_plain s c Answer.Nothing log plain));
          moves = still (says_plain s c Answer.Nothing log plain) l.totals;
          underruns-kept = refl;
        }

    pub at_take : (q : List ℕ) → l.queue ≡ q → (block : List ℕ) → After s c log l.totals (take_front q l block)
    unfolding take_front with_hand with_queue said committed_back holds sends
    at_take [] p block = at-nothing block
    at_take (i ∷ rest) p block =
        record {
          agrees = takes _ a i rest (says_plain s c (Answer.Slot i) log plain) idle p (once i rest p) (Hand.Held i) (λ k. refl)
              (λ k x. absurd (false≢true x));
          moves = still (says_plain s c (Answer.Slot i) log plain) l.totals;
          underruns-kept = refl;
        }

    at-silence : (left : ℕ) (q : List ℕ) → l.queue ≡ q → (block : List ℕ) → After s c log l.totals (silence_front s left q l block)
    unfolding silence_front with_hand with_queue said committed_back holds sends
    at-silence left [] p block = at-nothing block
    at-silence left (i ∷ rest) p block =
        record {
          agrees = takes _ a i rest (says_plain s c (Answer.Submit i) log plain) idle p (once i rest p) (Hand.Silent i left) (λ k. refl)
              (λ k x. ap some (eqb-true i k x));
          moves = still (says_plain s c (Answer.Submit i) log plain) l.totals;
          underruns-kept = refl;
        }

    pub at-policy : (u : Underrun) (block : List ℕ) → After s c log l.totals (on_underrun u s l block)
    unfolding on_underrun refused said committed_back
    at-policy Underrun.Continue block = at_take l.queue refl block
    at-policy Underrun.FillSilence block = at-silence 1 l.queue refl block
    at-policy Underrun.Error block =
        let answer = Answer.Refused (Error.Underrun l.totals.underruns) in
        at_rest c answer block (says_plain s c answer log plain)

  -- the hand's slot returned
  pub at_back : (i : ℕ) → i < s.slots → ((k : ℕ) → holds l.hand k ≡ eqb i k) → (c : Call) (answer : Answer) (lent : List ℕ) → Says s (record { call = c; answer = answer }) log none none none none true false → After s c log l.totals (put_back i answer l lent)
  unfolding put_back with_hand returned with_queue marked with_marks mark_of
  at_back i h held c answer lent w =
      let p : holds l.hand i ≡ true = held i ∙ eq-eqb i i refl in
      record { agrees = brings-back _ a i w held (hand-away i h p) (v.at_home i h p); moves = still w l.totals; underruns-kept = refl }

  pub at-send : (i : ℕ) → l.hand ≡ Hand.Held i → (c : Call) → asked c ≡ nothing_asked → (lengths block : List ℕ) → After s c log l.totals (send s i lengths l block)
  unfolding send with_hand said committed_back
  at-send i e c plain lengths block =
      let w = says_plain s c (Answer.Submit i) log plain in
      record { agrees = names-again _ a i w e; moves = still w l.totals; underruns-kept = refl }

  pub held-only : (i : ℕ) → l.hand ≡ Hand.Held i → (k : ℕ) → holds l.hand k ≡ eqb i k
  unfolding holds
  held-only i e k = rw e
