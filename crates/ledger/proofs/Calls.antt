-- What a call's return has to show, by what the first tests leave: a record that breaks the list of 8, the record as it was, or a record that stores
-- the rule's ledger. Assumes nothing.
use mathlib.Core.Path.{◌≡◌, refl, sym, ap, ◌∙◌}
use mathlib.Core.Bool.{true, false}
use mathlib.Core.List.{List, [], ◌++◌}
use Prim.Native.Nat.{ℕ}
use native.Mathlib.Omega.{arith}
use lib.ListN.{length, drop}
use Rattle.error.specs.declared.Error.{Error}
use Rattle.ring.specs.declared.Ring.{Ring}
use Rattle.ring.specs.Masks.{masks_of, first_of}
use Rattle.ring.specs.Parts.{queue_of, with_queue, with_masks, with_states, with_out}
use Rattle.ring.proofs.Queue.{queue-kept}
use Rattle.ring.proofs.States.{states-parts}
use Rattle.ring.proofs.Wide.{Wide}
use Rattle.stream.specs.declared.Answer.{Answer}
use Rattle.stream.specs.declared.Reply.{Reply}
use Rattle.stream.specs.declared.Stream.{Stream}
use Rattle.stream.specs.Numbers.{numbers_of}
use Rattle.stream.specs.Parts.{with_state}
use Rattle.stream.specs.Sound.{sound}
use Rattle.stream.proofs.Numbers.{answers-apart}
use Rattle.ledger.specs.Ledger.{Ledger, state_in, outs}
use Rattle.ledger.specs.Step.{Next, refused, put_back}
use Rattle.ledger.specs.Record.{view, ring_for, stored, call}
use Rattle.ledger.specs.Calls.{Call, lent_to, step_of, made}
use Rattle.ledger.specs.Told.{Told}
use Rattle.ledger.specs.Gives.{Gives}
use Rattle.ledger.proofs.View.{facts, stored-view}

module _ (c : Call) (s : Stream) where
  -- what is promised of the answer's numbers is promised of the answer
  pub told-answer : {a : Answer} {after : Stream} {left : List ℕ} → Told c s a after left → a ≡ (made c s).answer
  told-answer t = answers-apart _ _ t.answer

  -- the record breaks refusal 8's list
  pub told-unsound : sound s ≡ false → Told c s (Answer.Refused Error.Unsound) s (lent_to c)
  unfolding made call
  told-unsound e = record { answer = rw e; stream = rw e; lent = rw e }

  -- a sound record: the rule decides
  pub told-gives : sound s ≡ true → (next : Next) → step_of s.setup c (view s) ≡ next → (r : Reply) (left : List ℕ) → Gives s next r left → Told c s r.answer r.stream left
  unfolding made call step_of
  told-gives ok next e r left g =
      record { answer = ap numbers_of g.answer ∙ rw (ok, e); stream = g.stream ∙ rw (ok, e); lent = g.block ∙ rw (ok, e) }

-- nothing differs
pub gives-kept : (s : Stream) → sound s ≡ true → Wide s.ring → (a : Answer) (lent : List ℕ) → Gives s (record { ledger = view s; answer = a; lent = lent }) (record { stream = s; answer = a }) lent
gives-kept s ok wide a lent = record { answer = refl; stream = sym (stored-view s ok wide); block = refl }

-- refused with nothing differing
pub gives-refused : (s : Stream) → sound s ≡ true → Wide s.ring → (e : Error) (lent : List ℕ) (r : Reply) → r ≡ record { stream = s; answer = Answer.Refused e } → Gives s (refused e (view s) lent) r lent
unfolding refused
gives-refused s ok wide e lent r is = rw is (gives-kept s ok wide (Answer.Refused e) lent)

-- a rule that leaves what is lent as it was, made without looking at it
pub gives-lent : (s : Stream) (next : List ℕ → Next) → ((x : List ℕ) → ((next []).answer ≡ (next x).answer) × ((next []).ledger ≡ (next x).ledger) × (x ≡ (next x).lent)) → (r : Reply) → Gives s (next []) r [] → (lent : List ℕ) → Gives s (next lent) r lent
gives-lent s next same r g lent =
    record { answer = g.answer ∙ (same lent).0; stream = g.stream ∙ ap (stored s) (same lent).1; block = (same lent).2 }

-- the hand's slot returned: what is lent is as it was
pub back-lent : (s : Stream) (i : ℕ) (a : Answer) (l : Ledger) (r : Reply) (lent : List ℕ) → Gives s (put_back i a l []) r [] → Gives s (put_back i a l lent) r lent
unfolding put_back
back-lent s i a l r lent g = gives-lent s (put_back i a l) (λ x. (refl, refl, refl)) r g lent

-- opening's values are as they were
pub stored-setup : (s : Stream) (l : Ledger) → (stored s l).setup ≡ s.setup
unfolding stored with_state
stored-setup s l = refl

-- storing twice is storing the second ledger, where the first has the record's own queue
module _ (s : Stream) (ok : sound s ≡ true) (wide : Wide s.ring) (l l' : Ledger) (e : l.queue ≡ queue_of s.ring) where
  n : ℕ
  n = s.setup.slots

  -- the ring after the first
  once : Ring
  once = ring_for n s.ring l

  -- the queue's places are as they were
  places : once.free ≡ s.ring.free
  unfolding once ring_for with_out with_queue
  places =
      (states-parts (state_in l) n _).free ∙
      rw e (ap (λ (r : Ring). r.free) (queue-kept s.ring (omega (arith, (facts s ok wide).short, wide.places))))

  again : ring_for n once l' ≡ ring_for n s.ring l'
  unfolding ring_for with_states with_masks with_queue with_out
  again =
      ap
      (λ (free : List ℕ).
      record {
        states = masks_of (first_of n (state_in l'));
        free = l'.queue ++ drop (length l'.queue) free;
        free_len = length l'.queue;
        in_flight = outs l'.marks;
      })
      places

  pub stored-again : stored (stored s l) l' ≡ stored s l'
  unfolding stored with_state once n
  stored-again =
      ap (λ (r : Ring). with_state s r l'.hand (record { started = l'.started; armed = l'.armed }) l'.totals) again
