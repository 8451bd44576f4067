-- The front slot: what taking finds says what stands in the queue, and the record with the ring after the taking and a hand with that slot
-- shows the ledger after it. Assumes nothing.
use Rattle.std.specs.Prelude.{Some, None}
use mathlib.Core.Path.{◌≡◌, refl, sym, ap, subst, ◌∙◌}
use mathlib.Core.Bool.{true, false≢true}
use mathlib.Core.List.{List, [], ◌∷◌}
use Prim.Native.Nat.{ℕ, ◌<◌}
use native.Mathlib.Omega.{arith}
use lib.Dec.{eqb}
use borrow.Author.Tests.{eqb-true}
use Rattle.ring.specs.declared.Hand.{Hand}
use Rattle.ring.specs.declared.Ring.{Ring}
use Rattle.ring.specs.declared.SlotState.{SlotState}
use Rattle.ring.specs.declared.Taken.{Taken}
use Rattle.ring.specs.Moves.{taken_from, taken}
use Rattle.ring.specs.Parts.{queue_of, with_queue as Ring·with_queue, with_state as Ring·with_state}
use Rattle.ring.specs.Slots.{holds}
use Rattle.ring.proofs.Pigeonhole.{front-free}
use Rattle.ring.proofs.Wide.{Wide}
use Rattle.stream.specs.declared.Answer.{Answer}
use Rattle.stream.specs.declared.Reply.{Reply}
use Rattle.stream.specs.declared.Stream.{Stream}
use Rattle.stream.specs.Parts.{with_state}
use Rattle.stream.specs.Sound.{sound}
use Rattle.ledger.specs.Ledger.{Ledger, with_hand, with_queue}
use Rattle.ledger.specs.Record.{view, stored}
use Rattle.ledger.specs.Turn.{take_front, silence_front}
use Rattle.ledger.proofs.Calls.{gives-lent}
use Rattle.ledger.proofs.Rings.{ring-taken}
use Rattle.ledger.proofs.View.{facts, stored-view}
use Rattle.ledger.specs.Gives.{Gives}
use Rattle.front.specs.Front.{take_silent, after_silence}

-- slot i stood first in the queue, and has left it
record Front (ring : Ring) (t : Taken) (i : ℕ) : Type 0 where
  pub rest : List ℕ
  pub queue : queue_of ring ≡ i ∷ rest
  pub after : t.ring ≡ Ring·with_state (Ring·with_queue ring rest) i SlotState.Filling

-- what taking found, said of the queue
module _ (ring : Ring) (t : Taken) (e : t ≡ taken ring) where
  front_of : (i : ℕ) → t.slot ≡ Some i → Front ring t i
  unfolding taken taken_from
  front_of i found = go (queue_of ring) refl e
    where
      go : (q : List ℕ) → queue_of ring ≡ q → t ≡ taken_from ring q → Front ring t i
      go [] p f = let z : ◌≡◌ {A = ℕ} 0 1 = cc in absurd (omega arith)
      go (j ∷ rest) p f =
          let z : j ≡ i = cc in
          record {
            rest = rest;
            queue = rw (← z) p;
            after =
                ap (λ (x : Taken). x.ring) f ∙
                ap (λ (k : ℕ). Ring·with_state (Ring·with_queue ring rest) k SlotState.Filling) z;
          }

  empty_of : t.slot ≡ None → queue_of ring ≡ []
  unfolding taken taken_from
  empty_of found = go (queue_of ring) refl e
    where
      go : (q : List ℕ) → queue_of ring ≡ q → t ≡ taken_from ring q → queue_of ring ≡ []
      go [] p f = p
      go (j ∷ rest) p f = let z : ◌≡◌ {A = ℕ} 0 1 = cc in absurd (omega arith)

module _ (s : Stream) (ok : sound s ≡ true) (wide : Wide s.ring) (idle : s.hand ≡ Hand.Idle) (t : Taken) (e : t ≡ taken s.ring) where
  -- the record as it was shows the ledger with the hand Idle
  unmoved : s ≡ stored s (with_hand Hand.Idle (view s))
  unfolding with_hand view
  unmoved = rw (← idle) (sym (stored-view s ok wide))

  module _ (found : t.slot ≡ None) (r : Reply) (a : r.answer ≡ Answer.Nothing) (p : r.stream ≡ s) where
    pub took-nothing : Gives s (take_front (view s).queue (view s) []) r []
    unfolding take_front view
    took-nothing =
        subst (λ (q : List ℕ). Gives s (take_front q (view s) []) r []) (sym (empty_of s.ring t e found))
        (record { answer = a; stream = p ∙ unmoved; block = refl })

    pub silent-nothing : (left : ℕ) → Gives s (take_silent left (view s).queue (view s)) r []
    unfolding take_silent take_front view
    silent-nothing left =
        subst (λ (q : List ℕ). Gives s (take_silent left q (view s)) r []) (sym (empty_of s.ring t e found))
        (record { answer = a; stream = p ∙ unmoved; block = refl })

  module _ (i : ℕ) (found : t.slot ≡ Some i) where
    front : Front s.ring t i
    front = front_of s.ring t e i found

    pub slot-below : i < s.setup.slots
    slot-below = (front-free (facts s ok wide) i front.rest front.queue).0

    -- the record with slot i in a hand
    handed : (h : Hand) → ((j : ℕ) → holds h j ≡ eqb i j) → with_state s t.ring h s.flags s.stats ≡ stored s (with_hand h (with_queue front.rest (view s)))
    unfolding stored with_hand with_queue view
    handed h held =
        ap (λ (r : Ring). with_state s r h s.flags s.stats)
        (front.after ∙
        sym (ring-taken s ok wide (with_hand h (with_queue front.rest (view s))) i front.rest front.queue idle refl refl held))

    pub took-slot : (r : Reply) → r.answer ≡ Answer.Slot i → r.stream ≡ with_state s t.ring (Hand.Held i) s.flags s.stats → Gives s (take_front (view s).queue (view s) []) r []
    unfolding take_front view holds
    took-slot r a p =
        subst (λ (q : List ℕ). Gives s (take_front q (view s) []) r []) (sym front.queue)
        (record { answer = a; stream = p ∙ handed (Hand.Held i) (λ j. refl); block = refl })

    pub silent-slot : (left : ℕ) (r : Reply) → r.answer ≡ Answer.Submit i → r.stream ≡ with_state s t.ring (Hand.Silent i left) s.flags s.stats → Gives s (take_silent left (view s).queue (view s)) r []
    unfolding take_silent view holds
    silent-slot left r a p =
        subst (λ (q : List ℕ). Gives s (take_silent left q (view s)) r []) (sym front.queue)
        (record { answer = a; stream = p ∙ handed (Hand.Silent i left) (λ j. refl); block = refl })

-- the slot taken, then silenced
module _ (s : Stream) (ok : sound s ≡ true) (wide : Wide s.ring) (left : ℕ) (r : Reply) (g : Gives s (take_silent left (view s).queue (view s)) r []) where
  hand-after : r.stream.hand ≡ (take_silent left (view s).queue (view s)).ledger.hand
  unfolding stored with_state
  hand-after = ap (λ (x : Stream). x.hand) g.stream

  -- a slot in the new hand is one of the n
  pub silent-below : (i : ℕ) → holds r.stream.hand i ≡ true → i < s.setup.slots
  unfolding view take_silent take_front with_hand holds
  silent-below i held = go (queue_of s.ring) refl (ap (λ (h : Hand). holds h i) (sym hand-after) ∙ held)
    where
      go : (q : List ℕ) → queue_of s.ring ≡ q → holds (take_silent left q (view s)).ledger.hand i ≡ true → i < s.setup.slots
      go [] p h = absurd (false≢true h)
      go (j ∷ rest) p h = let z = eqb-true j i h in rw (← z) (front-free (facts s ok wide) j rest p).0

  pub silenced-front : (block after : List ℕ) → after ≡ after_silence s.setup r.stream.hand block → Gives s (silence_front s.setup left (view s).queue (view s) block) r after
  unfolding take_silent silence_front take_front with_hand after_silence
  silenced-front block after e =
      go (view s).queue g.answer g.stream (e ∙ ap (λ (h : Hand). after_silence s.setup h block) hand-after)
    where
      go : (q : List ℕ) → r.answer ≡ (take_silent left q (view s)).answer → r.stream ≡ stored s (take_silent left q (view s)).ledger
          → after ≡ after_silence s.setup (take_silent left q (view s)).ledger.hand block → Gives s (silence_front s.setup left q (view s) block) r after
      go [] a p b = record { answer = a; stream = p; block = b }
      go (i ∷ rest) a p b = record { answer = a; stream = p; block = b }

-- the taking leaves any block as it was
took-same : (q : List ℕ) (l : Ledger) (x : List ℕ) → ((take_front q l []).answer ≡ (take_front q l x).answer) × ((take_front q l []).ledger ≡ (take_front q l x).ledger) × (x ≡ (take_front q l x).lent)
unfolding take_front
took-same [] l x = (refl, refl, refl)
took-same (i ∷ rest) l x = (refl, refl, refl)

pub take-lent : (s : Stream) (queue : List ℕ) (l : Ledger) (r : Reply) (lent : List ℕ) → Gives s (take_front queue l []) r [] → Gives s (take_front queue l lent) r lent
take-lent s queue l r lent g = gives-lent s (take_front queue l) (took-same queue l) r g lent
