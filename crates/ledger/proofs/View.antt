-- What a sound record shows, and that storing it changes nothing.
-- Assumes nothing.
use mathlib.Core.Path.{◌≡◌, refl, sym, ap, ◌∙◌}
use mathlib.Core.Bool.{Bool, true, false, true≢false, false≢true}
use mathlib.Core.List.{List, [], ◌∷◌, ◌++◌}
use Prim.Native.Nat.{ℕ, zero, suc, ◌+◌, ◌≤◌, ◌<◌}
use native.Mathlib.Omega.{arith}
use native.Mathlib.Decide.{ℕ_discrete, dec_lt}
use lib.ListN.{length}
use Rattle.ring.specs.declared.Ring.{Ring}
use Rattle.ring.specs.declared.SlotState.{SlotState}
use Rattle.ring.specs.Slots.{is_filling, is_out, one, holds}
use Rattle.ring.specs.Counts.{table, how_many}
use Rattle.ring.specs.Parts.{queue_of, state_of, Tabled, with_queue, with_out, with_states, with_state as Ring·with_state}
use Rattle.ring.proofs.Numbers.{table-long, table_at}
use Rattle.ring.proofs.Sound.{Sound, tabled, free-past}
use Rattle.ring.proofs.States.{Parts, state-put, state-other, put-tabled, put-parts, state-queued, state-counted, counted-tabled, state-kept, kept-tabled, states-tabled, states-parts, state-above, state-below, ring-same}
use Rattle.ring.proofs.Queue.{queue-kept}
use Rattle.ring.proofs.Wide.{Wide}
use Rattle.stream.specs.declared.Stream.{Stream}
use Rattle.stream.specs.Parts.{with_state}
use Rattle.stream.specs.Sound.{sound}
use Rattle.stream.proofs.Soundness.{ring-sound}
use Rattle.ledger.specs.Ledger.{Ledger, Mark, home, out, discarded, mark_of, outs, slot_state, state_in}
use Rattle.ledger.specs.Record.{mark_for, view, ring_for, stored}

-- a state is that of its mark, where the hand holds the slot exactly when it is Filling
pub restored : (state : SlotState) (held : Bool) → is_filling state ≡ held → slot_state held (mark_for state) ≡ state
unfolding slot_state mark_for is_filling
restored SlotState.Free true e = absurd (false≢true e)
restored SlotState.Free false e = refl
restored SlotState.Filling true e = refl
restored SlotState.Filling false e = absurd (true≢false e)
restored SlotState.InFlight true e = absurd (false≢true e)
restored SlotState.InFlight false e = refl
restored SlotState.Discarding true e = absurd (false≢true e)
restored SlotState.Discarding false e = refl

pub outs-append : (a b : List Mark) → outs (a ++ b) ≡ outs a + outs b
unfolding outs
outs-append [] b = omega arith
outs-append (home ∷ a) b = outs-append a b
outs-append (out ∷ a) b = omega (arith, outs-append a b)
outs-append (discarded ∷ a) b = omega (arith, outs-append a b)

-- a state's part in the out count
one_out : (state : SlotState) → outs (mark_for state ∷ []) ≡ one (is_out state)
unfolding outs mark_for one is_out
one_out SlotState.Free = refl
one_out SlotState.Filling = refl
one_out SlotState.InFlight = refl
one_out SlotState.Discarding = refl

-- how many of n slots are out
pub outs-counted : (state : ℕ → SlotState) (n : ℕ) → outs (table (λ i. mark_for (state i)) n) ≡ how_many n (λ i. is_out (state i))
unfolding how_many outs table
outs-counted state zero = refl
outs-counted state (suc n) =
    outs-append (table (λ i. mark_for (state i)) n) (mark_for (state n) ∷ []) ∙ omega (arith, outs-counted state n, one_out (state n))

module _ (s : Stream) (ok : sound s ≡ true) (wide : Wide s.ring) where
  pub facts : Sound s.setup.slots s.ring s.hand
  facts = ring-sound s ok

  pub view-marks-long : length (view s).marks ≡ s.setup.slots
  unfolding view
  view-marks-long = table-long (λ i. mark_for (state_of s.ring i)) s.setup.slots

  pub view-mark : (i : ℕ) → i < s.setup.slots → mark_of (view s) i ≡ mark_for (state_of s.ring i)
  unfolding view mark_of
  view-mark i h = table_at (λ j. mark_for (state_of s.ring j)) home s.setup.slots i h

  pub view-state : (i : ℕ) → i < s.setup.slots → state_in (view s) i ≡ state_of s.ring i
  unfolding state_in view
  view-state i h =
      ap (slot_state (holds s.hand i)) (view-mark i h) ∙ restored (state_of s.ring i) (holds s.hand i) (facts.held i h)

  pub view-outs : outs (view s).marks ≡ s.ring.in_flight
  unfolding view
  view-outs = outs-counted (state_of s.ring) s.setup.slots ∙ sym facts.out

  -- its masks are those of its states, and no slot at n or above is in one
  pub own-tabled : Tabled s.ring
  own-tabled = tabled facts wide

  above-free : (j : ℕ) → s.setup.slots ≤ j → state_of s.ring j ≡ SlotState.Free
  above-free = free-past facts

  -- the ring that shows a ledger is any ring with its queue and out count, its states below n, and no other slot in a mask
  pub ring-shows : (l : Ledger) (r : Ring) → Tabled r → ((j : ℕ) → j < s.setup.slots → state_of r j ≡ state_in l j) → ((j : ℕ) → s.setup.slots ≤ j → state_of r j ≡ SlotState.Free) → Parts r (with_out (with_queue s.ring l.queue) (outs l.marks)) → ring_for s.setup.slots s.ring l ≡ r
  unfolding ring_for
  ring-shows l r t below above parts =
      ring-same _ r (states-tabled (state_in l) n base) t (λ j. at j (dec_lt j n))
      (record { free = same.free ∙ sym parts.free; len = same.len ∙ sym parts.len; out = same.out ∙ sym parts.out })
    where
      n : ℕ
      n = s.setup.slots

      base : Ring
      base = with_out (with_queue s.ring l.queue) (outs l.marks)

      same : Parts (with_states n (state_in l) base) base
      same = states-parts (state_in l) n base

      at : (j : ℕ) → Dec (j < n) → state_of (with_states n (state_in l) base) j ≡ state_of r j
      at j (yes p) = state-below (state_in l) n base facts.few j p ∙ sym (below j p)
      at j (no p) = let q : n ≤ j = omega arith in state-above (state_in l) n base j q ∙ sym (above j q)

  -- a ledger in which only slot i is in another state
  pub one-changed : (l : Ledger) (i : ℕ) → i < s.setup.slots → ((j : ℕ) → j < s.setup.slots → (j ≡ i → ⊥) → state_in l j ≡ state_of s.ring j) → ring_for s.setup.slots s.ring l ≡ with_out (Ring·with_state (with_queue s.ring l.queue) i (state_in l i)) (outs l.marks)
  unfolding with_out with_queue
  one-changed l i h others =
      ring-shows l (with_out put count) (counted-tabled put count (put-tabled base i (state_in l i))) (λ j p. below j p (ℕ_discrete j i)) above
      (record { free = parts.free; len = parts.len; out = refl })
    where
      base : Ring
      base = with_queue s.ring l.queue

      put : Ring
      put = Ring·with_state base i (state_in l i)

      count : ℕ
      count = outs l.marks

      parts : Parts put base
      parts = put-parts base i (state_in l i)

      below : (j : ℕ) → j < s.setup.slots → Dec (j ≡ i) → state_of (with_out put count) j ≡ state_in l j
      below j p (yes e) =
          state-counted put count j ∙ rw e (state-put base i (state_in l i) (omega (arith, facts.few)))
      below j p (no e) =
          state-counted put count j ∙ state-other base i (state_in l i) j e ∙ state-queued s.ring l.queue j ∙ sym (others j p e)

      above : (j : ℕ) → s.setup.slots ≤ j → state_of (with_out put count) j ≡ SlotState.Free
      above j p =
          state-counted put count j
          ∙ state-other base i (state_in l i) j (λ e. omega arith)
          ∙ state-queued s.ring l.queue j
          ∙ above-free j p

  -- a ledger in which every slot is in the same state
  pub none-changed : (l : Ledger) → ((j : ℕ) → j < s.setup.slots → state_in l j ≡ state_of s.ring j) → ring_for s.setup.slots s.ring l ≡ with_out (with_queue s.ring l.queue) (outs l.marks)
  none-changed l same =
      ring-shows l _ (kept-tabled s.ring l.queue (outs l.marks) own-tabled) (λ j h. kept j ∙ sym (same j h)) (λ j h. kept j ∙ above-free j h)
      (record { free = refl; len = refl; out = refl })
    where
      kept : (j : ℕ) → state_of (with_out (with_queue s.ring l.queue) (outs l.marks)) j ≡ state_of s.ring j
      kept = state-kept s.ring l.queue (outs l.marks)

  -- storing what a sound record shows changes nothing
  pub stored-view : stored s (view s) ≡ s
  unfolding stored with_state view with_out
  stored-view =
      ap (λ (r : Ring). with_state s r s.hand s.flags s.stats)
      (none-changed (view s) view-state ∙
      ap (with_out (with_queue s.ring (queue_of s.ring))) view-outs ∙
      ap (λ (r : Ring). with_out r s.ring.in_flight) (queue-kept s.ring (omega (arith, facts.short, wide.places))) ∙
      out-kept)
    where
      out-kept : with_out s.ring s.ring.in_flight ≡ s.ring
      out-kept = refl
