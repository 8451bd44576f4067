-- stop past its gate: how many slots the InFlight mask has decides whether the list is long enough, and the record with these discarded and both
-- flags off shows the ledger after stop, since each slot's state is that of its mark. Assumes nothing.
use Prim.Native.Nat.{ℕ, zero, suc, ◌≤◌, ◌<◌}
use mathlib.Core.Path.{◌≡◌, refl, sym, ap, ◌∙◌}
use mathlib.Core.Bool.{Bool, true, false}
use mathlib.Core.List.{List, [], ◌∷◌, ◌++◌}
use native.Mathlib.Decide.{dec_lt}
use native.Mathlib.Omega.{arith}
use lib.ListN.{length, get_or, take, drop}
use lib.Seq.{take-append_seam}
use borrow.Author.Tests.{lt-ltb, le-ltb}
use Rattle.error.specs.declared.Error.{Error}
use Rattle.mask.specs.declared.list.MaskList.{MaskList}
use Rattle.mask.specs.Bits.{places}
use Rattle.mask.specs.Masks.{member, list_of}
use Rattle.mask.proofs.Masks.{places-length}
use Rattle.ring.specs.declared.Ring.{Ring}
use Rattle.ring.specs.Masks.{stopped}
use Rattle.ring.specs.Moves.{discarded as Ring·discarded}
use Rattle.ring.specs.Parts.{queue_of, state_of, with_queue, with_masks, with_out}
use Rattle.ring.specs.Slots.{holds}
use Rattle.ring.proofs.Queue.{queue-kept}
use Rattle.ring.proofs.Sound.{free-past}
use Rattle.ring.proofs.States.{state-given, given-tabled, past}
use Rattle.ring.proofs.Wide.{Wide}
use Rattle.stream.specs.declared.Answer.{Answer}
use Rattle.stream.specs.declared.Reply.{Reply}
use Rattle.stream.specs.declared.Stream.{Stream}
use Rattle.stream.specs.Parts.{with_state}
use Rattle.stream.specs.Sound.{sound}
use Rattle.ledger.specs.Ledger.{Ledger, Mark, home, out, discarded, with_flags, with_marks, mark_of, slot_state, state_in}
use Rattle.ledger.specs.Control.{discard_all, in_flight_from, stop_idle}
use Rattle.ledger.specs.Gives.{Gives}
use Rattle.ledger.specs.Record.{view, ring_for, stored}
use Rattle.ledger.proofs.Calls.{gives-refused}
use Rattle.ledger.proofs.KeptControl.{outs-discarded}
use Rattle.ledger.proofs.View.{facts, view-state, view-outs, ring-shows}
use Rattle.control.proofs.InFlight.{mask-lists}

-- a slot's state after stop is that of its mark after stop
mark-stopped : (held : Bool) (ms : List Mark) (i : ℕ) → stopped (slot_state held (get_or ms i home)) ≡ slot_state held (get_or (discard_all ms) i home)
unfolding stopped slot_state discard_all
mark-stopped true ms i = refl
mark-stopped false [] i = refl
mark-stopped false (home ∷ ms) zero = refl
mark-stopped false (out ∷ ms) zero = refl
mark-stopped false (discarded ∷ ms) zero = refl
mark-stopped false (home ∷ ms) (suc i) = mark-stopped false ms i
mark-stopped false (out ∷ ms) (suc i) = mark-stopped false ms i
mark-stopped false (discarded ∷ ms) (suc i) = mark-stopped false ms i

-- every slot's state after stop
state-stopped : (ring : Ring) (i : ℕ) → state_of (Ring·discarded ring) i ≡ stopped (state_of ring i)
unfolding Ring·discarded stopped
state-stopped ring i = go (dec_lt i 256)
  where
    go : Dec (i < 256) → state_of (Ring·discarded ring) i ≡ stopped (state_of ring i)
    go (yes h) = state-given ring (λ j. stopped (state_of ring j)) i h
    go (no h) = past (Ring·discarded ring) i (omega arith) ∙ sym (ap stopped (past ring i (omega arith)))

-- the ledger after stop
after : Stream → Ledger
after s = with_flags false false (with_marks (discard_all (view s).marks) (view s))

-- a mask's list has no more numbers than places
pub count_fits : (f : ℕ → Bool) (t : MaskList) → t ≡ list_of (places 0 256 f) → t.count ≤ 256
unfolding list_of
count_fits f t is = rw is (places-length 0 256 f)

module _ (s : Stream) (ok : sound s ≡ true) (wide : Wide s.ring) where
  -- the ring with its InFlight slots discarded shows the ledger after stop
  ring-stopped : ring_for s.setup.slots s.ring (after s) ≡ Ring·discarded s.ring
  unfolding after with_flags with_marks view state_in mark_of with_out stopped Ring·discarded with_masks
  ring-stopped =
      ring-shows s ok wide (after s) (Ring·discarded s.ring) (given-tabled s.ring (λ j. stopped (state_of s.ring j)))
      (λ j h. state-stopped s.ring j ∙ ap stopped (sym (view-state s ok wide j h)) ∙ mark-stopped (holds s.hand j) (view s).marks j)
      (λ j h. state-stopped s.ring j ∙ ap stopped (free-past (facts s ok wide) j h))
      (record {
        free = sym (ap (λ (r : Ring). r.free) kept);
        len = sym (ap (λ (r : Ring). r.free_len) kept);
        out = sym (outs-discarded (view s).marks ∙ view-outs s ok wide);
      })
    where
      kept : with_queue s.ring (queue_of s.ring) ≡ s.ring
      kept = queue-kept s.ring (omega (arith, (facts s ok wide).short, wide.places))

  -- t is the list of the InFlight mask
  module _ (t : MaskList) (is : t ≡ list_of (places 0 256 (member s.ring.states.in_flight))) where
    -- its count is the ledger's, and so are its numbers
    counted : t.count ≡ length (in_flight_from 0 (view s).marks)
    unfolding list_of
    counted = ap (λ (l : MaskList). l.count) is ∙ ap length (mask-lists s ok wide)

    listed : take t.count t.places ≡ in_flight_from 0 (view s).marks
    unfolding list_of
    listed = rw is (take-append_seam _ _) ∙ mask-lists s ok wide

    pub numbered : length (take t.count t.places) ≡ t.count
    numbered = ap length listed ∙ sym counted

    module _ (list : List ℕ) where
      -- a list with fewer places
      pub too_short :
          length list < t.count →
          (r : Reply) → r ≡ record { stream = s; answer = Answer.Refused Error.ListTooShort } →
          Gives s (stop_idle s.setup (view s) list) r list
      unfolding stop_idle
      too_short h r e = rw (← counted, lt-ltb (length list) t.count h) (gives-refused s ok wide Error.ListTooShort list r e)

      -- one that is long enough
      pub all-stopped :
          t.count ≤ length list →
          (ring : Ring) → ring ≡ Ring·discarded s.ring →
          (lent : List ℕ) → lent ≡ take t.count t.places ++ drop (length (take t.count t.places)) list →
          Gives s (stop_idle s.setup (view s) list)
          (record {
            stream = with_state s ring s.hand (record { started = false; armed = false }) s.stats;
            answer = Answer.Stopped t.count;
          }) lent
      unfolding stop_idle view stored after with_flags with_marks
      all-stopped h ring d lent f =
          rw (← counted, le-ltb (length list) t.count h, ← listed)
          (record {
            answer = refl;
            stream = ap (λ (r : Ring). with_state s r s.hand (record { started = false; armed = false }) s.stats) (d ∙ sym ring-stopped);
            block = f ∙ ap (λ (n : ℕ). take t.count t.places ++ drop n list) numbered;
          })
