-- A sound record shows what its own ledger has, a record that stores a valid ledger shows that ledger, and a ring with a valid ledger's queue and
-- states is the one that shows it: each state is that of its mark and the hand. Assumes nothing.
use Prim.Native.Nat.{ℕ, ◌≤◌, ◌<◌}
use native.Mathlib.Decide.{dec_lt}
use native.Mathlib.Omega.{arith}
use mathlib.Core.Path.{◌≡◌, sym, ap, ap₂, ◌∙◌}
use mathlib.Core.Bool.{true}
use Rattle.layout.specs.Opening.{admissible}
use Rattle.ring.specs.declared.Ring.{Ring}
use Rattle.ring.specs.declared.SlotState.{SlotState}
use Rattle.ring.specs.Counts.{how_many}
use Rattle.ring.specs.Parts.{queue_of, state_of, Tabled, with_queue, with_out}
use Rattle.ring.specs.Slots.{is_out}
use Rattle.ring.proofs.Counts.{count_same}
use Rattle.ring.proofs.Numbers.{table_same}
use Rattle.ring.proofs.Queue.{queue-kept}
use Rattle.ring.proofs.States.{Parts, states-tabled, states-parts, state-above, ring-same}
use Rattle.ring.proofs.Wide.{Wide}
use Rattle.stream.specs.declared.Stream.{Stream}
use Rattle.stream.specs.Sound.{sound}
use Rattle.ledger.specs.Ledger.{Ledger, outs, state_in}
use Rattle.ledger.specs.Record.{view, ring_for, stored}
use Rattle.ledger.specs.Shown.{shown_by, shown_in}
use Rattle.ledger.proofs.View.{view-state, view-outs}
use Rattle.ledger.proofs.Valid.{Valid, shown-state, shown-outs, stored-sound, stored-wide, view-stored}
use Rattle.ledger.proofs.Calls.{stored-setup}

-- a sound record shows what its own ledger has
pub view-shown : (r : Stream) → sound r ≡ true → Wide r.ring → shown_by r ≡ shown_in r.setup (view r)
unfolding shown_by shown_in view
view-shown r ok wide =
    λ i.
    record {
      states = table_same (state_of r.ring) (state_in (view r)) r.setup.slots (λ j h. sym (view-state r ok wide j h)) i;
      queue = queue_of r.ring;
      out_count = sym (view-outs r ok wide) i;
      hand = r.hand;
      started = r.flags.started;
      armed = r.flags.armed;
      counters = r.stats;
    }

-- a record that stores a valid ledger
module _ (s : Stream) (l : Ledger) (v : Valid s.setup.slots l) (ok : admissible s.setup ≡ true) (wide : Wide s.ring) where
  pub stored-shown : shown_by (stored s l) ≡ shown_in s.setup l
  stored-shown =
      view-shown (stored s l) (stored-sound s l v ok wide) (stored-wide s l v ok wide)
      ∙ ap₂ shown_in (stored-setup s l) (view-stored s l v ok wide)

-- a ring with a valid ledger's queue and states and the true out count
module _ (l : Ledger) (n : ℕ) (v : Valid n l) (r : Ring) (wide : Wide r) where
  pub ring-stores : Tabled r → ((i : ℕ) → n ≤ i → state_of r i ≡ SlotState.Free) → r.free_len ≤ 256 → queue_of r ≡ l.queue → ((i : ℕ) → i < n → state_of r i ≡ state_in l i) → r.in_flight ≡ how_many n (λ i. is_out (state_of r i)) → ring_for n r l ≡ r
  unfolding ring_for with_out
  ring-stores tabled above short queue states out =
      ring-same (ring_for n r l) r (states-tabled (state_in l) n (with_out (with_queue r l.queue) (outs l.marks))) tabled (λ i. at i (dec_lt i n))
      (record {
        free = parts.free ∙ ap (λ (x : Ring). x.free) kept;
        len = parts.len ∙ ap (λ (x : Ring). x.free_len) kept;
        out = shown-outs l n v r wide ∙ count_same _ _ n (λ i h. ap is_out (shown-state l n v r wide i h ∙ sym (states i h))) ∙ sym out;
      })
    where
      parts : Parts (ring_for n r l) (with_out (with_queue r l.queue) (outs l.marks))
      parts = states-parts (state_in l) n (with_out (with_queue r l.queue) (outs l.marks))

      kept : with_queue r l.queue ≡ r
      kept = ap (with_queue r) (sym queue) ∙ queue-kept r (omega (arith, wide.places))

      at : (i : ℕ) → Dec (i < n) → state_of (ring_for n r l) i ≡ state_of r i
      at i (yes h) = shown-state l n v r wide i h ∙ sym (states i h)
      at i (no h) =
          state-above (state_in l) n (with_out (with_queue r l.queue) (outs l.marks)) i (omega arith) ∙ sym (above i (omega arith))
