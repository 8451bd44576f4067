-- Request 2026-11: masks and table hold the same states. On every record that 8 passes they do; a call on such a record keeps them in step; and so they
-- are after every list of calls from a freshly opened ring. Assumes nothing.
use Prim.Native.Nat.{ℕ, ◌≤◌, ◌<◌}
use native.Mathlib.Decide.{dec_lt}
use native.Mathlib.Omega.{arith}
use mathlib.Core.Path.{◌≡◌, refl, sym, ap, subst, ◌∙◌}
use mathlib.Core.Bool.{true, cond}
use mathlib.Core.List.{List, [], ◌∷◌}
use lib.Dec.{ltb}
use lib.ListN.{replicate}
use borrow.Author.Tests.{lt-ltb, le-ltb}
use Rattle.layout.specs.declared.Setup.{Setup}
use Rattle.ring.specs.declared.SlotState.{SlotState}
use Rattle.ring.specs.Counts.{table}
use Rattle.ring.specs.Masks.{masks_of, table_of, entry, state_at, first_of}
use Rattle.ring.specs.Parts.{state_of, with_masks, with_states, free_ring}
use Rattle.ring.proofs.Numbers.{table-alike, table_same}
use Rattle.ring.proofs.Sound.{tabled, free-past}
use Rattle.ring.proofs.States.{first_below, first_above}
use Rattle.ring.proofs.Table.{table-of, entry_of, masks-of-table}
use Rattle.ring.proofs.Wide.{Wide}
use Rattle.stream.specs.declared.Answer.{Answer}
use Rattle.stream.specs.declared.Stream.{Stream}
use Rattle.stream.specs.Parts.{with_state}
use Rattle.stream.specs.Sound.{sound}
use Rattle.stream.proofs.Soundness.{ring-sound}
use Rattle.opening.specs.Opened.{opened_stream}
use Rattle.opening.specs.Open.{open_outcome}
use Rattle.opening.proofs.Outcome.{done-admissible, admissible-done}
use Rattle.ledger.specs.Calls.{Call, step_of, made}
use Rattle.ledger.specs.Ledger.{Ledger, state_in, opened_ledger}
use Rattle.ledger.specs.Record.{ring_for, stored, Outcome}
use Rattle.history.specs.History.{ledger_after, record_after}
use Rattle.history.specs.Table.{with_entries, table_after, SameStates}
use Rattle.history.proofs.Runs.{InStep, in-step-made, in_step, opened-in-step}

-- the masks of given states, and the table of these
of-states : (f : ℕ → SlotState) → SameStates (table f 256) (masks_of f)
of-states f = record { given = table-of f; held = masks-of-table f }

-- every record that 8 passes
pub same-sound : (r : Stream) → sound r ≡ true → Wide r.ring → SameStates (table_of r.ring.states) r.ring.states
unfolding table_of state_of
same-sound r ok wide =
    subst (SameStates (table (state_at r.ring.states) 256)) (sym (tabled (ring-sound r ok) wide)) (of-states (state_at r.ring.states))

-- the record that stores a ledger, where the table before has no slot at n or above
stored_same : (r : Stream) (l : Ledger) (before : List SlotState) → ((i : ℕ) → r.setup.slots ≤ i → i < 256 → entry before i ≡ SlotState.Free)
    → SameStates (with_entries r.setup.slots (state_in l) before) (stored r l).ring.states
unfolding stored with_state ring_for with_states with_masks with_entries
stored_same r l before free =
    subst (λ (t : List SlotState). SameStates t (masks_of (first_of n (state_in l))))
    (table_same (first_of n (state_in l)) (λ i. cond (ltb i n) (state_in l i) (entry before i)) 256 (λ i h. at i h (dec_lt i n)))
    (of-states (first_of n (state_in l)))
  where
    n : ℕ
    n = r.setup.slots

    at : (i : ℕ) → i < 256 → Dec (i < n) → first_of n (state_in l) i ≡ cond (ltb i n) (state_in l i) (entry before i)
    at i h (yes p) = first_below (state_in l) n i p ∙ rw (lt-ltb i n p)
    at i h (no p) =
        let past : n ≤ i = omega arith in
        first_above (state_in l) n i past ∙ sym (free i past h) ∙ rw (le-ltb i n past)

-- one call on such a record, call by call
module _ (s : Setup) (r : Stream) (l : Ledger) (k : InStep s r l) (before : List SlotState) (same : SameStates before r.ring.states) where
  -- no slot at n or above is in the table
  none-past : (i : ℕ) → r.setup.slots ≤ i → i < 256 → entry before i ≡ SlotState.Free
  unfolding table_of state_of
  none-past i p h =
      ap (λ (t : List SlotState). entry t i) (sym same.given) ∙ entry_of (state_at r.ring.states) i h ∙ free-past (ring-sound r k.ok) i p

  pub same-made : (c : Call) → SameStates (with_entries s.slots (state_in (step_of s c l).ledger) before) (made c r).stream.ring.states
  same-made c =
      subst (λ (o : Outcome). SameStates (with_entries s.slots (state_in (step_of s c l).ledger) before) o.stream.ring.states)
      (sym (in-step-made s r l k c))
      (subst (λ (x : Setup). SameStates (with_entries x.slots (state_in (step_of s c l).ledger) before) (stored r (step_of s c l).ledger).ring.states) k.setup
      (stored_same r (step_of s c l).ledger before none-past))

-- every list of calls
module _ (s : Setup) (first : Stream) (k : InStep s first (opened_ledger s.slots)) (opened : SameStates (replicate 256 SlotState.Free) first.ring.states) where
  same-run : (h : List Call) → SameStates (table_after s h) (record_after first h).ring.states
  unfolding table_after record_after ledger_after
  same-run [] = opened
  same-run (c ∷ h) = same-made s (record_after first h) (ledger_after s h) (in_step s first k h) (table_after s h) (same-run h) c

-- a freshly opened ring: every slot is Free, and in no mask
fresh : (s : Setup) → SameStates (replicate 256 SlotState.Free) (opened_stream s).ring.states
unfolding opened_stream free_ring
fresh s =
    subst (λ (t : List SlotState). SameStates t (masks_of (λ i. SlotState.Free))) (table-alike (λ i. SlotState.Free) SlotState.Free 256 (λ i h. refl))
    (of-states (λ i. SlotState.Free))

-- Wherever opening answers Done, after every list of calls, and so after each call of it.
pub same-states : (s : Setup) (block : List ℕ) → (open_outcome s block).answer ≡ Answer.Done → (h : List Call) → SameStates (table_after s h) (record_after (open_outcome s block).stream h).ring.states
same-states s block done h =
    let opened = done-admissible s block done in
    rw (admissible-done s block opened.0 opened.1) (same-run s (opened_stream s) (opened-in-step s opened.0) (fresh s) h)
