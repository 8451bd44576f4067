-- Request 2026-11: the states of the slots as a table, as the record held them before the masks, beside the masks.
use Rattle.std.specs.Prelude.{ℕ, cond, List, [], ◌∷◌, ◌≡◌, ltb, replicate}
use Rattle.layout.specs.declared.Setup.{Setup}
use Rattle.ring.specs.declared.SlotState.{SlotState}
use Rattle.ring.specs.declared.SlotStates.{SlotStates}
use Rattle.ring.specs.Counts.{table}
use Rattle.ring.specs.Masks.{masks_of, table_of, entry}
use Rattle.ledger.specs.Calls.{Call}
use Rattle.ledger.specs.Ledger.{state_in}
use Rattle.history.specs.History.{ledger_after}

-- The table with the states of the slots below n as given; the other entries are as they were.
unfoldable pub with_entries : ℕ → (ℕ → SlotState) → List SlotState → List SlotState
with_entries n state before = table (λ i. cond (ltb i n) (state i) (entry before i)) 256

-- The table after a history: opening makes every slot Free, and each call puts the states that the ledger then has.
unfoldable pub table_after : Setup → List Call → List SlotState
table_after s [] = replicate 256 SlotState.Free
table_after s (c ∷ before) = with_entries s.slots (state_in (ledger_after s (c ∷ before))) (table_after s before)

-- Both forms hold the same states: the masks give the table's, and each slot is in the mask of its state and in no other.
pub record SameStates (states : List SlotState) (masks : SlotStates) : Type 0 where
  pub given : table_of masks ≡ states
  pub held : masks ≡ masks_of (entry states)
