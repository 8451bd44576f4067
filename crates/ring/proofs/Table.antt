-- The masks and the table of states that they stand for: what one form has after a change of states, the other has. From the laws of the masks and
-- of a table over the slots. Assumes nothing.
use Rattle.std.proofs.Common.{◌≡◌, ℕ, ◌<◌, get_or, set, sym, ◌∙◌, length-set, get_or-set_other, get_or-set_same, ext_get_or}
use native.Mathlib.Decide.{ℕ_discrete}
use Rattle.ring.specs.declared.Ring.{Ring}
use Rattle.ring.specs.declared.SlotState.{SlotState}
use Rattle.ring.specs.declared.SlotState.TheVariants.{Free}
use Rattle.ring.specs.Counts.{table}
use Rattle.ring.specs.Masks.{state_at, masks_of, table_of, entry}
use Rattle.ring.specs.Parts.{state_of, with_state}
use Rattle.ring.proofs.Masks.{state-masks, masks-ext}
use Rattle.ring.proofs.Numbers.{table-long, table_at, table_same}
use Rattle.ring.proofs.States.{state-put, state-other}

module _ (f : ℕ → SlotState) where
  -- the table of the masks of given states
  pub table-of : table_of (masks_of f) ≡ table f 256
  unfolding table_of
  table-of = table_same (state_at (masks_of f)) f 256 (state-masks f)

  pub entry_of : (i : ℕ) → i < 256 → entry (table f 256) i ≡ f i
  unfolding entry
  entry_of i h = table_at f Free 256 i h

  -- the masks of that table
  pub masks-of-table : masks_of f ≡ masks_of (entry (table f 256))
  masks-of-table = masks-ext f (entry (table f 256)) (λ i h. sym (entry_of i h))

-- another state of slot i: one entry of the table is set
pub table-put : (ring : Ring) (i : ℕ) (state : SlotState) → i < 256 → table_of (with_state ring i state).states ≡ set (table_of ring.states) i state
unfolding table_of state_of
table-put ring i state h =
    ext_get_or Free _ _ (table-long after 256 ∙ sym (length-set (table before 256) i state ∙ table-long before 256))
    (λ j l. let b : j < 256 = rw (table-long after 256) at l in table_at after Free 256 j b ∙ at j b (ℕ_discrete j i))
  where
    before : ℕ → SlotState
    before = state_at ring.states

    after : ℕ → SlotState
    after = state_at (with_state ring i state).states

    at : (j : ℕ) → j < 256 → Dec (j ≡ i) → after j ≡ get_or (set (table before 256) i state) j Free
    at j b (yes e) =
        rw e (state-put ring i state h ∙ sym (get_or-set_same (table before 256) i state Free (rw (table-long before 256) h)))
    at j b (no e) =
        state-other ring i state j e ∙ sym (table_at before Free 256 j b) ∙ sym (get_or-set_other (table before 256) i j state Free e)
