-- The marks by the words: a slot is marked exactly when it is out, and with a discard exactly when a stop came since its acceptance.
-- Assumes nothing.
use mathlib.Core.Path.{◌≡◌, refl, sym, ◌∙◌}
use mathlib.Core.Bool.{Bool, true, false}
use mathlib.Core.List.{List, ◌∷◌}
use mathlib.Core.Option.{Option, none, some}
use Prim.Native.Nat.{ℕ, ◌<◌}
use native.Mathlib.Decide.{ℕ_discrete}
use lib.ListN.{length, get_or, set}
use lib.Seq.{get_or-set_same, get_or-set_other}
use borrow.Author.Tests.{eq-eqb, ne_eqb}
use Rattle.layout.specs.declared.Setup.{Setup}
use Rattle.ledger.specs.Ledger.{Mark, home, out, discarded}
use Rattle.ledger.specs.Control.{discard_all}
use Rattle.ledger.proofs.KeptControl.{stopped, discard-at}
use Rattle.history.specs.Words.{Entry, is_slot, is_out, after_discard}
use Rattle.history.proofs.Entries.{Says, out-next, discard-next}

-- Out, by a mark.
unfoldable pub gone : Mark → Bool
gone home = false
gone out = true
gone discarded = true

-- Whether a slot that is out was discarded: of a slot at home nothing is said.
unfoldable pub Discards : Mark → Bool → Type 0
Discards home b = Unit {0}
Discards out b = b ≡ false
Discards discarded b = b ≡ true

pub record MarksAgree (s : Setup) (marks : List Mark) (log : List Entry) : Type 0 where
  pub out-is : (i : ℕ) → is_out s i log ≡ gone (get_or marks i home)
  pub discard-is : (i : ℕ) → Discards (get_or marks i home) (after_discard i log)

still-gone : (m : Mark) → gone m ≡ gone (stopped m)
unfolding gone stopped
still-gone home = refl
still-gone out = refl
still-gone discarded = refl

all-discarded : (m : Mark) → Discards (stopped m) true
unfolding Discards stopped
all-discarded home = tt
all-discarded out = refl
all-discarded discarded = refl

module _ {s : Setup} {e : Entry} {log : List Entry} {marks : List Mark} (m : MarksAgree s marks log) where
  -- slot i marked anew: what the log says of it fits the new mark, and of every other slot it says what it said
  marks-set : (i : ℕ) (to : Mark) → i < length marks → is_out s i (e ∷ log) ≡ gone to → Discards to (after_discard i (e ∷ log)) → ((j : ℕ) → (j ≡ i → ⊥) → (is_out s j (e ∷ log) ≡ is_out s j log) × (after_discard j (e ∷ log) ≡ after_discard j log)) → MarksAgree s (set marks i to) (e ∷ log)
  marks-set i to h here discards others =
      record { out-is = λ j. out_at j (ℕ_discrete j i); discard-is = λ j. discards-at j (ℕ_discrete j i) }
    where
      out_at : (j : ℕ) → Dec (j ≡ i) → is_out s j (e ∷ log) ≡ gone (get_or (set marks i to) j home)
      out_at j (yes p) = rw (p, get_or-set_same marks i to home h) here
      out_at j (no p) = rw ((others j p).0, get_or-set_other marks i j to home p) (m.out-is j)

      discards-at : (j : ℕ) → Dec (j ≡ i) → Discards (get_or (set marks i to) j home) (after_discard j (e ∷ log))
      discards-at j (yes p) = rw (p, get_or-set_same marks i to home h) discards
      discards-at j (no p) = rw ((others j p).1, get_or-set_other marks i j to home p) (m.discard-is j)

module _ {s : Setup} {e : Entry} {log : List Entry} {nam sub : Option ℕ} {marks : List Mark} (m : MarksAgree s marks log) where
  -- neither accepted nor noticed nor stopped
  pub marks-kept : {back : Bool} → Says s e log none none nam sub back false → MarksAgree s marks (e ∷ log)
  unfolding is_slot
  marks-kept w =
      record {
        out-is = λ i. out-next w i ∙ m.out-is i;
        discard-is = λ i. rw (discard-next w i) (m.discard-is i);
      }

  -- slot i accepted
  pub marks-accepted : {back : Bool} (i : ℕ) → Says s e log (some i) none nam sub back false → i < length marks → MarksAgree s (set marks i out) (e ∷ log)
  unfolding is_slot gone Discards
  marks-accepted i w h =
      marks-set m i out h (rw (out-next w i, eq-eqb i i refl)) (rw (discard-next w i, eq-eqb i i refl) refl)
      (λ j p. (rw (out-next w j, ne_eqb i j (λ z. p (sym z))), rw (discard-next w j, ne_eqb i j (λ z. p (sym z)))))

  -- slot i, out, noticed
  pub marks-noticed : (i : ℕ) → Says s e log none (some i) nam sub false false → i < length marks → MarksAgree s (set marks i home) (e ∷ log)
  unfolding is_slot gone Discards
  marks-noticed i w h =
      marks-set m i home h (rw (out-next w i, eq-eqb i i refl)) tt
      (λ j p. (rw (out-next w j, ne_eqb i j (λ z. p (sym z))), discard-next w j))

  -- stopped: every slot out is discarded
  pub marks-stopped : Says s e log none none nam sub false true → MarksAgree s (discard_all marks) (e ∷ log)
  unfolding is_slot
  marks-stopped w =
      record {
        out-is = λ i. rw (discard-at marks i) (out-next w i ∙ m.out-is i ∙ still-gone (get_or marks i home));
        discard-is = λ i. rw (discard-at marks i, discard-next w i) (all-discarded (get_or marks i home));
      }
