-- The hand by the words: it holds the slot that was named last, until that is accepted or returned.
-- Assumes nothing.
use mathlib.Core.Path.{◌≡◌, refl, sym, ap, ◌∙◌}
use mathlib.Core.Bool.{Bool, true, false, cond, ◌||◌, false≢true}
use mathlib.Core.List.{List, ◌∷◌}
use mathlib.Core.Option.{Option, none, some}
use Prim.Native.Nat.{ℕ}
use lib.Dec.{eqb}
use borrow.Author.Tests.{eqb-true}
use Rattle.layout.specs.declared.Setup.{Setup}
use Rattle.ring.specs.declared.Hand.{Hand}
use Rattle.ring.specs.Slots.{holds}
use Rattle.history.specs.Words.{Entry, or_else, given, is_slot, last_submit, last_named, in_hand}
use Rattle.history.proofs.Entries.{Says, hand-next, named-next, submit-next}

-- The hand waits for the kernel's reply to slot i.
unfoldable pub sends : Hand → ℕ → Bool
sends Hand.Idle i = false
sends (Hand.Held slot) i = false
sends (Hand.Sending slot) i = eqb slot i
sends (Hand.Silent slot left) i = eqb slot i

pub record HandAgrees (s : Setup) (hand : Hand) (log : List Entry) : Type 0 where
  pub hand-is : (i : ℕ) → in_hand s i log ≡ holds hand i
  pub named-is : (i : ℕ) → holds hand i ≡ true → last_named log ≡ some i
  pub submit-is : (i : ℕ) → sends hand i ≡ true → last_submit log ≡ some i

-- a slot leaves the hand where it is accepted or returned
unfoldable pub leaves : Option ℕ → Option ℕ → Bool → List Entry → ℕ → Bool
leaves acc ntc back log i = is_slot acc i || is_slot (or_else ntc (given back (last_named log))) i

emptied : (held left : Bool) → (held ≡ true → left ≡ true) → cond left false held ≡ false
emptied true true f = refl
emptied true false f = sym (f refl)
emptied false true f = refl
emptied false false f = refl

passed_on : (named held left : Bool) → (named ≡ false → held ≡ true → left ≡ true) → cond named true (cond left false held) ≡ named
passed_on true held left f = refl
passed_on false held left f = emptied held left (f refl)

module _ {s : Setup} {e : Entry} {log : List Entry} {hand : Hand} (a : HandAgrees s hand log) where
  -- nothing was named, accepted or returned
  pub hand-kept : {stp : Bool} → Says s e log none none none none false stp → HandAgrees s hand (e ∷ log)
  unfolding is_slot or_else given
  hand-kept w =
      record {
        hand-is = λ i. hand-next w i ∙ a.hand-is i;
        named-is = λ i p. named-next w ∙ a.named-is i p;
        submit-is = λ i p. submit-next w ∙ a.submit-is i p;
      }

  -- what was in hand left it, and nothing was named
  pub hand-emptied : {acc ntc sub : Option ℕ} {back stp : Bool} → Says s e log acc ntc none sub back stp → ((i : ℕ) → holds hand i ≡ true → leaves acc ntc back log i ≡ true) → HandAgrees s Hand.Idle (e ∷ log)
  unfolding is_slot holds sends leaves
  hand-emptied {acc} {ntc} {sub} {back} w all =
      record {
        hand-is = λ i. hand-next w i ∙ ap (cond (leaves acc ntc back log i) false) (a.hand-is i) ∙ emptied (holds hand i) (leaves acc ntc back log i) (all i);
        named-is = λ i p. absurd (false≢true p);
        submit-is = λ i p. absurd (false≢true p);
      }

  -- slot j was named, and any other that was in hand left it
  pub hand-named : {acc ntc sub : Option ℕ} {back stp : Bool} (j : ℕ) → Says s e log acc ntc (some j) sub back stp → ((i : ℕ) → eqb j i ≡ false → holds hand i ≡ true → leaves acc ntc back log i ≡ true) → (to : Hand) → ((i : ℕ) → holds to i ≡ eqb j i) → ((i : ℕ) → sends to i ≡ true → sub ≡ some i) → HandAgrees s to (e ∷ log)
  unfolding is_slot or_else leaves
  hand-named {acc} {ntc} {sub} {back} j w all to held sent =
      record {
        hand-is = λ i. hand-next w i ∙ ap (λ (b : Bool). cond (eqb j i) true (cond (leaves acc ntc back log i) false b)) (a.hand-is i) ∙ passed_on (eqb j i) (holds hand i) (leaves acc ntc back log i) (all i) ∙ sym (held i);
        named-is = λ i p. named-next w ∙ ap some (eqb-true j i (sym (held i) ∙ p));
        submit-is = λ i p. submit-next w ∙ ap (λ (x : Option ℕ). or_else x (last_submit log)) (sent i p);
      }
