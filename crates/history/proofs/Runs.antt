-- The record and the ledger keep step: by induction over the list, the record is sound and shows the ledger, since every call keeps a
-- ledger valid and storing a valid ledger gives a sound record that shows it. Assumes nothing.
use mathlib.Core.Path.{◌≡◌, refl, sym, ap₂, subst, ◌∙◌}
use mathlib.Core.Bool.{true, false}
use mathlib.Core.List.{List, [], ◌∷◌}
use Rattle.layout.specs.declared.Setup.{Setup}
use Rattle.layout.specs.Opening.{admissible}
use Rattle.ring.specs.declared.Hand.{Hand}
use Rattle.ring.specs.Parts.{state_of, free_ring}
use Rattle.ring.proofs.Numbers.{table-alike}
use Rattle.ring.proofs.States.{all-free}
use Rattle.ring.proofs.Wide.{Wide}
use Rattle.stream.specs.declared.Stream.{Stream}
use Rattle.stream.specs.Parts.{no_stats}
use Rattle.stream.specs.Sound.{sound}
use Rattle.stream.proofs.Soundness.{setup-admissible}
use Rattle.opening.specs.Opened.{opened_stream}
use Rattle.opening.proofs.Fresh.{opened-sound, opened-wide, queue-all}
use Rattle.ledger.specs.Ledger.{Ledger, home, opened_ledger}
use Rattle.ledger.specs.Record.{mark_for, view, stored, Outcome, call}
use Rattle.ledger.specs.Calls.{Call, rule, lent_to, step_of, made}
use Rattle.ledger.proofs.Valid.{Valid, sound-valid, stored-wide, stored-sound, view-stored}
use Rattle.ledger.proofs.Steps.{step-valid}
use Rattle.ledger.proofs.Calls.{stored-setup}
use Rattle.history.specs.History.{ledger_after, record_after}

-- the record r keeps step with the ledger l
pub record InStep (s : Setup) (r : Stream) (l : Ledger) : Type 0 where
  pub setup : r.setup ≡ s
  pub ok : sound r ≡ true
  pub wide : Wide r.ring
  pub shown : view r ≡ l

module _ (s : Setup) (r : Stream) (l : Ledger) (k : InStep s r l) where
  pub in-step-valid : Valid s.slots l
  in-step-valid =
      subst (λ (x : Setup). Valid x.slots l) k.setup
      (subst (Valid r.setup.slots) k.shown (sound-valid r k.ok k.wide))

  -- the rule on the record's own values is the rule on the ledger
  same-rule : (c : Call) → rule c r.setup (view r) (lent_to c) ≡ step_of s c l
  unfolding step_of
  same-rule c = ap₂ (λ (x : Setup) (y : Ledger). rule c x y (lent_to c)) k.setup k.shown

  pub in-step-made : (c : Call) → made c r ≡ record { stream = stored r (step_of s c l).ledger; answer = (step_of s c l).answer; lent = (step_of s c l).lent }
  unfolding made call
  in-step-made c = rw (k.ok, same-rule c)

  pub in-step-next : (c : Call) → InStep s (made c r).stream (step_of s c l).ledger
  in-step-next c = subst (λ (o : Outcome). InStep s o.stream (step_of s c l).ledger) (sym (in-step-made c)) next
    where
      valid : Valid r.setup.slots (step_of s c l).ledger
      valid = subst (λ (x : Setup). Valid x.slots (step_of s c l).ledger) (sym k.setup) (step-valid s.slots s c l in-step-valid)

      next : InStep s (stored r (step_of s c l).ledger) (step_of s c l).ledger
      next =
          record {
            setup = stored-setup r (step_of s c l).ledger ∙ k.setup;
            ok = stored-sound r _ valid (setup-admissible r k.ok) k.wide;
            wide = stored-wide r _ valid (setup-admissible r k.ok) k.wide;
            shown = view-stored r _ valid (setup-admissible r k.ok) k.wide;
          }

-- the whole list
pub in_step : (s : Setup) (first : Stream) → InStep s first (opened_ledger s.slots) → (h : List Call) → InStep s (record_after first h) (ledger_after s h)
unfolding record_after ledger_after
in_step s first k [] = k
in_step s first k (c ∷ h) = in-step-next s (record_after first h) (ledger_after s h) (in_step s first k h) c

-- from the record that opening makes
module _ (s : Setup) (ok : admissible s ≡ true) where
  pub opened-in-step : InStep s (opened_stream s) (opened_ledger s.slots)
  unfolding opened_stream opened_ledger view mark_for
  opened-in-step =
      record {
        setup = refl;
        ok = opened-sound s ok;
        wide = opened-wide s ok;
        shown =
            λ i.
            record {
              hand = Hand.Idle;
              queue = queue-all s.slots i;
              marks = table-alike (λ j. mark_for (state_of (free_ring s.slots) j)) home s.slots (λ j h. rw (all-free s.slots j)) i;
              started = false;
              armed = false;
              totals = no_stats;
            };
      }

  pub valid-after : (h : List Call) → Valid s.slots (ledger_after s h)
  valid-after h = in-step-valid s (record_after (opened_stream s) h) (ledger_after s h) (in_step s (opened_stream s) opened-in-step h)
