-- The record's log is the ledger's: a record in step shows what the ledger has, and gives the ledger's answer and what it leaves in the block or
-- list; by induction over the list. Assumes nothing.
use mathlib.Core.Path.{◌≡◌, refl, ap₂, ◌∙◌}
use mathlib.Core.List.{List, [], ◌∷◌}
use Rattle.layout.specs.declared.Setup.{Setup}
use Rattle.stream.specs.declared.Stream.{Stream}
use Rattle.ledger.specs.Ledger.{Ledger, opened_ledger}
use Rattle.ledger.specs.Shown.{shown_by, shown_in}
use Rattle.ledger.specs.Calls.{Call, step_of, made}
use Rattle.ledger.proofs.Shown.{view-shown}
use Rattle.history.specs.History.{ledger_after, record_after}
use Rattle.history.specs.Log.{Line, record_log, ledger_log}
use Rattle.history.proofs.Runs.{InStep, in_step, in-step-made, in-step-next}

module _ (s : Setup) (r : Stream) (l : Ledger) (k : InStep s r l) where
  pub in-step-shown : shown_by r ≡ shown_in s l
  in-step-shown = view-shown r k.ok k.wide ∙ ap₂ shown_in k.setup k.shown

module _ (s : Setup) (r : Stream) (l : Ledger) (k : InStep s r l) (c : Call) where
  -- a call's line
  line-agrees : ◌≡◌ {A = Line} (record { answer = (made c r).answer; lent = (made c r).lent; shown = shown_by (made c r).stream }) (record { answer = (step_of s c l).answer; lent = (step_of s c l).lent; shown = shown_in s (step_of s c l).ledger })
  line-agrees =
      λ i.
      record {
        answer = (in-step-made s r l k c i).answer;
        lent = (in-step-made s r l k c i).lent;
        shown = in-step-shown s _ _ (in-step-next s r l k c) i;
      }

-- the whole list
pub logs-agree : (s : Setup) (first : Stream) → InStep s first (opened_ledger s.slots) → (h : List Call) → record_log first h ≡ ledger_log s h
unfolding record_log ledger_log
logs-agree s first k [] = refl
logs-agree s first k (c ∷ h) =
    ap₂ (λ (line : Line) (before : List Line). line ∷ before)
    (line-agrees s (record_after first h) (ledger_after s h) (in_step s first k h) c)
    (logs-agree s first k h)
