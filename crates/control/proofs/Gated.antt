-- A call on an Idle hand that is lent no block ends by the gate's answer: refused by it, or by what it gives of a sound record.
-- Assumes nothing.
use mathlib.Core.Path.{◌≡◌, sym, ◌∙◌}
use mathlib.Core.Bool.{true}
use mathlib.Core.List.{List, []}
use Prim.Native.Nat.{ℕ}
use Rattle.std.specs.Prelude.{None, Result, Ok, Err}
use Rattle.error.specs.declared.Error.{Error}
use Rattle.ring.proofs.Wide.{Wide}
use Rattle.stream.specs.declared.Answer.{Answer}
use Rattle.stream.specs.declared.Reply.{Reply}
use Rattle.stream.specs.declared.Stream.{Stream}
use Rattle.stream.specs.Sound.{sound}
use Rattle.ledger.specs.Calls.{Call, rule, lent_to}
use Rattle.ledger.specs.Gives.{Gives}
use Rattle.ledger.specs.Record.{view}
use Rattle.ledger.specs.Step.{Rule, when_idle}
use Rattle.ledger.specs.Told.{Told}
use Rattle.gate.specs.Gate.{idle_gate}
use Rattle.gate.proofs.Gates.{behind, idle-open, idle-refused, idle-told}

module _ (s : Stream) {g : Result (Unit {0}) Error} (gate : g ≡ idle_gate s None) where
  pub opened : g ≡ Ok tt → sound s ≡ true
  opened is = (idle-open s None [] tt (sym gate ∙ is)).0

  module _ (c : Call) (idle : Rule) (rules : rule c ≡ behind None (when_idle idle)) where
    pub closed : Wide s.ring → {e : Error} → g ≡ Err e
        → (r : Reply) → r ≡ record { stream = s; answer = Answer.Refused e } → Told c s r.answer r.stream (lent_to c)
    closed wide is r f = idle-refused s None c idle rules tt wide _ (sym gate ∙ is) r f

    pub told : g ≡ Ok tt → (r : Reply) (left : List ℕ)
        → (sound s ≡ true → Gives s (idle s.setup (view s) (lent_to c)) r left) → Told c s r.answer r.stream left
    told is r left gives = idle-told s None c idle rules tt (sym gate ∙ is) r left (gives (opened is))
