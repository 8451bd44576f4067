-- A second rule on the record that stores the first one's ledger: where that has the first record's queue, it gives what the rule gives on the ledger.
-- Assumes nothing.
use mathlib.Core.Path.{◌≡◌, refl, sym, ap, subst, ◌∙◌}
use mathlib.Core.Bool.{true}
use mathlib.Core.List.{List}
use Prim.Native.Nat.{ℕ}
use Rattle.layout.specs.declared.Setup.{Setup}
use Rattle.layout.specs.Opening.{total_of}
use Rattle.ring.specs.Parts.{queue_of}
use Rattle.ring.proofs.Wide.{Wide}
use Rattle.stream.specs.declared.Reply.{Reply}
use Rattle.stream.specs.declared.Stream.{Stream}
use Rattle.stream.specs.Parts.{with_state}
use Rattle.stream.specs.Sound.{sound}
use Rattle.stream.proofs.Soundness.{setup-admissible}
use Rattle.ledger.specs.Ledger.{Ledger}
use Rattle.ledger.specs.Step.{Next}
use Rattle.ledger.specs.Record.{view, stored}
use Rattle.ledger.specs.Gives.{Gives}
use Rattle.ledger.proofs.Calls.{stored-again, stored-setup}
use Rattle.ledger.proofs.Valid.{Valid, stored-sound, view-stored}

stored-hand : (s : Stream) (l : Ledger) → (stored s l).hand ≡ l.hand
unfolding stored with_state
stored-hand s l = refl

module _ (s : Stream) (ok : sound s ≡ true) (wide : Wide s.ring) (l : Ledger) (v : Valid s.setup.slots l) (to : Stream) (e : to ≡ stored s l) where
  pub sound-again : sound to ≡ true
  sound-again = ap sound e ∙ stored-sound s l v (setup-admissible s ok) wide

  pub hand-again : to.hand ≡ l.hand
  hand-again = ap (λ (x : Stream). x.hand) e ∙ stored-hand s l

  pub total-again : total_of s.setup ≡ total_of to.setup
  total-again = ap total_of (sym (stored-setup s l) ∙ ap (λ (x : Stream). x.setup) (sym e))

  pub gives-again : l.queue ≡ queue_of s.ring → (rule : Setup → Ledger → Next) (r : Reply) (left : List ℕ) → Gives to (rule to.setup (view to)) r left → Gives s (rule s.setup l) r left
  gives-again q rule r left g =
      record { answer = h.answer; stream = h.stream ∙ stored-again s ok wide l (rule s.setup l).ledger q; block = h.block }
    where
      h : Gives (stored s l) (rule s.setup l) r left
      h =
          subst (λ (x : Setup). Gives (stored s l) (rule x l) r left) (stored-setup s l)
          (subst (λ (x : Ledger). Gives (stored s l) (rule (stored s l).setup x) r left) (view-stored s l v (setup-admissible s ok) wide)
          (subst (λ (x : Stream). Gives x (rule x.setup (view x)) r left) e g))
