-- An underrun: counting it moves no slot, so the record's ring shows the ledger after it, and only a flag and a total differ. Then the policy
-- decides. Assumes nothing.
use Rattle.std.proofs.Common.{◌≡◌, ℕ, Bool, true, false, cond, ◌&&◌, eqb, List, sym, refl, ap, ◌∙◌, subst}
use Rattle.error.specs.declared.Error.{Error}
use Rattle.layout.specs.declared.Underrun.{Underrun}
use Rattle.ring.specs.declared.Ring.{Ring}
use Rattle.ring.specs.Parts.{queue_of}
use Rattle.ring.proofs.Wide.{Wide}
use Rattle.stream.specs.declared.Answer.{Answer}
use Rattle.stream.specs.declared.IsoStats.{IsoStats}
use Rattle.stream.specs.declared.Reply.{Reply}
use Rattle.stream.specs.declared.Stream.{Stream}
use Rattle.stream.specs.Parts.{with_state}
use Rattle.stream.specs.Sound.{sound}
use Rattle.ledger.specs.Ledger.{Ledger, with_flags, with_totals}
use Rattle.ledger.specs.Record.{view, stored}
use Rattle.ledger.specs.Step.{refused}
use Rattle.ledger.specs.Turn.{take_front, drained, one_underrun, underrun, on_underrun, turn_idle}
use Rattle.ledger.proofs.Rings.{ring-kept}
use Rattle.ledger.proofs.View.{view-outs}
use Rattle.ledger.specs.Gives.{Gives}

module _ (s : Stream) (ok : sound s ≡ true) (wide : Wide s.ring) where
  pub drained-is : drained (view s) ≡ (s.flags.started && s.flags.armed && eqb s.ring.in_flight 0)
  unfolding drained view
  drained-is = ap (λ (k : ℕ). s.flags.started && s.flags.armed && eqb k 0) (view-outs s ok wide)

  pub counted : with_state s s.ring s.hand (record { started = s.flags.started; armed = false }) (one_underrun s.stats) ≡ stored s (underrun (view s))
  unfolding stored underrun with_totals with_flags view
  counted =
      ap (λ (r : Ring). with_state s r s.hand (record { started = s.flags.started; armed = false }) (one_underrun s.stats))
      (sym (ring-kept s ok wide (underrun (view s)) (λ j. refl) refl refl))

  stored-totals : (stored s (underrun (view s))).stats ≡ (underrun (view s)).totals
  unfolding stored with_state
  stored-totals = refl

  pub underrun-queue : (underrun (view s)).queue ≡ queue_of s.ring
  unfolding underrun with_totals with_flags view
  underrun-queue = refl

  pub underrun-hand : (underrun (view s)).hand ≡ s.hand
  unfolding underrun with_totals with_flags view
  underrun-hand = refl

  -- the policy Error: the record after the count, with that count
  pub told-underrun : (to : Stream) → to ≡ stored s (underrun (view s)) → (block : List ℕ) → Gives s (on_underrun Underrun.Error s.setup (underrun (view s)) block) (record { stream = to; answer = Answer.Refused (Error.Underrun to.stats.underruns) }) block
  unfolding on_underrun refused
  told-underrun to e block =
      record {
        answer = ap (λ (x : Stream). Answer.Refused (Error.Underrun x.stats.underruns)) e ∙ ap (λ (t : IsoStats). Answer.Refused (Error.Underrun t.underruns)) stored-totals;
        stream = e;
        block = refl;
      }

module _ (s : Stream) (block : List ℕ) (r : Reply) (left : List ℕ) where
  -- by the policy
  pub by-policy : (l : Ledger) (u : Underrun) → s.setup.underrun ≡ u → Gives s (on_underrun u s.setup l block) r left → Gives s (on_underrun s.setup.underrun s.setup l block) r left
  by-policy l u e g = subst (λ (x : Underrun). Gives s (on_underrun x s.setup l block) r left) (sym e) g

  -- by whether the stream has drained
  pub by-drained : (dry : Bool) → drained (view s) ≡ dry → Gives s (cond dry (on_underrun s.setup.underrun s.setup (underrun (view s)) block) (take_front (view s).queue (view s) block)) r left → Gives s (turn_idle s.setup (view s) block) r left
  unfolding turn_idle
  by-drained dry e g =
      subst (λ (x : Bool). Gives s (cond x (on_underrun s.setup.underrun s.setup (underrun (view s)) block) (take_front (view s).queue (view s) block)) r left)
      (sym e) g
