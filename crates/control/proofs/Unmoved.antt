-- The calls that move no slot, start and finish: only the flags can differ. Assumes nothing.
use mathlib.Core.Path.{◌≡◌, refl, sym, ap, ◌∙◌}
use mathlib.Core.Bool.{Bool, true, false, cond}
use mathlib.Core.List.{[]}
use lib.Dec.{eqb}
use Rattle.error.specs.declared.Error.{Error}
use Rattle.ring.specs.declared.Ring.{Ring}
use Rattle.ring.proofs.Wide.{Wide}
use Rattle.stream.specs.declared.Answer.{Answer}
use Rattle.stream.specs.declared.Reply.{Reply}
use Rattle.stream.specs.declared.Stream.{Stream}
use Rattle.stream.specs.Parts.{with_state}
use Rattle.stream.specs.Sound.{sound}
use Rattle.ledger.specs.Ledger.{with_flags}
use Rattle.ledger.specs.Control.{started_ledger, start_idle, finish_idle}
use Rattle.ledger.specs.Gives.{Gives}
use Rattle.ledger.specs.Record.{view, stored}
use Rattle.ledger.proofs.Calls.{gives-kept}
use Rattle.ledger.proofs.Rings.{ring-kept}
use Rattle.ledger.proofs.View.{view-outs, stored-view}

module _ (s : Stream) (ok : sound s ≡ true) (wide : Wide s.ring) where
  -- finish's answer goes by the out count
  pub finished : (none : Bool) → eqb s.ring.in_flight 0 ≡ none → (r : Reply) → r ≡ record { stream = s; answer = cond none Answer.Yes (Answer.Refused Error.Disconnected) } → Gives s (finish_idle s.setup (view s) []) r []
  unfolding finish_idle
  finished none e r is = rw (view-outs s ok wide, e, is) (gives-kept s ok wide _ [])

  -- the record with other flags
  flags-stored : (started armed : Bool) → with_state s s.ring s.hand (record { started = started; armed = armed }) s.stats ≡ stored s (with_flags started armed (view s))
  unfolding stored with_flags view
  flags-stored started armed =
      ap (λ (r : Ring). with_state s r s.hand (record { started = started; armed = armed }) s.stats)
      (sym (ring-kept s ok wide (with_flags started armed (view s)) (λ j. refl) refl refl))

  -- start's rule, by whether the stream was started: armed stays, or goes off
  after-start : (was : Bool) → s.flags.started ≡ was → with_state s s.ring s.hand (record { started = true; armed = cond was s.flags.armed false }) s.stats ≡ stored s (started_ledger was (view s))
  unfolding started_ledger with_state
  after-start true e =
      ap (λ (b : Bool). with_state s s.ring s.hand (record { started = b; armed = s.flags.armed }) s.stats) (sym e) ∙
      sym (stored-view s ok wide)
  after-start false e = flags-stored true false

  pub started : (armed : Bool) → armed ≡ cond s.flags.started s.flags.armed false
      → Gives s (start_idle s.setup (view s) [])
      (record { stream = with_state s s.ring s.hand (record { started = true; armed = armed }) s.stats; answer = Answer.Done }) []
  unfolding start_idle view
  started armed e =
      record {
        answer = refl;
        stream =
            ap (λ (b : Bool). with_state s s.ring s.hand (record { started = true; armed = b }) s.stats) e ∙
            after-start s.flags.started refl;
        block = refl;
      }
