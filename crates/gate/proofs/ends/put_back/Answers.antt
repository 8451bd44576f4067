-- `gate::ends::put_back` meets its contract: there is room in the queue for the slot in hand, and its release is the ledger's return.
-- Assumes nothing.
use mathlib.Core.Path.{refl, ap, ◌∙◌}
use Rattle.ring.specs.declared.Hand.{Hand}
use Rattle.ring.specs.declared.Ring.{Ring}
use Rattle.stream.specs.Parts.{with_state}
use Rattle.stream.proofs.Arrays.{arrays}
use Rattle.ledger.specs.Step.{put_back}
use Rattle.ledger.proofs.InHand.{queue-room, returned-stored}
use Rattle.gate.proofs.ends.put_back.Goals as goal

pub release-requires : goal.release-requires
release-requires c =
    queue-room c.args.s c.requires.0 (arrays c.args.s c.well_formed.0) c.args.i c.requires.1

pub returns : goal.returns
unfolding put_back
returns c =
    let s = c.args.s in
    record {
      answer = refl;
      stream =
          c.with_hand.ensures ∙
          ap (λ (r : Ring). with_state s r Hand.Idle s.flags s.stats) c.release.ensures ∙
          returned-stored s c.requires.0 (arrays s c.well_formed.0) c.args.i c.requires.1;
      block = refl;
    }
