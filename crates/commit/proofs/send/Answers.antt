-- `commit::send` meets its contract: Sending has the slot that Held had, so no slot's state differs.
-- Assumes nothing.
use mathlib.Core.Path.{refl, ◌∙◌}
use Rattle.stream.proofs.Arrays.{arrays}
use Rattle.commit.proofs.Moves.{sent}
use Rattle.commit.proofs.send.Goals as goal

pub returns : goal.returns
returns c =
    record {
      answer = refl;
      stream = c.with_hand.ensures ∙ sent c.args.s c.requires.0 (arrays c.args.s c.well_formed.0) c.args.i c.requires.1;
      block = refl;
    }
