-- `reaped::returned` meets its contract: there is room in the queue for a slot that was out, and its completion is the ledger's return.
-- Assumes nothing.
use Rattle.std.proofs.Common.{ap, ◌∙◌}
use Rattle.ring.specs.declared.Ring.{Ring}
use Rattle.stream.specs.Parts.{with_state}
use Rattle.stream.proofs.Arrays.{arrays}
use Rattle.reaped.proofs.Returns.{room_back, put_back}
use Rattle.reaped.proofs.returned.Goals as goal

pub complete-requires : goal.complete-requires
complete-requires c =
    room_back c.args.s c.requires.0 (arrays c.args.s c.well_formed.0) c.args.i c.requires.2 c.requires.3

pub returns : goal.returns
unfolding with_state
returns c =
    let s = c.args.s in
    c.new.ensures ∙
    ap (λ (r : Ring). with_state s r s.hand s.flags c.args.stats) c.complete.ensures ∙
    put_back s c.requires.0 (arrays c.args.s c.well_formed.0) c.args.i c.requires.2 c.requires.3 c.requires.1 c.args.stats
