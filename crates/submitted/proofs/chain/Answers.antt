-- `submitted::chain` meets its contract: by what is left, one callee or the other gives what the rule says.
-- Assumes nothing.
use Rattle.stream.proofs.Arrays.{arrays}
use Rattle.stream.proofs.Soundness.{setup-admissible}
use Rattle.ledger.specs.Record.{view}
use Rattle.front.proofs.Taking.{silent-below, silenced-front, take-lent}
use Rattle.submitted.proofs.Replies.{chain-ends, chain-goes-on}
use Rattle.submitted.proofs.chain.Goals as goal

pub silence_taken-requires : goal.silence_taken-requires
silence_taken-requires c = (
  setup-admissible c.args.s c.requires.0,
  silent-below c.args.s c.requires.0 (arrays c.args.s c.well_formed.0) _ _ c.take_silent-done.ensures,
  c.requires.2,
)

pub returns-then-left-eq0 : goal.returns-then-left-eq0
returns-then-left-eq0 c =
    let s = c.args.s in
    let block = c.args.block.now in
    chain-ends s block _ _ _ c.if-left-eq0.true (take-lent s (view s).queue (view s) _ block c.take_front.ensures)

pub returns-else-left-eq0 : goal.returns-else-left-eq0
returns-else-left-eq0 c =
    chain-goes-on c.args.s c.args.block.now _ _ _ c.if-left-eq0.false
    (silenced-front c.args.s c.requires.0 (arrays c.args.s c.well_formed.0) _ _ c.take_silent-done.ensures c.args.block.now _ c.silence_taken.ensures)
