-- `usbfs_iso::usbfs_iso_commit_packets` meets its contract: what every call from C shows (Answering of from_c), for this call. Assumes nothing.
use borrow.Author.Rules.{rules}
use Rattle.ledger.specs.Calls.{Call, lent_to}
use Rattle.from_c.specs.Calls.{rule_from_c}
use Rattle.from_c.proofs.Answering.{writable, finished}
use Rattle.usbfs_iso.proofs.calls.usbfs_iso_commit_packets.Goals as goal

pub answered-requires : goal.answered-requires
unfolding rule_from_c lent_to
answered-requires c = search (rules, writable (Call.commit_packets c.args.lengths.now c.args.block.now))

pub returns : goal.returns
unfolding rule_from_c lent_to
returns c = search (rules, finished (Call.commit_packets c.args.lengths.now c.args.block.now))
