-- `usbfs_iso::usbfs_iso_give_back` meets its contract: what every call from C shows (Answering of from_c). Assumes nothing.
use borrow.Author.Rules.{rules}
use Rattle.from_c.specs.Calls.{rule_from_c}
use Rattle.from_c.proofs.Answering.{writable_told, finished_told}
use Rattle.usbfs_iso.proofs.calls.usbfs_iso_give_back.Goals as goal

pub answered-requires : goal.answered-requires
unfolding rule_from_c
answered-requires c = search (rules, writable_told)

pub returns : goal.returns
unfolding rule_from_c
returns c = search (rules, finished_told)
