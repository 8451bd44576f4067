-- `reaped::by_address` meets its contract: each arm knows what the address names, and a slot that it names is one of the ring's.
-- Assumes nothing.
use Rattle.std.proofs.Common.{sym, ◌∙◌}
use Rattle.stream.proofs.Arrays.{arrays}
use Rattle.stream.proofs.Soundness.{setup-admissible}
use Rattle.ledger.specs.Reaped.{by_address}
use Rattle.reaped.proofs.Addresses.{named-below}
use Rattle.reaped.proofs.Replies.{by-found, named_none}
use Rattle.reaped.proofs.by_address.Goals as goal

pub slot_of_urb-requires : goal.slot_of_urb-requires
slot_of_urb-requires c = (setup-admissible c.args.s c.requires.0, c.requires.2)

pub noticed-requires : goal.noticed-requires
noticed-requires c =
    let s = c.args.s in
    let named = sym c.slot_of_urb.ensures ∙ c.in-Some.is in
    (c.requires.0, c.requires.1, named-below s.setup (setup-admissible s c.requires.0) c.args.address c.args.block.now _ named, c.requires.2)

pub returns-in-None : goal.returns-in-None
returns-in-None c =
    by-found c.args.s c.args.block.now _ _ (sym c.slot_of_urb.ensures ∙ c.in-None.is) _
    (named_none c.args.s c.requires.0 (arrays c.args.s c.well_formed.0) c.args.block.now)

pub returns-in-Some : goal.returns-in-Some
unfolding by_address
returns-in-Some c =
    by-found c.args.s c.args.block.now _ _ (sym c.slot_of_urb.ensures ∙ c.in-Some.is) _ c.noticed.ensures
