-- `front::take_silent` meets its contract: by what taking found, the record with the slot in a silent hand, or the record as it was.
-- Assumes nothing.
use mathlib.Core.Path.{refl}
use Rattle.ring.proofs.Pigeonhole.{front-free}
use Rattle.stream.proofs.Arrays.{arrays}
use Rattle.ledger.proofs.View.{facts, own-tabled}
use Rattle.front.proofs.Taking.{silent-slot, silent-nothing}
use Rattle.front.proofs.take_silent.Goals as goal

pub take_free-taken-requires : goal.take_free-taken-requires
take_free-taken-requires c =
    let f = facts c.args.s c.requires.0 (arrays c.args.s c.well_formed.0) in
    (f.short, own-tabled c.args.s c.requires.0 (arrays c.args.s c.well_formed.0), λ slot rest q. (front-free f slot rest q).1)

pub returns-in-Some : goal.returns-in-Some
returns-in-Some c =
    silent-slot c.args.s c.requires.0 (arrays c.args.s c.well_formed.0) c.requires.1 _ c.take_free-taken.ensures _ c.in-Some.is c.args.left _ refl c.with_hand.ensures

pub returns-in-None : goal.returns-in-None
returns-in-None c =
    silent-nothing c.args.s c.requires.0 (arrays c.args.s c.well_formed.0) c.requires.1 _ c.take_free-taken.ensures c.in-None.is _ refl refl c.args.left
