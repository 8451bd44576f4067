-- `ring::SlotStates::all_free`: each mask is that of no slot.
use Rattle.ring.specs.Slots.{is_filling, is_in_flight, is_discarding}
use Rattle.ring.specs.Masks.{masks_of}
use Rattle.ring.proofs.SlotStates.all_free.Goals as goal

pub returns : goal.returns
unfolding masks_of is_filling is_in_flight is_discarding
returns c = rw (c.none.ensures, c.none-2.ensures, c.none-3.ensures)
