-- The words of a ring's masks have 64 bits, and its queue 256 places.
-- A value of the type has them by its relation to memory; a ring in a proof has them by this record. Assumes nothing.
use Rattle.std.proofs.Common.{◌≡◌, length}
use Rattle.mask.proofs.Masks.{Fits}
use Rattle.ring.specs.declared.Ring.{Ring}
use Rattle.ring.specs.declared.SlotStates.{SlotStates}
use Rattle.ring.proofs.Masks.{MasksFit}

pub record Wide (ring : Ring) : Type 0 where
  pub states : MasksFit ring.states
  pub places : length ring.free ≡ 256

-- With `needs` and the mask's `fits`, this finds `states` of a function's argument.
pub masks-known : (m : SlotStates) → Fits m.filling → Fits m.in_flight → Fits m.discarding → MasksFit m
masks-known m f i d = record { filling = f; flying = i; discarding = d }
