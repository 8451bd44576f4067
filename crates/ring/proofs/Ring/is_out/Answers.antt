-- `ring::Ring::is_out`: one of the two masks has the slot exactly when it is out.
use Rattle.std.proofs.Common.{◌≡◌, ◌||◌, refl, ap, ◌∙◌}
use Rattle.mask.specs.declared.Mask.{Mask}
use Rattle.mask.specs.Masks.{member}
use Rattle.mask.proofs.Masks.{member-table}
use Rattle.ring.specs.declared.SlotState.{SlotState}
use Rattle.ring.specs.declared.SlotState.TheVariants.{Free, Filling, InFlight, Discarding}
use Rattle.ring.specs.Parts.{state_of}
use Rattle.ring.specs.Slots.{is_in_flight, is_discarding, is_out}
use Rattle.ring.proofs.Masks.{flying-bit, discarding-bit}
use Rattle.ring.proofs.Ring.is_out.Goals as goal

out-bits : (state : SlotState) → (is_in_flight state || is_discarding state) ≡ is_out state
unfolding is_in_flight is_discarding is_out
out-bits Free = refl
out-bits Filling = refl
out-bits InFlight = refl
out-bits Discarding = refl

pub returns : goal.returns
unfolding state_of
returns c =
    let states = c.args.self.now.states in
    let i = c.args.i in
    c.has.ensures
    ∙ ap (λ (m : Mask). member m i) c.union.ensures
    ∙ member-table _ i c.requires.1
    ∙ rw (flying-bit states c.requires.0 i c.requires.1, discarding-bit states c.requires.0 i c.requires.1) (out-bits (state_of c.args.self.now i))
