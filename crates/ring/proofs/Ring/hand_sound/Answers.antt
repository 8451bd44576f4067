-- `ring::Ring::hand_sound`: the symmetric difference of the two masks is empty where no slot is in one of them alone.
use Rattle.std.proofs.Common.{◌≡◌, Bool, not, ap, ◌∙◌}
use Rattle.std.specs.Bool.{beq}
use Rattle.mask.specs.declared.Mask.{Mask}
use Rattle.mask.specs.Masks.{member, mask_of, is_empty}
use Rattle.mask.proofs.Masks.{member-table, mask-ext}
use Rattle.ring.specs.declared.Hand.{Hand}
use Rattle.ring.specs.Slots.{holds}
use Rattle.ring.specs.Tests.{hand_test}
use Rattle.ring.proofs.Ring.hand_sound.Goals as goal

-- the two masks differ where the mask's slot and the hand's do
differs : (filling held : Mask) (hand : Hand) → held ≡ mask_of (holds hand) →
    mask_of (λ j. not (beq (member filling j) (member held j))) ≡ mask_of (λ j. not (beq (member filling j) (holds hand j)))
differs filling held hand e =
    mask-ext _ _ (λ j h. ap (λ (b : Bool). not (beq (member filling j) b)) (ap (λ (m : Mask). member m j) e ∙ member-table (holds hand) j h))

pub returns-then-within : goal.returns-then-within
unfolding hand_test
returns-then-within c =
    rw (← c.within.ensures, c.if-within.true)
    (c.is_empty.ensures
    ∙ ap is_empty (c.symmetric_difference.ensures ∙ differs c.args.self.now.states.filling _ c.args.hand c.mask.ensures))

pub returns-else-within : goal.returns-else-within
unfolding hand_test
returns-else-within c = rw (← c.within.ensures, c.if-within.false)
