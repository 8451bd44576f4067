-- `ring::Ring::out_sound`: the operations on masks are the test at each slot.
use Rattle.std.proofs.Common.{◌≡◌, ℕ, not, ◌&&◌, ◌||◌, ltb, ap, ◌∙◌}
use Rattle.std.specs.Bool.{beq}
use Rattle.mask.specs.declared.Mask.{Mask}
use Rattle.mask.specs.Masks.{member, mask_of, is_empty}
use Rattle.mask.proofs.Masks.{member-table, mask-ext}
use Rattle.ring.specs.Tests.{both_or_neither, misplaced, out_test}
use Rattle.ring.proofs.Ring.out_sound.Goals as goal

-- the six masks that the test makes, and what the last has at each slot
tested : (home flying discarding twice out placed below wrong : Mask) (n : ℕ)
    → twice ≡ mask_of (λ j. member flying j && member discarding j)
    → out ≡ mask_of (λ j. member flying j || member discarding j)
    → placed ≡ mask_of (λ j. not (beq (member home j) (member out j)))
    → below ≡ mask_of (λ j. ltb j n)
    → wrong ≡ mask_of (λ j. not (beq (member placed j) (member below j)))
    → mask_of (λ j. member twice j || member wrong j) ≡ mask_of (λ j. both_or_neither (member home j) (member flying j) (member discarding j) (ltb j n))
unfolding both_or_neither
tested home flying discarding twice out placed below wrong n t o p b w =
    mask-ext _ _
    (λ j h.
    rw (
      w,
      member-table (λ k. not (beq (member placed k) (member below k))) j h,
      b,
      member-table (λ k. ltb k n) j h,
      p,
      member-table (λ k. not (beq (member home k) (member out k))) j h,
      o,
      member-table (λ k. member flying k || member discarding k) j h,
      t,
      member-table (λ k. member flying k && member discarding k) j h,
    ))

pub returns : goal.returns
unfolding out_test misplaced
returns c =
    rw c.in-Some.is
    (c.is_empty.ensures
    ∙ ap is_empty
    (c.union-2.ensures
    ∙ tested c.in-Some.slots c.args.self.now.states.in_flight c.args.self.now.states.discarding _ _ _ _ _ c.args.n
    c.intersection-twice.ensures c.union.ensures c.symmetric_difference-placed.ensures
    c.below.ensures c.symmetric_difference.ensures))

pub returns-in_default : goal.returns-in_default
unfolding out_test
returns-in_default c = rw c.in_default.is
