-- The layout is that of the setup, so the values are the slot's places, and their bounds are those of every slot of an admissible setup.
use Rattle.std.proofs.Common.{◌≡◌, ℕ, ◌≤◌, ◌<◌, true, arith, rules}
use Rattle.layout.specs.declared.Setup.{Setup}
use Rattle.layout.specs.Layout.{largest}
use Rattle.layout.specs.Opening.{admissible}
use Rattle.layout.specs.Places.{places_of, Placed}
use Rattle.layout.proofs.Admission.{admits}
use Rattle.layout.proofs.Slots.{placed}
use Rattle.layout.proofs.Setup.places.Goals as goal

known : (s : Setup) (i : ℕ) → admissible s ≡ true → s.base ≤ largest → i < s.slots → Placed s i (places_of s i)
known s i a h l = placed s i (admits s a) h l

pub layout_of-layout-requires : goal.layout_of-layout-requires
layout_of-layout-requires c = (admits _ c.requires.0).limits

pub whole_frames-fill-requires : goal.whole_frames-fill-requires
whole_frames-fill-requires c = (admits _ c.requires.0).limits.some-frame

pub overflow_mul-header : goal.overflow_mul-header
unfolding places_of
overflow_mul-header c =
    rw c.layout_of-layout.ensures (omega (arith, known c.args.self c.args.i c.requires.0 (search rules) c.requires.1))

pub overflow_add-result : goal.overflow_add-result
unfolding places_of
overflow_add-result c =
    rw c.layout_of-layout.ensures (omega (arith, known c.args.self c.args.i c.requires.0 (search rules) c.requires.1))

pub overflow_mul-result : goal.overflow_mul-result
unfolding places_of
overflow_mul-result c =
    rw c.layout_of-layout.ensures (omega (arith, known c.args.self c.args.i c.requires.0 (search rules) c.requires.1))

pub overflow_add-result-2 : goal.overflow_add-result-2
unfolding places_of
overflow_add-result-2 c =
    rw c.layout_of-layout.ensures (omega (arith, known c.args.self c.args.i c.requires.0 (search rules) c.requires.1))

pub returns : goal.returns
unfolding places_of
returns c =
    rw (c.layout_of-layout.ensures, c.whole_frames-fill.ensures) (known c.args.self c.args.i c.requires.0 (search rules) c.requires.1)
