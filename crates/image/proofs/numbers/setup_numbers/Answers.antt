-- `image::setup_numbers` meets its contract: it lists the values, and its callees give policy and hand as numbers. Assumes nothing.
use mathlib.Core.Path.{◌≡◌, refl, ap, ◌∙◌}
use mathlib.Core.Bool.{Bool, true, false, cond}
use mathlib.Core.List.{List, [], ◌∷◌, ◌++◌}
use Prim.Native.Nat.{ℕ}
use lib.ListN.{get_or}
use mir.Val.{bool_byte}
use Rattle.layout.specs.Numbers.{setup_numbers}
use Rattle.ring.specs.declared.Hand.{Hand}
use Rattle.ring.specs.Slots.{one}
use Rattle.image.specs.Image.{hand_numbers, setup_for}
use Rattle.image.proofs.numbers.setup_numbers.Goals as goal

tag : (b : Bool) → bool_byte b ≡ cond b 1 0
tag true = refl
tag false = refl

flag : (b : Bool) → bool_byte b ≡ one b
unfolding one
flag true = refl
flag false = refl

abbrev three : List ℕ → List ℕ
three l = get_or l 0 0 ∷ get_or l 1 0 ∷ get_or l 2 0 ∷ []

-- a hand has three numbers
hand-three : (hand : Hand) → three (hand_numbers hand) ≡ hand_numbers hand
unfolding hand_numbers
hand-three Hand.Idle = refl
hand-three (Hand.Held i) = refl
hand-three (Hand.Sending i) = refl
hand-three (Hand.Silent i left) = refl

pub returns : goal.returns
unfolding setup_for setup_numbers
returns c =
    let s = c.args.setup in
    let policy = c.policy_number.ensures in
    let tagged = c.from.ensures ∙ tag s.tagged in
    let hand = ap three c.hand_numbers.ensures ∙ hand-three c.args.hand in
    let started = c.from-2.ensures ∙ flag c.args.flags.started in
    let armed = c.from-3.ensures ∙ flag c.args.flags.armed in
    λ i.
    s.slots
    ∷ s.packets_per_urb
    ∷ s.packet_bytes
    ∷ s.endpoint
    ∷ policy i
    ∷ s.silence_byte
    ∷ s.base
    ∷ tagged i
    ∷ s.frame_bytes
    ∷ (hand i ++ (started i ∷ armed i ∷ []))
