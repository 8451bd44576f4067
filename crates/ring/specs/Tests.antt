-- The ring's part of refusal 8's test, as the calls make it: by whole masks, in pieces. Joined they are sound_ring (proofs/Joined). Only
-- internal functions promise these.
use Rattle.std.specs.Prelude.{ℕ, ◌+◌, ◌-◌, ◌%◌, ◌^◌, Bool, false, not, ◌&&◌, ◌||◌, cond, ltb, leb}
use Rattle.std.specs.Prelude.{List, Option, Some, None, ◌==◌, nat_le, nat_lt}
use Rattle.std.specs.Bool.{beq}
use Rattle.mask.specs.declared.Mask.{Mask}
use Rattle.mask.specs.Masks.{member, mask_of, is_empty}
use Rattle.ring.specs.declared.Hand.{Hand}
use Rattle.ring.specs.declared.Hand.TheVariants.{Idle, Held, Sending, Silent}
use Rattle.ring.specs.declared.Ring.{Ring}
use Rattle.ring.specs.Slots.{one, holds, hand_within}
use Rattle.ring.specs.Counts.{every_slot, times, all_below}

-- The hand is within its limits, and its mask is that of the Filling slots.
unfoldable pub hand_test : ℕ → Ring → Hand → Bool
hand_test n ring hand =
    hand_within n hand && is_empty (mask_of (λ i. not (beq (member ring.states.filling i) (holds hand i))))

-- How often slot i is at home: in the queue, and Filling.
unfoldable pub times_home : Mask → List ℕ → ℕ → ℕ
times_home filling queue i = times i queue + one (member filling i)

-- A queue of that length lies within its 256 places, its entries are below n, and no slot is at home twice.
unfoldable pub home_once : ℕ → Mask → ℕ → List ℕ → Bool
home_once n filling len queue =
    nat_le len 256 && all_below n queue && every_slot 256 (λ i. leb (times_home filling queue i) 1)

-- The slots at home.
unfoldable pub home_mask : Mask → List ℕ → Mask
home_mask filling queue = mask_of (λ i. ltb 0 (times_home filling queue i))

-- What a walk of the queue finds: the slots at home, if no slot is there twice.
unfoldable pub home_of : ℕ → Mask → ℕ → List ℕ → Option Mask
home_of n filling len queue = cond (home_once n filling len queue) (Some (home_mask filling queue)) None

-- Of a slot by whether it is at home, InFlight, Discarding and below n: it is both InFlight and Discarding; or below n, and both or neither
-- of at home and out; or at n or above, and one of these.
unfoldable pub both_or_neither : Bool → Bool → Bool → Bool → Bool
both_or_neither home flying discarding below =
    (flying && discarding) || not (beq (not (beq home (flying || discarding))) below)

unfoldable pub misplaced : ℕ → Ring → Mask → ℕ → Bool
misplaced n ring home i =
    both_or_neither (member home i) (member ring.states.in_flight i) (member ring.states.discarding i) (nat_lt i n)

-- No slot is at home twice, and none is misplaced.
unfoldable pub out_test : ℕ → Ring → Option Mask → Bool
out_test n ring (Some home) = is_empty (mask_of (misplaced n ring home))
out_test n ring None = false

-- How many slots the hand has.
unfoldable pub in_hand : Hand → ℕ
in_hand Idle = 0
in_hand (Held slot) = 1
in_hand (Sending slot) = 1
in_hand (Silent slot left) = 1

-- All slots but those in the queue and in hand are out. The sum wraps, as the code's does.
unfoldable pub count_test : ℕ → Ring → Hand → Bool
count_test n ring hand =
    let home = (ring.free_len + in_hand hand) % 2 ^ 64 in
    nat_le home n && ring.in_flight == n - home
