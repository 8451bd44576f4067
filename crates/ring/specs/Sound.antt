-- Refusal 8, the part about the ring and the hand. The parts stand in the paper's order.
use Rattle.std.specs.Prelude.{ℕ, Bool, ◌&&◌, ◌==◌, nat_le, nat_lt}
use Rattle.std.specs.Bool.{beq}
use Rattle.ring.specs.declared.Hand.{Hand}
use Rattle.ring.specs.declared.Ring.{Ring}
use Rattle.ring.specs.Slots.{is_free, is_filling, is_out, one, holds, hand_within}
use Rattle.ring.specs.Masks.{in_masks}
use Rattle.ring.specs.Parts.{queue_of, state_of}
use Rattle.ring.specs.Counts.{every_slot, how_many, times, all_below}

-- A slot below n is in one mask at most, and a number at n or above in none (request 2026-11).
unfoldable pub masked_right : ℕ → Ring → ℕ → Bool
masked_right n ring i = nat_le (in_masks ring.states i) (one (nat_lt i n))

unfoldable pub masks_sound : ℕ → Ring → Bool
masks_sound n ring = every_slot 256 (masked_right n ring)

-- Slot i stands in the queue once if it is Free, and else not at all.
unfoldable pub queued_right : Ring → ℕ → Bool
queued_right ring i = times i (queue_of ring) == one (is_free (state_of ring i))

-- The queue lies within its 256 places, and each Free slot stands once in it and no other slot there.
unfoldable pub queue_sound : ℕ → Ring → Bool
queue_sound n ring = nat_le ring.free_len 256 && all_below n (queue_of ring) && every_slot n (queued_right ring)

-- The out count is how many slots are out.
unfoldable pub out_sound : ℕ → Ring → Bool
out_sound n ring = ring.in_flight == how_many n (λ i. is_out (state_of ring i))

-- Slot i is Filling exactly when it is in hand.
unfoldable pub held_right : Ring → Hand → ℕ → Bool
held_right ring hand i = beq (is_filling (state_of ring i)) (holds hand i)

-- The hand's slot is the only Filling one, none when Idle; left is 0 or 1.
unfoldable pub hand_sound : ℕ → Ring → Hand → Bool
hand_sound n ring hand = hand_within n hand && every_slot n (held_right ring hand)

-- A ring of n slots, at most 256, and a hand that break none of this.
unfoldable pub sound_ring : ℕ → Ring → Hand → Bool
sound_ring n ring hand = nat_le n 256 && masks_sound n ring && queue_sound n ring && out_sound n ring && hand_sound n ring hand
