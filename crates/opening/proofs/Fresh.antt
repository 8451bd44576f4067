-- Laws of the record that opening makes: it is sound, its tables have their 256 places, and the one that comes with a refusal is not sound.
-- All slots are Free and each stands once in the queue. Assumes nothing.
use Prim.Native.Nat.{ℕ, zero, suc, ◌-◌, ◌≤◌}
use native.Mathlib.Omega.{arith}
use mathlib.Core.Path.{◌≡◌, refl, sym, ap}
use mathlib.Core.Bool.{Bool, true, false}
use lib.ListN.{replicate, length-append, length-replicate}
use lib.Seq.{take_at}
use Rattle.layout.specs.declared.Setup.{Setup}
use Rattle.layout.specs.Tests.{first, passed}
use Rattle.layout.specs.Layout.{sizes}
use Rattle.layout.specs.Opening.{limits, admissible}
use Rattle.layout.proofs.Admission.{admits}
use Rattle.ring.specs.declared.Hand.{Hand}
use Rattle.ring.specs.declared.SlotState.{SlotState}
use Rattle.ring.specs.Slots.{is_free, is_filling, is_in_flight, is_discarding, is_out, one, holds, hand_within}
use Rattle.ring.specs.Parts.{queue_of, state_of, free_ring}
use Rattle.ring.specs.Counts.{slot_numbers, how_many}
use Rattle.ring.proofs.Sound.{Sound, facts-sound}
use Rattle.ring.proofs.Numbers.{length-numbers, numbers-once, numbers-below}
use Rattle.ring.proofs.Masks.{in-masks, masks-fit}
use Rattle.ring.proofs.States.{all-free}
use Rattle.ring.proofs.Wide.{Wide}
use Rattle.stream.specs.Sound.{sound}
use Rattle.layout.specs.Numbers.{setup_from}
use Rattle.opening.specs.Opened.{opened_stream, no_setup, no_stream}

-- the queue is 0..n-1
pub queue-all : (n : ℕ) → queue_of (free_ring n) ≡ slot_numbers n
unfolding queue_of free_ring
queue-all n = take_at (slot_numbers n) (replicate (256 - n) 0) n (length-numbers n)

-- none of n passes
none-count : (test : ℕ → Bool) → ((i : ℕ) → test i ≡ false) → (n : ℕ) → how_many n test ≡ 0
unfolding how_many one
none-count test p zero = refl
none-count test p (suc n) = rw (p n, none-count test p n)

fresh-facts : (n : ℕ) → n ≤ 256 → Sound n (free_ring n) Hand.Idle
unfolding is_free is_filling is_in_flight is_discarding is_out one holds hand_within free_ring
fresh-facts n h =
    record {
      few = h;
      single = λ i l. rw (in-masks (λ j. SlotState.Free) i l) (omega arith);
      short = h;
      below = rw (queue-all n) (numbers-below n n (omega arith));
      queued = λ i l. rw (queue-all n, all-free n i) (numbers-once i n l);
      out = sym (none-count (λ i. is_out (state_of (free_ring n) i)) (λ i. ap is_out (all-free n i)) n);
      within = refl;
      held = λ i l. ap is_filling (all-free n i);
    }

pub opened-sound : (s : Setup) → admissible s ≡ true → sound (opened_stream s) ≡ true
unfolding sound opened_stream
opened-sound s a =
    rw (a, facts-sound s.slots (free_ring s.slots) Hand.Idle (fresh-facts s.slots (admits s a).limits.slots))

pub free-wide : (n : ℕ) → n ≤ 256 → Wide (free_ring n)
unfolding free_ring
free-wide n h =
    record {
      states = masks-fit (λ i. SlotState.Free);
      places = rw (length-append, length-numbers n, length-replicate) (omega arith);
    }

pub opened-wide : (s : Setup) → admissible s ≡ true → Wide (opened_stream s).ring
unfolding opened_stream
opened-wide s a = free-wide s.slots (admits s a).limits.slots

-- opening refuses the values of the record of no slots, so every call gives 8 on that record
pub no-setup-refused : admissible no_setup ≡ false
unfolding no_setup setup_from admissible limits sizes first passed
no-setup-refused = refl

pub no-stream-unsound : sound no_stream ≡ false
unfolding sound no_stream opened_stream
no-stream-unsound = rw no-setup-refused
