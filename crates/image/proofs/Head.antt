-- Header and setup of an image: how long they are, and that the header's numbers fit their four bytes. By counting. Assumes nothing.
use Prim.Native.Nat.{ℕ, ◌+◌, ◌*◌, ◌^◌, ◌≤◌, ◌<◌}
use native.Mathlib.Omega.{arith}
use native.Mathlib.Decide.{dec_lt}
use mathlib.Core.Path.{◌≡◌, refl, ap, ◌∙◌}
use mathlib.Core.Bool.{Bool, true}
use mathlib.Core.List.{List}
use borrow.Author.Tests.{lt-ltb}
use lib.ListN.{length, get_or, length-append, get_or-eq_default}
use Rattle.layout.specs.declared.Setup.{Setup}
use Rattle.layout.specs.Numbers.{setup_numbers}
use Rattle.ring.specs.declared.Hand.{Hand}
use Rattle.ring.specs.Counts.{all_below}
use Rattle.ring.proofs.Counts.{below_at}
use Rattle.encoding.specs.Words.{words}
use Rattle.image.specs.Image.{hand_numbers, setup_for}
use Rattle.image.specs.Reading.{queue_at, counters_at, image_size, header_for}
use Rattle.encoding.proofs.Laid.{length-words}

pub length-header : (n used : ℕ) → length (words 4 (header_for n used)) ≡ 24
unfolding header_for
length-header n used = length-words 4 (header_for n used)

pub length-hand : (hand : Hand) → length (hand_numbers hand) ≡ 3
unfolding hand_numbers
length-hand Hand.Idle = refl
length-hand (Hand.Held i) = refl
length-hand (Hand.Sending i) = refl
length-hand (Hand.Silent i left) = refl

module _ (s : Setup) (hand : Hand) (started armed : Bool) where
  pub count-setup : length (setup_for s hand started armed) ≡ 14
  unfolding setup_for setup_numbers
  count-setup = simp (length-append, length-hand hand)

  pub length-setup : length (words 8 (setup_for s hand started armed)) ≡ 112
  length-setup = length-words 8 (setup_for s hand started armed) ∙ ap (λ (k : ℕ). 8 * k) count-setup

-- each of the header's numbers is below 2^32
header-below : (n used : ℕ) → n ≤ 256 → used ≤ 256 → all_below (256 ^ 4) (header_for n used) ≡ true
unfolding header_for all_below
header-below n used few short =
    rw (lt-ltb n (256 ^ 4) (omega arith), lt-ltb used (256 ^ 4) (omega arith), lt-ltb (queue_at n) (256 ^ 4) (omega arith), lt-ltb (counters_at n) (256 ^ 4) (omega arith))

pub header-fits : (n used : ℕ) → n ≤ 256 → used ≤ 256 → (i : ℕ) → get_or (header_for n used) i 0 < 256 ^ 4
unfolding header_for
header-fits n used few short i = at (dec_lt i 6)
  where
    at : Dec (i < 6) → get_or (header_for n used) i 0 < 256 ^ 4
    at (yes h) = below_at (256 ^ 4) (header_for n used) (header-below n used few short) i h
    at (no h) = rw (get_or-eq_default (header_for n used) 0 {n = i} (omega arith)) (omega arith)

-- a buffer with room for an image of no slots has room for both
pub header-room : (n used : ℕ) (numbers : List ℕ) (room : ℕ) → numbers ≡ header_for n used → image_size 0 ≤ room → 0 + length (words 4 numbers) ≤ room
header-room n used numbers room e h = rw (e, length-header) (omega arith)

pub setup-room : (s : Setup) (hand : Hand) (started armed : Bool) (numbers : List ℕ) (room : ℕ) → numbers ≡ setup_for s hand started armed → image_size 0 ≤ room → 24 + length (words 8 numbers) ≤ room
setup-room s hand started armed numbers room e h = rw (e, length-setup s hand started armed) (omega arith)
