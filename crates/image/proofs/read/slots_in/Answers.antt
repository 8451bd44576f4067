-- `image::slots_in` meets its contract: bytes too short or of too many slots do not begin with the image of what stands in them. Assumes nothing.
use mathlib.Core.Path.{◌≡◌, refl, ◌∙◌}
use mathlib.Core.Bool.{false, ◌&&◌, and-false}
use mathlib.Core.List.{List}
use Prim.Native.Nat.{ℕ, ◌≤◌, ◌<◌}
use native.Mathlib.Omega.{arith}
use borrow.Author.Tests.{lt-leb}
use lib.Dec.{leb}
use lib.ListN.{length}
use Rattle.sys.specs.Bytes.{field}
use Rattle.layout.specs.Numbers.{setup_from}
use Rattle.ring.specs.Counts.{table}
use Rattle.ring.proofs.Truth.{refuted}
use Rattle.encoding.specs.Words.{numbers_at}
use Rattle.image.specs.Image.{image}
use Rattle.image.specs.Reading.{setup_at, image_size, setup_in, record_in, matches, Roomy}
use Rattle.encoding.proofs.Bytes.{begins-long}
use Rattle.image.proofs.Sizes.{record-image-long}
use Rattle.image.proofs.read.slots_in.Goals.{else-n-le256-via-then-n-le256+else-size-image, else-n-le256-via-else-n-le256}
use Rattle.image.proofs.read.slots_in.Goals as goal

-- an image is as long as its size
short : (bytes : List ℕ) → length bytes < image_size (setup_in bytes).slots → matches bytes ≡ false
unfolding matches record_in
short bytes h =
    refuted (matches bytes) (λ e. omega (arith, begins-long (image (record_in bytes)) bytes e, record-image-long (record_in bytes)))

-- the first of the setup's numbers
slots_at : (bytes : List ℕ) → field setup_at 8 bytes ≡ (setup_in bytes).slots
unfolding setup_in setup_from numbers_at table
slots_at bytes = refl

-- what the bytes are not the image of
abbrev None-in : List ℕ → Type 0
None-in bytes = (leb (setup_in bytes).slots 256 && matches bytes) ≡ false

off : (bytes : List ℕ) → length bytes < image_size (setup_in bytes).slots → None-in bytes
off bytes h = rw (short bytes h, and-false (leb (setup_in bytes).slots 256))

many : (bytes : List ℕ) (n : ℕ) → n ≡ field setup_at 8 bytes → 256 < n → None-in bytes
many bytes n is h = rw (lt-leb (setup_in bytes).slots 256 (rw (← slots_at bytes, ← is) h))

roomy : (bytes : List ℕ) (n size : ℕ) → n ≡ field setup_at 8 bytes → n ≤ 256 → size ≡ image_size n → size ≤ length bytes → Roomy n bytes
roomy bytes n size is few e h = record { slots = is ∙ slots_at bytes; few = few; long = omega arith }

unroomy : (bytes : List ℕ) (n size : ℕ) → n ≡ field setup_at 8 bytes → size ≡ image_size n → length bytes < size
    → length bytes < image_size (setup_in bytes).slots
unroomy bytes n size is e h = rw (← slots_at bytes, ← is, ← e) h

pub returns-then-image-lt-LEAST_SIZE : goal.returns-then-image-lt-LEAST_SIZE
returns-then-image-lt-LEAST_SIZE c = off _ (omega arith)

pub returns-then-size-image : goal.returns-then-size-image
returns-then-size-image c = roomy _ _ _ c.get_u64-n.ensures c.if-n-le256.true c.size.ensures c.if-size-image.true

pub returns-else-n-le256 : goal.returns-else-n-le256
returns-else-n-le256 c =
    elim c.else-n-le256.branch [
      | else-n-le256-via-then-n-le256+else-size-image w ↦ off _ (unroomy _ _ _ c.get_u64-n.ensures w.size.ensures w.if-size-image.false)
      | else-n-le256-via-else-n-le256 w ↦ many _ _ c.get_u64-n.ensures w.if-n-le256.false
    ]
