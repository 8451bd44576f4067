-- `image::write_image` meets its contract: the parts are stored one behind the other, and the image is the parts in a row. Assumes nothing.
use mathlib.Core.Path.{◌≡◌, ◌∙◌}
use mathlib.Core.Bool.{true}
use mathlib.Core.List.{List}
use Prim.Native.Nat.{ℕ, ◌+◌, ◌≤◌}
use native.Mathlib.Omega.{arith}
use lib.ListN.{length}
use Rattle.sys.specs.Bytes.{store}
use Rattle.stream.specs.declared.IsoStats.{IsoStats}
use Rattle.stream.specs.declared.Stream.{Stream}
use Rattle.stream.specs.Sound.{sound}
use Rattle.stream.proofs.Soundness.{ring-sound}
use Rattle.stream.proofs.Arrays.{arrays}
use Rattle.encoding.specs.Words.{words}
use Rattle.image.specs.Image.{counter_numbers}
use Rattle.image.specs.Reading.{counters_at, image_size}
use Rattle.encoding.proofs.Laid.{length-words}
use Rattle.image.proofs.Stored.{image-stored}
use Rattle.image.proofs.write.write_image.Goals as goal

few : (s : Stream) → sound s ≡ true → s.setup.slots ≤ 256
few s ok = (ring-sound s ok).few

-- room for the counters
room : (n at len : ℕ) (t : IsoStats) (numbers : List ℕ) → at ≡ counters_at n → numbers ≡ counter_numbers t → image_size n ≤ len → at + length (words 8 numbers) ≤ len
unfolding counter_numbers
room n at len t numbers e p h = rw (e, p, length-words 8 (counter_numbers t)) (omega arith)

-- the counters in their place
counted : (n at : ℕ) (t : IsoStats) (numbers l m : List ℕ) → m ≡ store at (words 8 numbers) l → at ≡ counters_at n → numbers ≡ counter_numbers t → m ≡ store (counters_at n) (words 8 (counter_numbers t)) l
counted n at t numbers l m is e p = is ∙ rw (e, p)

pub write_head-requires : goal.write_head-requires
write_head-requires c =
    (few c.args.s c.requires.0, omega (arith, c.requires.1))

pub write_ring-requires : goal.write_ring-requires
write_ring-requires c =
    (few c.args.s c.requires.0, omega (arith, c.requires.1, c.write_head.auto.image))

pub counters_at-requires : goal.counters_at-requires
counters_at-requires c = few c.args.s c.requires.0

pub put_words-requires : goal.put_words-requires
put_words-requires c =
    room c.args.s.setup.slots _ _ c.args.s.stats _ c.counters_at.ensures c.counter_numbers.ensures
    (omega (arith, c.requires.1, c.write_ring.auto.image, c.write_head.auto.image))

pub returns : goal.returns
returns c =
    let s = c.args.s in
    image-stored s c.requires.0 (arrays s c.well_formed.0) c.args.image.now _ _ _
    c.write_head.ensures c.write_ring.ensures
    (counted s.setup.slots _ s.stats _ _ _ c.put_words.ensures c.counters_at.ensures c.counter_numbers.ensures)
