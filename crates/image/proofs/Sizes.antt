-- How long an image is and where its parts stand: a part's length is its width times its numbers, and the setup part has 14 numbers, whatever
-- the hand. Where there are n states, the header's offsets are therefore those at which the parts are read. Assumes nothing.
use Prim.Native.Nat.{ℕ, ◌+◌, ◌*◌}
use native.Mathlib.Omega.{arith}
use mathlib.Core.Path.{◌≡◌, refl, ap, ap₂, ◌∙◌}
use mathlib.Core.List.{List, [], ◌∷◌, ◌++◌, append-nil, map}
use lib.ListN.{length, get_or, length-append, length-map}
use Rattle.layout.specs.declared.Setup.{Setup}
use Rattle.encoding.specs.Codes.{state_number}
use Rattle.ring.specs.Parts.{state_of}
use Rattle.ring.proofs.Numbers.{table-long}
use Rattle.stream.specs.declared.IsoStats.{IsoStats}
use Rattle.stream.specs.declared.Stream.{Stream}
use Rattle.ledger.specs.Ledger.{Ledger, state_in}
use Rattle.ledger.specs.Shown.{Shown, shown_by, shown_in}
use Rattle.encoding.specs.Words.{words, places}
use Rattle.image.specs.Parts.{bytes_of, starts}
use Rattle.image.specs.Image.{counter_numbers, setup_for, setup_part, states_part, queue_part, counters_part, parts_of, header_part, image_of, image, ledger_image}
use Rattle.image.specs.Reading.{states_at, queue_at, counters_at, image_size, header_for}
use Rattle.encoding.proofs.Laid.{length-words}
use Rattle.image.proofs.Head.{count-setup, length-setup, length-header}

pub places-long : (n : ℕ) (queue : List ℕ) → length (places n queue) ≡ n
unfolding places
places-long n queue = table-long (λ i. get_or queue i 0) n

pub counters-long : (t : IsoStats) → length (counter_numbers t) ≡ 8
unfolding counter_numbers
counters-long t = refl

-- a part of k numbers
pub part-long : (w k : ℕ) (vs : List ℕ) → length vs ≡ k → length (words w vs) ≡ w * k
part-long w k vs e = length-words w vs ∙ ap (λ (n : ℕ). w * n) e

module _ (s : Setup) (x : Shown) (long : length x.states ≡ s.slots) where
  states-long : length (map state_number x.states) ≡ s.slots
  states-long = length-map x.states state_number ∙ long

  pub header-numbers : (header_part s x).numbers ≡ header_for s.slots (length x.queue)
  unfolding header_part header_for parts_of starts setup_part states_part queue_part counters_part
  header-numbers =
      let n = s.slots in
      let setup = count-setup s x.hand x.started x.armed in
      let queue = places-long n x.queue in
      let states-at : 24 + 8 * length (setup_for s x.hand x.started x.armed) ≡ states_at = rw setup in
      let queue-at : 24 + 8 * length (setup_for s x.hand x.started x.armed) + 1 * length (map state_number x.states) ≡ queue_at n = omega (arith, states-long) in
      let counters-at : 24 + 8 * length (setup_for s x.hand x.started x.armed) + 1 * length (map state_number x.states) + 4 * length (places n x.queue) ≡ counters_at n = omega (arith, states-long) in
      λ i. n ∷ length x.queue ∷ 24 ∷ states-at i ∷ queue-at i ∷ counters-at i ∷ []

  -- the image is its parts in a row
  pub image-parts :
      image_of s x
      ≡ words 4 (header_for s.slots (length x.queue))
      ++ (words 8 (setup_for s x.hand x.started x.armed)
      ++ (words 1 (map state_number x.states)
      ++ (words 4 (places s.slots x.queue)
      ++ words 8 (counter_numbers x.counters))))
  unfolding image_of bytes_of parts_of header_part setup_part states_part queue_part counters_part
  image-parts =
      let setup = words 8 (setup_for s x.hand x.started x.armed) in
      let states = words 1 (map state_number x.states) in
      let queue = words 4 (places s.slots x.queue) in
      ap₂ (λ (header : List ℕ) (counters : List ℕ). words 4 header ++ (setup ++ (states ++ (queue ++ counters))))
      header-numbers (append-nil (words 8 (counter_numbers x.counters)))

  pub image-long : length (image_of s x) ≡ image_size s.slots
  image-long =
      ap length image-parts
      ∙ simp (
        length-append,
        length-header s.slots (length x.queue),
        length-setup s x.hand x.started x.armed,
        part-long 1 s.slots (map state_number x.states) states-long,
        part-long 4 s.slots (places s.slots x.queue) (places-long s.slots x.queue),
        part-long 8 8 (counter_numbers x.counters) (counters-long x.counters),
      ) (omega arith)

-- a record and a ledger show n states
pub shown-by-long : (r : Stream) → length (shown_by r).states ≡ r.setup.slots
unfolding shown_by
shown-by-long r = table-long (state_of r.ring) r.setup.slots

pub shown-in-long : (s : Setup) (l : Ledger) → length (shown_in s l).states ≡ s.slots
unfolding shown_in
shown-in-long s l = table-long (state_in l) s.slots

pub record-image-long : (r : Stream) → length (image r) ≡ image_size r.setup.slots
unfolding image
record-image-long r = image-long r.setup (shown_by r) (shown-by-long r)

pub ledger-image-long : (s : Setup) (l : Ledger) → length (ledger_image s l) ≡ image_size s.slots
unfolding ledger_image
ledger-image-long s l = image-long s (shown_in s l) (shown-in-long s l)
