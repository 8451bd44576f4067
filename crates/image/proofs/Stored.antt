-- The parts of a record's image, stored one behind the other, are its image stored: the image is its parts in a row, and a state's number is the byte
-- that stands for it. Assumes nothing.
use Prim.Native.Nat.{ℕ, ◌+◌, ◌*◌}
use native.Mathlib.Omega.{arith}
use mathlib.Core.Path.{◌≡◌, refl, sym, ap, ap₂, ◌∙◌}
use mathlib.Core.Bool.{true}
use mathlib.Core.List.{List, [], ◌∷◌, ◌++◌, map}
use lib.ListN.{length}
use Rattle.sys.specs.Bytes.{le, store}
use Rattle.sys.proofs.Store.{store-append}
use Rattle.ring.specs.declared.SlotState.{SlotState}
use Rattle.ring.specs.Counts.{table}
use Rattle.encoding.specs.Codes.{state_number}
use Rattle.ring.specs.Parts.{queue_of, state_of}
use Rattle.encoding.proofs.StateNumbers.{state-small}
use Rattle.ring.proofs.Numbers.{table-long}
use Rattle.ring.proofs.Queue.{queue_long}
use Rattle.ring.proofs.Wide.{Wide}
use Rattle.stream.specs.declared.Stream.{Stream}
use Rattle.stream.specs.Sound.{sound}
use Rattle.stream.proofs.Soundness.{ring-sound}
use Rattle.ledger.specs.Shown.{shown_by}
use Rattle.encoding.specs.Words.{words, places}
use Rattle.image.specs.Image.{counter_numbers, setup_for, image}
use Rattle.image.specs.Reading.{setup_at, states_at, queue_at, counters_at, header_for}
use Rattle.image.proofs.Head.{length-header, length-setup}
use Rattle.image.proofs.Matches.{map-table}
use Rattle.image.proofs.Sizes.{image-parts, shown-by-long, part-long, places-long}

-- states are bytes already
state-words : (xs : List SlotState) → words 1 (map state_number xs) ≡ map state_number xs
unfolding words le
state-words [] = refl
state-words (x ∷ xs) =
    ap₂ (λ (v : ℕ) (vs : List ℕ). v ∷ vs) (omega (arith, state-small x)) (state-words xs)

-- a part, and those behind it
stored-behind : (at k : ℕ) (us vs l : List ℕ) → length us ≡ k → store at (us ++ vs) l ≡ store (at + k) vs (store at us l)
stored-behind at k us vs l e = store-append at us vs l ∙ ap (λ (n : ℕ). store (at + n) vs (store at us l)) e

module _ (s : Stream) (ok : sound s ≡ true) (wide : Wide s.ring) where
  n : ℕ
  n = s.setup.slots

  header : List ℕ
  header = words 4 (header_for s.setup.slots s.ring.free_len)

  setup : List ℕ
  setup = words 8 (setup_for s.setup s.hand s.flags.started s.flags.armed)

  states : List ℕ
  states = table (λ i. state_number (state_of s.ring i)) s.setup.slots

  queue : List ℕ
  queue = words 4 (places s.setup.slots (queue_of s.ring))

  counters : List ℕ
  counters = words 8 (counter_numbers s.stats)

  in_a_row : image s ≡ header ++ (setup ++ (states ++ (queue ++ counters)))
  unfolding image shown_by header setup states queue counters
  in_a_row =
      let used : length (queue_of s.ring) ≡ s.ring.free_len = queue_long s.ring (omega (arith, (ring-sound s ok).short, wide.places)) in
      let codes : words 1 (map state_number (table (state_of s.ring) s.setup.slots)) ≡ states =
      state-words (table (state_of s.ring) s.setup.slots) ∙ map-table state_number (state_of s.ring) s.setup.slots in
      image-parts s.setup (shown_by s) (shown-by-long s)
      ∙ (λ i. words 4 (header_for s.setup.slots (used i)) ++ (setup ++ (codes i ++ (queue ++ counters))))

  pub image-stored : (l l1 l2 l3 : List ℕ)
      → l1 ≡ store setup_at (words 8 (setup_for s.setup s.hand s.flags.started s.flags.armed)) (store 0 (words 4 (header_for s.setup.slots s.ring.free_len)) l)
      → l2 ≡ store (queue_at s.setup.slots) (words 4 (places s.setup.slots (queue_of s.ring))) (store states_at (table (λ i. state_number (state_of s.ring i)) s.setup.slots) l1)
      → l3 ≡ store (counters_at s.setup.slots) (words 8 (counter_numbers s.stats)) l2
      → l3 ≡ store 0 (image s) l
  unfolding header setup states queue counters
  image-stored l l1 l2 l3 first second third =
      let m = s.setup.slots in
      third
      ∙ rw (second, first)
      (sym
      (ap (λ (b : List ℕ). store 0 b l) in_a_row
      ∙ stored-behind 0 24 header _ l (length-header m s.ring.free_len)
      ∙ stored-behind 24 112 setup _ _ (length-setup s.setup s.hand s.flags.started s.flags.armed)
      ∙ stored-behind states_at m states _ _ (table-long _ m)
      ∙ stored-behind (queue_at m) (4 * m) queue counters _ (part-long 4 m _ (places-long m _))))
