-- What the parts decide: the bytes begin with the image of the record that stands in them exactly when header, setup, states and queue each begin
-- with their part's numbers; the counters always do, since every 8 bytes are a number. Assumes nothing.
use Prim.Native.Nat.{ℕ, zero, suc, ◌+◌, ◌*◌, ◌≤◌, ◌<◌, min}
use native.Mathlib.Nat.{min-le_right, min-eq_left}
use native.Mathlib.Omega.{arith}
use mathlib.Core.Path.{◌≡◌, refl, sym, ap, ◌∙◌}
use mathlib.Core.Bool.{Bool, true, ◌&&◌, and_assoc, and-true}
use mathlib.Core.List.{List, ◌++◌, map, map-append}
use lib.ListN.{length, take, drop, get_or, length-append, length-replicate, length-map, length-take, take-append-drop}
use lib.Seq.{drop-drop, get_or-take, get_or-drop}
use Rattle.sys.specs.Bytes.{field}
use Rattle.layout.specs.declared.Setup.{Setup}
use Rattle.ring.specs.declared.Hand.{Hand}
use Rattle.ring.specs.declared.SlotState.{SlotState}
use Rattle.ring.specs.Counts.{table}
use Rattle.encoding.specs.Codes.{state_number, state_from}
use Rattle.ring.specs.Parts.{queue_of, state_of}
use Rattle.ring.proofs.Numbers.{table-long, table_same}
use Rattle.ring.proofs.Restored.{with-queue, with-state, with-wide}
use Rattle.ring.proofs.Wide.{Wide}
use Rattle.stream.specs.declared.Flags.{Flags}
use Rattle.ledger.specs.Shown.{shown_by}
use Rattle.encoding.specs.Words.{words, numbers_at, places, begins}
use Rattle.image.specs.Image.{counter_numbers, setup_for, image}
use Rattle.image.specs.Reading.{setup_at, states_at, queue_at, counters_at, image_size, header_for, stats_from, setup_in, hand_in, flags_in, queue_in, ring_in, record_in, matches, Roomy}
use Rattle.encoding.proofs.Laid.{Bytes, begins-append}
use Rattle.encoding.proofs.Bytes.{begins-same, words_back}
use Rattle.image.proofs.Head.{length-header, length-setup}
use Rattle.image.proofs.Sizes.{image-parts, shown-by-long, part-long, places-long}

-- a table mapped is a table
pub map-table : (f : SlotState → ℕ) (g : ℕ → SlotState) (n : ℕ) → map f (table g n) ≡ table (λ i. f (g i)) n
unfolding table
map-table f g zero = refl
map-table f g (suc n) = rw (map-append, map-table f g n)

-- two parts, one behind the other
behind : (at k : ℕ) (xs ys bytes : List ℕ) → length xs ≡ k → begins (xs ++ ys) (drop at bytes) ≡ (begins xs (drop at bytes) && begins ys (drop (at + k) bytes))
behind at k xs ys bytes e =
    begins-append xs ys (drop at bytes)
    ∙ ap (λ (l : List ℕ). begins xs (drop at bytes) && begins ys l) (drop-drop (length xs) at bytes ∙ ap (λ (m : ℕ). drop (at + m) bytes) e)

-- the parts of the image of what stands in the bytes
abbrev used : List ℕ → ℕ
used bytes = min (field 4 4 bytes) (setup_in bytes).slots

abbrev header : List ℕ → List ℕ
header bytes = words 4 (header_for (setup_in bytes).slots (used bytes))

abbrev setup : List ℕ → List ℕ
setup bytes = words 8 (setup_for (setup_in bytes) (hand_in bytes) (flags_in bytes).started (flags_in bytes).armed)

abbrev states : List ℕ → List ℕ
states bytes = words 1 (table (λ i. state_number (state_from (get_or bytes (states_at + i) 0))) (setup_in bytes).slots)

abbrev queue : List ℕ → List ℕ
queue bytes = words 4 (places (setup_in bytes).slots (take (used bytes) (queue_in (setup_in bytes).slots bytes)))

abbrev counters : List ℕ → List ℕ
counters bytes = words 8 (counter_numbers (record_in bytes).stats)

module _ (bytes : List ℕ) where
  module _ (few : (setup_in bytes).slots ≤ 256) where
    queue-places : length (queue_in (setup_in bytes).slots bytes) ≡ 256
    unfolding queue_in numbers_at
    queue-places = rw (length-append, length-map, table-long, length-replicate) (omega arith)

    pub record-wide : Wide (record_in bytes).ring
    unfolding record_in ring_in
    record-wide = with-wide _ _ _ _ queue-places

    record-queue : queue_of (record_in bytes).ring ≡ take (used bytes) (queue_in (setup_in bytes).slots bytes)
    unfolding record_in ring_in
    record-queue = with-queue _ _ _ _

    record-used : length (queue_of (record_in bytes).ring) ≡ used bytes
    record-used =
        let short = min-le_right (field 4 4 bytes) (setup_in bytes).slots in
        rw (record-queue, length-take, queue-places) (min-eq_left (omega arith))

    -- a state stands in its byte
    record-state : (i : ℕ) → i < (setup_in bytes).slots → state_of (record_in bytes).ring i ≡ state_from (get_or bytes (states_at + i) 0)
    unfolding record_in ring_in
    record-state i h =
        with-state _ _ _ _ few i h ∙ ap state_from (get_or-take (setup_in bytes).slots (drop states_at bytes) i 0 h ∙ get_or-drop states_at bytes i 0)

    record-states : map state_number (shown_by (record_in bytes)).states ≡ table (λ i. state_number (state_from (get_or bytes (states_at + i) 0))) (setup_in bytes).slots
    unfolding shown_by record_in
    record-states =
        map-table state_number (state_of (record_in bytes).ring) (setup_in bytes).slots
        ∙ table_same _ _ (setup_in bytes).slots (λ i h. ap state_number (record-state i h))

    module _ (long : image_size (setup_in bytes).slots ≤ length bytes) (below : Bytes bytes) where
      -- whatever bytes stand there are the counters that were read
      counters-match : begins (words 8 (counter_numbers (record_in bytes).stats)) (drop (counters_at (setup_in bytes).slots) bytes) ≡ true
      unfolding counter_numbers record_in stats_from numbers_at table
      counters-match =
          let at = counters_at (setup_in bytes).slots in
          let there : words 8 (numbers_at 8 8 at bytes) ≡ take 64 (drop at bytes) = words_back 8 8 at bytes below (omega arith) in
          ap (λ (l : List ℕ). begins l (drop at bytes)) there
          ∙ ap (begins (take 64 (drop at bytes))) (sym (take-append-drop 64 (drop at bytes)))
          ∙ begins-same (take 64 (drop at bytes)) (drop 64 (drop at bytes))

      record-image : image (record_in bytes) ≡ header bytes ++ (setup bytes ++ (states bytes ++ (queue bytes ++ counters bytes)))
      unfolding image shown_by record_in
      record-image =
          image-parts (record_in bytes).setup (shown_by (record_in bytes)) (shown-by-long (record_in bytes))
          ∙ (λ i.
          words 4 (header_for (setup_in bytes).slots (record-used i))
          ++ (setup bytes ++ (words 1 (record-states i) ++ (words 4 (places (setup_in bytes).slots (record-queue i)) ++ counters bytes))))

      -- four of the five parts decide
      pub parts-decide :
          matches bytes
          ≡ ((begins (header bytes) bytes && begins (setup bytes) (drop setup_at bytes))
          && (begins (states bytes) (drop states_at bytes) && begins (queue bytes) (drop (queue_at (setup_in bytes).slots) bytes)))
      unfolding matches
      parts-decide =
          let n = (setup_in bytes).slots in
          ap (λ (l : List ℕ). begins l bytes) record-image
          ∙ behind 0 24 (header bytes) _ bytes (length-header n (used bytes))
          ∙ ap (λ (t : Bool). begins (header bytes) bytes && t)
          (behind 24 112 (setup bytes) _ bytes (length-setup (setup_in bytes) (hand_in bytes) (flags_in bytes).started (flags_in bytes).armed)
          ∙ ap (λ (t : Bool). begins (setup bytes) (drop setup_at bytes) && t)
          (behind states_at n (states bytes) _ bytes (part-long 1 n _ (table-long _ n) ∙ omega arith)
          ∙ ap (λ (t : Bool). begins (states bytes) (drop states_at bytes) && t)
          (behind (queue_at n) (4 * n) (queue bytes) _ bytes (part-long 4 n _ (places-long n _))
          ∙ ap (λ (t : Bool). begins (queue bytes) (drop (queue_at n) bytes) && t) counters-match
          ∙ and-true (begins (queue bytes) (drop (queue_at n) bytes)))))
          ∙ sym (and_assoc (begins (header bytes) bytes) (begins (setup bytes) (drop setup_at bytes)) _)

-- the same for what was read of header and setup, in a buffer with room for n slots
module _ (bytes : List ℕ) (n : ℕ) (roomy : Roomy n bytes) (below : Bytes bytes) where
  pub by_parts : (s : Setup) (hand : Hand) (flags : Flags) (u : ℕ) (h : Bool) → s ≡ setup_in bytes → hand ≡ hand_in bytes → flags ≡ flags_in bytes → u ≡ min (field 4 4 bytes) n
      → h ≡ (begins (words 4 (header_for s.slots u)) bytes && begins (words 8 (setup_for s hand flags.started flags.armed)) (drop setup_at bytes))
      → matches bytes
      ≡ (h
      && (begins (words 1 (table (λ i. state_number (state_from (get_or bytes (states_at + i) 0))) n)) (drop states_at bytes)
      && begins (words 4 (places n (take u (queue_in n bytes)))) (drop (queue_at n) bytes)))
  by_parts s hand flags u h es eh ef eu e =
      parts-decide bytes (rw (← roomy.slots) roomy.few) (rw (← roomy.slots) roomy.long) below
      ∙ rw (e, es, eh, ef, eu, roomy.slots)
