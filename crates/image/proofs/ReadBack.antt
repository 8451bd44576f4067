-- What reading makes of a valid ledger's image: each part stands where it is read and its numbers fit their width, so the record that is read has
-- the ledger's parts. Assumes nothing.
use Prim.Native.Nat.{ℕ, suc, ◌+◌, ◌-◌, ◌*◌, ◌%◌, ◌^◌, ◌≤◌, ◌<◌, min}
use native.Mathlib.Decide.{dec_lt}
use native.Mathlib.Nat.{one-mul, min-eq_left}
use native.Mathlib.Omega.{arith}
use mathlib.Core.Path.{◌≡◌, refl, sym, ap, ap₂, subst, ◌∙◌}
use mathlib.Core.Bool.{Bool, true, false, cond}
use mathlib.Core.List.{List, [], ◌∷◌, ◌++◌, append_assoc, map}
use lib.Dec.{ltb, leb, eqb}
use lib.ListN.{length, drop, get_or, replicate, length-map, get_or-eq_default, get_or-map}
use lib.Seq.{get_or-take, get_or-drop}
use borrow.Author.Tests.{lt-ltb, ltb-true, leb-true}
use Rattle.sys.specs.Bytes.{part, field}
use Rattle.layout.specs.declared.Setup.{Setup}
use Rattle.layout.specs.declared.Underrun.{Underrun}
use Rattle.layout.specs.Numbers.{policy_number, setup_numbers, setup_from}
use Rattle.layout.specs.Opening.{admissible}
use Rattle.layout.proofs.Admission.{admits}
use Rattle.layout.proofs.Numbers.{setup-back}
use Rattle.ring.specs.declared.Hand.{Hand}
use Rattle.ring.specs.declared.SlotState.{SlotState}
use Rattle.encoding.specs.Codes.{state_number, state_from}
use Rattle.ring.specs.Counts.{table, all_below}
use Rattle.ring.specs.Parts.{ring_with}
use Rattle.ring.specs.Slots.{one, hand_within}
use Rattle.ring.proofs.Counts.{below_at}
use Rattle.encoding.proofs.StateNumbers.{state-small}
use Rattle.ring.proofs.Restored.{made-same}
use Rattle.ring.proofs.Numbers.{table-long, table_at}
use Rattle.encoding.proofs.StateNumbers.{state-back}
use Rattle.ring.proofs.Truth.{first, second, one_at_most}
use Rattle.stream.specs.declared.IsoStats.{IsoStats}
use Rattle.stream.specs.declared.Stream.{Stream}
use Rattle.stream.proofs.Numbers.{one-back}
use Rattle.ledger.specs.Ledger.{Ledger, state_in}
use Rattle.ledger.specs.Shown.{shown_in}
use Rattle.ledger.proofs.Valid.{Valid, queue-fits}
use Rattle.encoding.specs.Words.{words, numbers_at, places}
use Rattle.image.specs.Image.{hand_numbers, counter_numbers, setup_for, ledger_image}
use Rattle.image.specs.Reading.{setup_at, hand_at, flags_at, states_at, queue_at, counters_at, header_for, hand_from, stats_from, setup_in, hand_in, flags_in, queue_in, ring_in, record_in}
use Rattle.encoding.proofs.Laid.{words_append, byte_at}
use Rattle.encoding.proofs.Stands.{Fit, Stands, next, read, read_all, room}
use Rattle.image.proofs.Head.{length-hand, header-fits}
use Rattle.image.proofs.Sizes.{image-parts, shown-in-long, places-long}

-- Endpoint and silence byte are bytes, the base and the counters numbers of 64 bits, as their types say.
pub record Fits (s : Setup) (t : IsoStats) : Type 0 where
  pub endpoint : s.endpoint < 256
  pub silence : s.silence_byte < 256
  pub base : s.base < 2 ^ 64
  pub submitted : t.urbs_submitted < 2 ^ 64
  pub completed : t.urbs_completed < 2 ^ 64
  pub bytes-submitted : t.bytes_submitted < 2 ^ 64
  pub bytes-transferred : t.bytes_transferred < 2 ^ 64
  pub short-bytes : t.short_bytes < 2 ^ 64
  pub packet-errors : t.packet_errors < 2 ^ 64
  pub urb-errors : t.urb_errors < 2 ^ 64
  pub underruns : t.underruns < 2 ^ 64

-- numbers that are bytes
bytes-kept : (vs : List ℕ) → Fit 1 vs → map (λ v. v % 256) vs ≡ vs
bytes-kept [] fits = refl
bytes-kept (v ∷ vs) fits =
    let h : v < 256 = fits 0 (omega arith) in
    ap₂ (λ (x : ℕ) (xs : List ℕ). x ∷ xs) (omega arith) (bytes-kept vs (λ i p. fits (suc i) (omega arith)))

policy-small : (u : Underrun) → policy_number u < 256 ^ 8
unfolding policy_number
policy-small Underrun.Continue = omega arith
policy-small Underrun.FillSilence = omega arith
policy-small Underrun.Error = omega arith

tag_small : (b : Bool) → cond b 1 0 < 256 ^ 8
tag_small true = omega arith
tag_small false = omega arith

-- the hand
hand-fits : (n : ℕ) (h : Hand) → n ≤ 256 → hand_within n h ≡ true → all_below (256 ^ 8) (hand_numbers h) ≡ true
unfolding hand_within hand_numbers all_below
hand-fits n Hand.Idle few ok = refl
hand-fits n (Hand.Held i) few ok = let b : i < n = ltb-true i n ok in rw (lt-ltb i (256 ^ 8) (omega arith))
hand-fits n (Hand.Sending i) few ok = let b : i < n = ltb-true i n ok in rw (lt-ltb i (256 ^ 8) (omega arith))
hand-fits n (Hand.Silent i left) few ok =
    let b : i < n = ltb-true i n (first (ltb i n) (leb left 1) ok) in
    let c : left ≤ 1 = leb-true left 1 (second (ltb i n) (leb left 1) ok) in
    rw (lt-ltb i (256 ^ 8) (omega arith), lt-ltb left (256 ^ 8) (omega arith))

hand-back : (h : Hand) → hand_from (get_or (hand_numbers h) 0 0) (get_or (hand_numbers h) 1 0) (get_or (hand_numbers h) 2 0) ≡ h
unfolding hand_from hand_numbers
hand-back Hand.Idle = refl
hand-back (Hand.Held i) = refl
hand-back (Hand.Sending i) = refl
hand-back (Hand.Silent i left) = refl

-- the record with a ledger's parts: what reading its image makes
unfoldable pub record_of : Setup → Ledger → Stream
record_of s l =
    record {
      setup = s;
      ring = ring_with s.slots (state_in l) (places s.slots l.queue ++ replicate (256 - s.slots) 0) (length l.queue);
      hand = l.hand;
      flags = record { started = l.started; armed = l.armed };
      stats = l.totals;
    }

module _ (s : Setup) (l : Ledger) (ok : admissible s ≡ true) (v : Valid s.slots l) (f : Fits s l.totals) (rest : List ℕ) where
  bytes : List ℕ
  bytes = ledger_image s l ++ rest

  -- what stands behind each part
  behind_queue : List ℕ
  behind_queue = words 8 (counter_numbers l.totals) ++ rest

  behind_states : List ℕ
  behind_states = words 4 (places s.slots l.queue) ++ behind_queue

  behind_flags : List ℕ
  behind_flags = words 1 (map state_number (table (state_in l) s.slots)) ++ behind_states

  behind_hand : List ℕ
  behind_hand = words 8 (one l.started ∷ one l.armed ∷ []) ++ behind_flags

  behind_setup : List ℕ
  behind_setup = words 8 (hand_numbers l.hand) ++ behind_hand

  behind_header : List ℕ
  behind_header = words 8 (setup_numbers s) ++ behind_setup

  header-here : Stands 4 0 (header_for s.slots (length l.queue)) behind_header bytes
  unfolding bytes ledger_image shown_in setup_for behind_header behind_setup behind_hand behind_flags behind_states behind_queue
  header-here =
      record {
        pre = [];
        is = ap (λ (x : List ℕ). x ++ rest) (image-parts s (shown_in s l) (shown-in-long s l)) ∙ simp (append_assoc, words_append);
        long = refl;
      }

  setup-here : Stands 8 setup_at (setup_numbers s) behind_setup bytes
  unfolding header_for behind_header
  setup-here = next header-here 8 6 (setup_numbers s) behind_setup refl refl

  hand-here : Stands 8 hand_at (hand_numbers l.hand) behind_hand bytes
  unfolding setup_numbers behind_setup
  hand-here = next setup-here 8 9 (hand_numbers l.hand) behind_hand refl refl

  flags-here : Stands 8 flags_at (one l.started ∷ one l.armed ∷ []) behind_flags bytes
  unfolding behind_hand
  flags-here = next hand-here 8 3 (one l.started ∷ one l.armed ∷ []) behind_flags (length-hand l.hand) refl

  states-here : Stands 1 states_at (map state_number (table (state_in l) s.slots)) behind_states bytes
  unfolding behind_flags
  states-here = next flags-here 1 2 (map state_number (table (state_in l) s.slots)) behind_states refl refl

  states-count : length (map state_number (table (state_in l) s.slots)) ≡ s.slots
  states-count = length-map (table (state_in l) s.slots) state_number ∙ table-long (state_in l) s.slots

  queue-here : Stands 4 (queue_at s.slots) (places s.slots l.queue) behind_queue bytes
  unfolding behind_states
  queue-here =
      subst (λ (k : ℕ). Stands 4 (states_at + k) (places s.slots l.queue) behind_queue bytes) (one-mul s.slots)
      (next states-here 4 s.slots (places s.slots l.queue) behind_queue states-count refl)

  counters-here : Stands 8 (counters_at s.slots) (counter_numbers l.totals) rest bytes
  unfolding behind_queue
  counters-here = next queue-here 8 s.slots (counter_numbers l.totals) rest (places-long s.slots l.queue) refl

  -- each part is read back
  short : length l.queue ≤ s.slots
  short = queue-fits l s.slots v

  used-in : field 4 4 bytes ≡ length l.queue
  unfolding header_for
  used-in = read header-here (λ i h. header-fits s.slots (length l.queue) v.few (omega (arith, short, v.few)) i) 1 (omega arith)

  setup-fits : all_below (256 ^ 8) (setup_numbers s) ≡ true
  unfolding setup_numbers all_below
  setup-fits =
      let a = (admits s ok).limits in
      rw (
        lt-ltb s.slots (256 ^ 8) (omega (arith, a.slots)),
        lt-ltb s.packets_per_urb (256 ^ 8) (omega (arith, a.sizes)),
        lt-ltb s.packet_bytes (256 ^ 8) (omega (arith, a.bytes)),
        lt-ltb s.endpoint (256 ^ 8) (omega (arith, f.endpoint)),
        lt-ltb (policy_number s.underrun) (256 ^ 8) (policy-small s.underrun),
        lt-ltb s.silence_byte (256 ^ 8) (omega (arith, f.silence)),
        lt-ltb s.base (256 ^ 8) (omega (arith, f.base)),
        lt-ltb (cond s.tagged 1 0) (256 ^ 8) (tag_small s.tagged),
        lt-ltb s.frame_bytes (256 ^ 8) (omega (arith, a.frame, a.bytes)),
      )

  setup-in : setup_in bytes ≡ s
  unfolding setup_in setup_numbers
  setup-in =
      ap setup_from (read_all setup-here (below_at (256 ^ 8) (setup_numbers s) setup-fits) 9 refl) ∙ setup-back s f.endpoint f.silence

  hand-in : hand_in bytes ≡ l.hand
  unfolding hand_in
  hand-in =
      let fits = below_at (256 ^ 8) (hand_numbers l.hand) (hand-fits s.slots l.hand v.few v.within) in
      let at : (i : ℕ) → i < 3 → field (hand_at + 8 * i) 8 bytes ≡ get_or (hand_numbers l.hand) i 0 = λ i h. read hand-here fits i (rw (length-hand l.hand) h) in
      (λ i. hand_from (at 0 (omega arith) i) (at 1 (omega arith) i) (at 2 (omega arith) i)) ∙ hand-back l.hand

  flags-fit : all_below (256 ^ 8) (one l.started ∷ one l.armed ∷ []) ≡ true
  unfolding all_below
  flags-fit = rw (lt-ltb (one l.started) (256 ^ 8) (omega (arith, one_at_most l.started)), lt-ltb (one l.armed) (256 ^ 8) (omega (arith, one_at_most l.armed)))

  flags-in : flags_in bytes ≡ record { started = l.started; armed = l.armed }
  unfolding flags_in
  flags-in =
      let at = read flags-here (below_at (256 ^ 8) (one l.started ∷ one l.armed ∷ []) flags-fit) in
      λ i.
      record {
        started = (ap (λ (k : ℕ). eqb k 1) (at 0 (omega arith)) ∙ one-back l.started) i;
        armed = (ap (λ (k : ℕ). eqb k 1) (at 1 (omega arith)) ∙ one-back l.armed) i;
      }

  state-number : (i : ℕ) → i < s.slots → get_or (map state_number (table (state_in l) s.slots)) i 0 ≡ state_number (state_in l i)
  unfolding state_number
  state-number i h =
      get_or-map state_number (table (state_in l) s.slots) i SlotState.Free
      ∙ ap state_number (table_at (state_in l) SlotState.Free s.slots i h)

  state-in : (i : ℕ) → i < s.slots → state_from (get_or (part states_at s.slots bytes) i 0) ≡ state_in l i
  state-in i h =
      let count = states-count in
      let inside : states_at + i < length bytes = omega (arith, room states-here) in
      let fits : Fit 1 (map state_number (table (state_in l) s.slots)) = λ j p. rw (state-number j (rw count at p)) (state-small (state_in l j)) in
      ap state_from
      (get_or-take s.slots (drop states_at bytes) i 0 h
      ∙ get_or-drop states_at bytes i 0
      ∙ sym (byte_at states_at i bytes inside)
      ∙ read states-here fits i (rw count h)
      ∙ state-number i h)
      ∙ state-back (state_in l i)

  place-small : (i : ℕ) → get_or l.queue i 0 < 256
  place-small i = go (dec_lt i (length l.queue))
    where
      go : Dec (i < length l.queue) → get_or l.queue i 0 < 256
      go (yes h) = omega (arith, below_at s.slots l.queue v.below i h, v.few)
      go (no h) = rw (get_or-eq_default l.queue 0 {n = i} (omega arith)) (omega arith)

  places-small : (i : ℕ) → i < length (places s.slots l.queue) → get_or (places s.slots l.queue) i 0 < 256
  unfolding places
  places-small i h = rw (table_at (λ j. get_or l.queue j 0) 0 s.slots i (rw (places-long s.slots l.queue) at h)) (place-small i)

  queue-in : queue_in s.slots bytes ≡ places s.slots l.queue ++ replicate (256 - s.slots) 0
  unfolding queue_in
  queue-in =
      ap (λ (vs : List ℕ). map (λ v. v % 256) vs ++ replicate (256 - s.slots) 0)
      (read_all queue-here (λ i h. omega (arith, places-small i h)) s.slots (places-long s.slots l.queue))
      ∙ ap (λ (vs : List ℕ). vs ++ replicate (256 - s.slots) 0) (bytes-kept (places s.slots l.queue) places-small)

  counters-fit : all_below (256 ^ 8) (counter_numbers l.totals) ≡ true
  unfolding counter_numbers all_below
  counters-fit =
      let t = l.totals in
      rw (
        lt-ltb t.urbs_submitted (256 ^ 8) f.submitted,
        lt-ltb t.urbs_completed (256 ^ 8) f.completed,
        lt-ltb t.bytes_submitted (256 ^ 8) f.bytes-submitted,
        lt-ltb t.bytes_transferred (256 ^ 8) f.bytes-transferred,
        lt-ltb t.short_bytes (256 ^ 8) f.short-bytes,
        lt-ltb t.packet_errors (256 ^ 8) f.packet-errors,
        lt-ltb t.urb_errors (256 ^ 8) f.urb-errors,
        lt-ltb t.underruns (256 ^ 8) f.underruns,
      )

  stats-in : stats_from (numbers_at 8 8 (counters_at s.slots) bytes) ≡ l.totals
  unfolding stats_from counter_numbers
  stats-in = ap stats_from (read_all counters-here (below_at (256 ^ 8) (counter_numbers l.totals) counters-fit) 8 refl)

  ring-in : ring_in s.slots bytes ≡ (record_of s l).ring
  unfolding ring_in record_of
  ring-in =
      made-same s.slots _ (state_in l) (queue_in s.slots bytes) (min (field 4 4 bytes) s.slots) state-in
      ∙ ap₂ (ring_with s.slots (state_in l)) queue-in (ap (λ (k : ℕ). min k s.slots) used-in ∙ min-eq_left short)

  pub record-in : record_in (ledger_image s l ++ rest) ≡ record_of s l
  unfolding record_in record_of bytes
  record-in =
      λ i.
      record {
        setup = setup-in i;
        ring = (ap (λ (x : Setup). ring_in x.slots bytes) setup-in ∙ ring-in) i;
        hand = hand-in i;
        flags = flags-in i;
        stats = (ap (λ (x : Setup). stats_from (numbers_at 8 8 (counters_at x.slots) bytes)) setup-in ∙ stats-in) i;
      }
