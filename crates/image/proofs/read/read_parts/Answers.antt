-- `image::read_parts` meets its contract: header and setup, states and queue decide (proofs/Matches), and what was read is the record that stands there.
-- Assumes nothing.
use mathlib.Core.Path.{◌≡◌, ap, ◌∙◌}
use mathlib.Core.Bool.{Bool, true, false, cond, ◌&&◌}
use mathlib.Core.List.{List}
use Prim.Native.Nat.{ℕ, ◌+◌, ◌≤◌, min}
use native.Mathlib.Nat.{min-le_right}
use native.Mathlib.Omega.{arith}
use borrow.Author.Rules.{rules}
use lib.ListN.{take, drop, get_or}
use Rattle.sys.specs.Bytes.{field}
use Rattle.ring.specs.Counts.{table}
use Rattle.encoding.specs.Codes.{state_number, state_from}
use Rattle.layout.specs.declared.Setup.{Setup}
use Rattle.ring.specs.declared.Hand.{Hand}
use Rattle.stream.specs.declared.Flags.{Flags}
use Rattle.stream.specs.declared.Stream.{Stream}
use Rattle.opening.specs.Opened.{no_stream}
use Rattle.encoding.specs.Words.{words, numbers_at, places, begins}
use Rattle.image.specs.Image.{setup_for}
use Rattle.image.specs.Reading.{setup_at, states_at, queue_at, counters_at, header_for, stats_from, setup_in, hand_in, flags_in, queue_in, ring_in, record_in, matches, Roomy}
use Rattle.encoding.proofs.Laid.{Bytes}
use Rattle.image.proofs.Matches.{by_parts}
use Rattle.image.proofs.read.read_parts.Goals.{then-not-head_matches-via-then-not-head_matches, then-not-head_matches-via-else-not-head_matches+then-not-states_match, then-not-head_matches-via-else-not-head_matches+else-not-states_match+then-not-queue_matches}
use Rattle.image.proofs.read.read_parts.Goals as goal

-- whether the states match, and the queue
abbrev states : ℕ → List ℕ → Bool
states n bytes = begins (words 1 (table (λ i. state_number (state_from (get_or bytes (states_at + i) 0))) n)) (drop states_at bytes)

abbrev queue : ℕ → ℕ → List ℕ → Bool
queue n used bytes = begins (words 4 (places n (take used (queue_in n bytes)))) (drop (queue_at n) bytes)

-- the bytes match where header and setup, the states and the queue do
record Decided (m h a b : Bool) : Type 0 where
  is : m ≡ (h && (a && b))

module _ (bytes : List ℕ) (n : ℕ) (roomy : Roomy n bytes) (below : Bytes bytes) where
  decided : (s : Setup) (hand : Hand) (flags : Flags) (u : ℕ) (h : Bool) → s ≡ setup_in bytes → hand ≡ hand_in bytes → flags ≡ flags_in bytes → u ≡ min (field 4 4 bytes) n
      → h ≡ (begins (words 4 (header_for s.slots u)) bytes && begins (words 8 (setup_for s hand flags.started flags.armed)) (drop setup_at bytes))
      → Decided (matches bytes) h (states n bytes) (queue n u bytes)
  decided s hand flags u h setup held flagged used head = record { is = by_parts bytes n roomy below s hand flags u h setup held flagged used head }

off : (bytes : List ℕ) (s : Stream) → s ≡ no_stream → matches bytes ≡ false → s ≡ cond (matches bytes) (record_in bytes) no_stream
off bytes s e m = e ∙ rw m

-- header or setup differ; the states do; the queue does; none does
head-off : {m h a b : Bool} → Decided m h a b → h ≡ false → m ≡ false
head-off d away = d.is ∙ rw away

states-off : {m h a b : Bool} → Decided m h a b → h ≡ true → (st : Bool) → st ≡ a → st ≡ false → m ≡ false
states-off d on st e away = d.is ∙ rw (on, ← e, away)

queue-left : {m h a b : Bool} → Decided m h a b → h ≡ true → (st : Bool) → st ≡ a → st ≡ true → (q : Bool) → q ≡ b → m ≡ q
queue-left d on st e on' q f = d.is ∙ rw (on, ← e, on', ← f)

-- what was read is the record
on : (bytes : List ℕ) (s : Stream) → s ≡ record_in bytes → matches bytes ≡ true → s ≡ cond (matches bytes) (record_in bytes) no_stream
on bytes s e m = e ∙ rw m

pub head_matches-requires : goal.head_matches-requires
head_matches-requires c =
    let room = c.requires in
    let setup = c.read_setup-setup.ensures in
    let few : c.read_setup-setup.result.slots ≤ 256 = rw (setup, ← room.slots) room.few in
    (few, rw c.read_used-used.ensures (omega (arith, min-le_right (field 4 4 c.args.image.now) c.args.n, room.few)), omega (arith, room.long))

pub returns-then-not-head_matches : goal.returns-then-not-head_matches
returns-then-not-head_matches c =
    let head =
    decided c.args.image.now c.args.n c.requires (λ k. search rules) _ _ _ _ _ c.read_setup-setup.ensures c.read_hand-hand.ensures
    c.read_flags-flags.ensures c.read_used-used.ensures c.head_matches.ensures in
    off _ _ c.no_stream.ensures
    (elim c.then-not-head_matches.branch [
      | then-not-head_matches-via-then-not-head_matches w ↦ head-off head w.if-not-head_matches.true
      | then-not-head_matches-via-else-not-head_matches+then-not-states_match w ↦
          states-off head w.if-not-head_matches.false _ w.states_match.ensures w.if-not-states_match.true
      | then-not-head_matches-via-else-not-head_matches+else-not-states_match+then-not-queue_matches w ↦
          queue-left head w.if-not-head_matches.false _ w.states_match.ensures w.if-not-states_match.false _ w.queue_matches.ensures
          ∙ w.if-not-queue_matches.true
    ])

pub read_stats-stats-requires : goal.read_stats-stats-requires
read_stats-stats-requires c =
    let room = c.requires in
    (room.few, room.long)

pub returns : goal.returns
unfolding record_in
returns c =
    let bytes = c.args.image.now in
    let n = c.requires.slots in
    let setup = c.read_setup-setup.ensures in
    let ring = c.read_ring-ring.ensures ∙ ap (λ (k : ℕ). ring_in k bytes) n in
    let hand = c.read_hand-hand.ensures in
    let flags = c.read_flags-flags.ensures in
    let stats = c.read_stats-stats.ensures ∙ ap (λ (k : ℕ). stats_from (numbers_at 8 8 (counters_at k) bytes)) n in
    on bytes _ (c.new.ensures ∙ (λ i. record { setup = setup i; ring = ring i; hand = hand i; flags = flags i; stats = stats i }))
    (queue-left
    (decided bytes c.args.n c.requires (λ k. search rules) _ _ _ _ _ setup hand flags c.read_used-used.ensures c.head_matches.ensures)
    c.if-not-head_matches.false _ c.states_match.ensures c.if-not-states_match.false _ c.queue_matches.ensures
    ∙ c.if-not-queue_matches.false)
