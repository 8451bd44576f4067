-- Demand 3: what holds of every list of calls from a freshly opened ring.
use Rattle.std.specs.Prelude.{ℕ, ◌+◌, ◌%◌, ◌^◌, ◌<◌, Bool, true, cond, ◌&&◌, List, [], ◌∷◌, ◌++◌, map, ◌≡◌, ltb}
use Rattle.layout.specs.declared.Setup.{Setup}
use Rattle.ring.specs.Counts.{slot_numbers, times, how_many}
use Rattle.ring.specs.Parts.{queue_of, state_of}
use Rattle.ring.specs.Slots as Slots
use Rattle.stream.specs.declared.Stream.{Stream}
use Rattle.stream.specs.declared.IsoStats.{IsoStats}
use Rattle.stream.specs.Sound.{sound}
use Rattle.ledger.specs.Calls.{Call}
use Rattle.ledger.specs.Shown.{shown_by, shown_in}
use Rattle.history.specs.History.{ledger_after, record_after}
use Rattle.history.specs.Log.{record_log, ledger_log}
use Rattle.history.specs.Words.{Entry, log_of, is_out, in_hand, never_left, last_return}
use Rattle.history.specs.Sums as Sums

-- Those of a list that pass a test, in order.
unfoldable pub those : (ℕ → Bool) → List ℕ → List ℕ
those test [] = []
those test (i ∷ rest) = cond (test i) (i ∷ those test rest) (those test rest)

-- Every number of a list is above j.
unfoldable pub all_above : ℕ → List ℕ → Bool
all_above j [] = true
all_above j (k ∷ rest) = ltb j k && all_above j rest

-- Each number is smaller than all that follow it.
unfoldable pub ascending : List ℕ → Bool
ascending [] = true
ascending (k ∷ rest) = all_above k rest && ascending rest

-- A queue has first those of n slots that never left it, by number, then the rest, all of which left it, in order of their last return.
pub record InOrder (s : Setup) (log : List Entry) (queue : List ℕ) : Type 0 where
  pub rest : List ℕ
  pub split : queue ≡ those (λ i. never_left i log) (slot_numbers s.slots) ++ rest
  pub left : those (λ i. never_left i log) rest ≡ []
  pub by-return : ascending (map (λ i. last_return s i log) rest) ≡ true

-- Each of the eight counters is its sum over the list, modulo 2^64.
pub record Counted (s : Setup) (h : List Call) (t : IsoStats) : Type 0 where
  pub submitted : t.urbs_submitted ≡ Sums.total Sums.acceptances (log_of s h) % 2 ^ 64
  pub completed : t.urbs_completed ≡ Sums.total (Sums.completed s) (log_of s h) % 2 ^ 64
  pub bytes-submitted : t.bytes_submitted ≡ Sums.total (Sums.bytes_accepted s) (log_of s h) % 2 ^ 64
  pub bytes-transferred : t.bytes_transferred ≡ Sums.total (Sums.transferred s) (log_of s h) % 2 ^ 64
  pub short-bytes : t.short_bytes ≡ Sums.total (Sums.short_bytes s) (log_of s h) % 2 ^ 64
  pub packet-errors : t.packet_errors ≡ Sums.total (Sums.packet_errors s) (log_of s h) % 2 ^ 64
  pub urb-errors : t.urb_errors ≡ Sums.total (Sums.urb_errors s) (log_of s h) % 2 ^ 64
  pub underruns : t.underruns ≡ Sums.underruns s h % 2 ^ 64

-- What holds of the record r after the list h of calls, newest first, on a ring opened with the values s.
pub record HoldsAfter (s : Setup) (h : List Call) (r : Stream) : Type 0 where
  -- Opening's values stay, and 8 never comes up.
  pub setup : r.setup ≡ s
  pub never-8 : sound r ≡ true
  -- States, queue, out count, hand, flags and counters are the ledger's.
  pub shows : shown_by r ≡ shown_in s (ledger_after s h)
  -- A slot is out exactly when an acceptance of it was taken and no notice naming it since. It is Filling exactly when it is in hand by the
  -- words.
  pub out : (i : ℕ) → i < s.slots → Slots.is_out (state_of r.ring i) ≡ is_out s i (log_of s h)
  pub in-hand : (i : ℕ) → i < s.slots → Slots.is_filling (state_of r.ring i) ≡ in_hand s i (log_of s h)
  -- Every slot is exactly one of these: out, in hand, or once in the queue.
  pub one_place :
      (i : ℕ) → i < s.slots →
      Slots.one (is_out s i (log_of s h)) + Slots.one (in_hand s i (log_of s h)) + times i (queue_of r.ring) ≡ 1
  pub queue-order : InOrder s (log_of s h) (queue_of r.ring)
  -- Submitted = completed + returned after a discard + out, modulo 2^64.
  pub conservation :
      r.stats.urbs_submitted
      ≡ (r.stats.urbs_completed
      + Sums.total (Sums.after_discards s) (log_of s h)
      + how_many s.slots (λ i. is_out s i (log_of s h))) % 2 ^ 64
  pub counters : Counted s h r.stats

-- One claim about the whole list h, on a ring opened with the values s, whose record was `first`: after each call answer, block or list,
-- states, queue, out count, hand, flags and counters are the ledger's, and the record after the last call is as the sentences about the
-- list say.
pub record Demand3 (s : Setup) (first : Stream) (h : List Call) : Type 0 where
  pub log : record_log first h ≡ ledger_log s h
  pub after : HoldsAfter s h (record_after first h)
