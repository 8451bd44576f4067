-- Request 2026-12, shutting a hall down: after a stop that gave Done only reaped and finish are used. Out, named and taken are demand 3's
-- words (Words). Lists are held newest first.
use Rattle.std.specs.Prelude.{ℕ, Bool, true, false, cond, not, ◌||◌, ◌&&◌, List, [], ◌∷◌, ◌++◌, ◌≡◌, length, take}
use Rattle.error.specs.declared.Error.{Error}
use Rattle.layout.specs.declared.Setup.{Setup}
use Rattle.ring.specs.Counts.{every_slot}
use Rattle.stream.specs.declared.Answer.{Answer}
use Rattle.stream.specs.declared.Stream.{Stream}
use Rattle.ledger.specs.Calls.{Call, turn, commit, commit_full, commit_packets, submitted, reaped, give_back, start, stop, finish, made}
use Rattle.history.specs.Words.{Entry, log_of, is_slot, notice, is_out}

-- The call is reaped or finish.
unfoldable pub is_reaped_or_finish : Call → Bool
is_reaped_or_finish (turn block) = false
is_reaped_or_finish (commit bytes block) = false
is_reaped_or_finish (commit_full block) = false
is_reaped_or_finish (commit_packets lengths block) = false
is_reaped_or_finish (submitted reply block) = false
is_reaped_or_finish (reaped reply block) = true
is_reaped_or_finish give_back = false
is_reaped_or_finish start = false
is_reaped_or_finish (stop list) = false
is_reaped_or_finish finish = true

-- Only reaped and finish are used.
unfoldable pub only_reaped_and_finish : List Call → Bool
only_reaped_and_finish [] = true
only_reaped_and_finish (c ∷ before) = is_reaped_or_finish c && only_reaped_and_finish before

-- The entries of the calls `since`, which came after the list `stopped`.
unfoldable pub log_since : Setup → List Call → List Call → List Entry
log_since s stopped since = take (length since) (log_of s (since ++ stopped))

-- A notice that the stream took names slot i.
unfoldable pub is_noticed : Setup → ℕ → List Entry → Bool
is_noticed s i [] = false
is_noticed s i (e ∷ before) = is_slot (notice s e) i || is_noticed s i before

-- Each slot that was out at the stop has since been named by a notice that the stream took. `stopped` ends in the stop.
unfoldable pub all_noticed : Setup → List Call → List Call → Bool
all_noticed s stopped since =
    every_slot s.slots (λ i. not (is_out s i (log_of s stopped)) || is_noticed s i (log_since s stopped since))

-- finish says Yes exactly when they have, else 13.
unfoldable pub finish_says : Setup → List Call → List Call → Answer
finish_says s stopped since = cond (all_noticed s stopped since) Answer.Yes (Answer.Refused Error.Disconnected)

-- What holds of the record r after the calls `since`, the stop having left the record `at_stop`: a finish made next says so, and each of
-- the eight counters is what it was at the stop.
pub record ShutDown (s : Setup) (stopped since : List Call) (at_stop r : Stream) : Type 0 where
  pub says : (made finish r).answer ≡ finish_says s stopped since
  pub counters : r.stats ≡ at_stop.stats
