-- What a list of reaped and finish alone changes after a stop that gave Done: none is accepted, so a slot is out as long as no notice taken names it; each
-- notice is after a discard, so no figure adds to a sum; and the hand stays. Assumes nothing.
use Rattle.std.specs.Prelude.{Result, Ok, Err}
use Prim.Native.Nat.{ℕ}
use native.Mathlib.Omega.{arith}
use mathlib.Core.Path.{◌≡◌, refl, ◌∙◌}
use mathlib.Core.Bool.{Bool, true, false, cond, not, ◌||◌, ◌&&◌}
use mathlib.Core.List.{List, [], ◌∷◌, ◌++◌}
use mathlib.Core.Option.{Option, none, some}
use Rattle.layout.specs.declared.Setup.{Setup}
use Rattle.ring.specs.Slots.{one}
use Rattle.ring.proofs.Truth.{first, second}
use Rattle.stream.specs.declared.Answer.{Answer}
use Rattle.stream.specs.declared.Completion.{Completion}
use Rattle.ledger.specs.Notice.{completion_of}
use Rattle.ledger.specs.Calls.{Call, reaped, lent_to, step_of}
use Rattle.history.specs.History.{ledger_after}
use Rattle.history.specs.Words.{Entry, log_of, said, asked, is_slot, given, acceptance, notice, is_out, after_discard}
use Rattle.history.specs.Sums.{total, of, acceptances, bytes_accepted, of_completed, is_turn, underruns}
use Rattle.history.specs.Shutdown.{is_reaped_or_finish, only_reaped_and_finish, log_since, is_noticed}
use Rattle.history.proofs.Idle.{reaped-or-finish, hand-keeps}

newest-is : (c : Call) (since : List Call) → only_reaped_and_finish (c ∷ since) ≡ true → is_reaped_or_finish c ≡ true
unfolding only_reaped_and_finish
newest-is c since p = first (is_reaped_or_finish c) (only_reaped_and_finish since) p

others-are : (c : Call) (since : List Call) → only_reaped_and_finish (c ∷ since) ≡ true → only_reaped_and_finish since ≡ true
unfolding only_reaped_and_finish
others-are c since p = second (is_reaped_or_finish c) (only_reaped_and_finish since) p

-- no acceptance is taken
none-accepted : (c : Call) → is_reaped_or_finish c ≡ true → (a : Answer) (log : List Entry) → acceptance (record { call = c; answer = a }) log ≡ none
unfolding acceptance given asked
none-accepted =
    reaped-or-finish (λ (c : Call). (a : Answer) (log : List Entry) → acceptance (record { call = c; answer = a }) log ≡ none) by-reply (λ a log. refl)
  where
    by-reply : (r : Result ℕ ℕ) (block : List ℕ) (a : Answer) (log : List Entry) → acceptance (record { call = reaped r block; answer = a }) log ≡ none
    by-reply (Err e) block a log = refl
    by-reply (Ok address) block a log = refl

no-turn : (c : Call) → is_reaped_or_finish c ≡ true → is_turn c ≡ false
unfolding is_turn
no-turn = reaped-or-finish (λ (c : Call). is_turn c ≡ false) (λ r block. refl) refl

-- a figure that is 0 for each such call, where every notice is after a discard
abbrev pub AddsNothing : (Entry → List Entry → ℕ) → Type 0
AddsNothing figure =
    (c : Call) → is_reaped_or_finish c ≡ true → (a : Answer) (log : List Entry) → ((i : ℕ) → after_discard i log ≡ true) → figure (record { call = c; answer = a }) log ≡ 0

pub acceptances-nothing : AddsNothing acceptances
unfolding acceptances of
acceptances-nothing c p a log d = rw (none-accepted c p a log)

pub bytes-nothing : (s : Setup) → AddsNothing (bytes_accepted s)
unfolding bytes_accepted of
bytes-nothing s c p a log d = rw (none-accepted c p a log)

pub completed-nothing : (s : Setup) (figure : Completion → ℕ) → AddsNothing (of_completed s figure)
unfolding of_completed of
completed-nothing s figure c p a log d = by-notice (notice s (record { call = c; answer = a }))
  where
    by-notice : (o : Option ℕ) → of o (λ i. cond (after_discard i log) 0 (figure (completion_of s i false (lent_to c)))) ≡ 0
    by-notice none = refl
    by-notice (some i) = rw (d i)

-- out, unless a notice names it
still-out : (b x m : Bool) → cond b false (x && not m) ≡ (x && not (b || m))
still-out true true m = refl
still-out true false m = refl
still-out false x m = refl

none_named : (x : Bool) → x ≡ (x && true)
none_named true = refl
none_named false = refl

-- the whole list
module _ (s : Setup) (stopped : List Call) where
  -- the newest entry
  entry : (c : Call) (since : List Call) → Entry
  entry c since = record { call = c; answer = (step_of s c (ledger_after s (since ++ stopped))).answer }

  -- a slot is out that was out at the stop and that no notice taken has named since
  pub out-since : (i : ℕ) (since : List Call) → only_reaped_and_finish since ≡ true → is_out s i (log_of s (since ++ stopped)) ≡ (is_out s i (log_of s stopped) && not (is_noticed s i (log_since s stopped since)))
  unfolding log_of log_since is_out is_noticed is_slot entry
  out-since i [] p = none_named (is_out s i (log_of s stopped))
  out-since i (c ∷ since) p =
      rw (none-accepted c (newest-is c since p) _ (log_of s (since ++ stopped)), out-since i since (others-are c since p))
      (still-out (is_slot (notice s (entry c since)) i) (is_out s i (log_of s stopped)) (is_noticed s i (log_since s stopped since)))

  -- every notice is after a discard
  discards-since : (i : ℕ) → after_discard i (log_of s stopped) ≡ true → (since : List Call) → only_reaped_and_finish since ≡ true → after_discard i (log_of s (since ++ stopped)) ≡ true
  unfolding log_of after_discard is_slot entry
  discards-since i d [] p = d
  discards-since i d (c ∷ since) p =
      rw (none-accepted c (newest-is c since p) _ (log_of s (since ++ stopped)), discards-since i d since (others-are c since p))
      (either (said (entry c since).answer).stopped)
    where
      either : (b : Bool) → cond b true true ≡ true
      either true = refl
      either false = refl

  -- no sum grows
  pub total-since : (figure : Entry → List Entry → ℕ) → AddsNothing figure → ((i : ℕ) → after_discard i (log_of s stopped) ≡ true) → (since : List Call) → only_reaped_and_finish since ≡ true → total figure (log_of s (since ++ stopped)) ≡ total figure (log_of s stopped)
  unfolding log_of total entry
  total-since figure z d [] p = refl
  total-since figure z d (c ∷ since) p =
      let q = others-are c since p in
      omega (
        arith,
        z c (newest-is c since p) (entry c since).answer (log_of s (since ++ stopped)) (λ i. discards-since i (d i) since q),
        total-since figure z d since q,
      )

  pub underruns-since : (since : List Call) → only_reaped_and_finish since ≡ true → underruns s (since ++ stopped) ≡ underruns s stopped
  unfolding underruns one
  underruns-since [] p = refl
  underruns-since (c ∷ since) p = rw (no-turn c (newest-is c since p)) (omega (arith, underruns-since since (others-are c since p)))

  -- the hand stays
  pub hand-since : (since : List Call) → only_reaped_and_finish since ≡ true → (ledger_after s (since ++ stopped)).hand ≡ (ledger_after s stopped).hand
  unfolding ledger_after
  hand-since [] p = refl
  hand-since (c ∷ since) p = hand-keeps s (ledger_after s (since ++ stopped)) c (newest-is c since p) ∙ hand-since since (others-are c since p)
