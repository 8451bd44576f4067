-- The sums of demand 3, over the list of calls and its answers.
use Rattle.std.specs.Prelude.{ℕ, ◌+◌, Bool, true, false, cond, not, ◌&&◌, List, [], ◌∷◌}
use Rattle.std.proofs.Math.Option.{Option, none, some}
use Rattle.layout.specs.declared.Setup.{Setup}
use Rattle.ring.specs.Slots.{one}
use Rattle.stream.specs.declared.Completion.{Completion}
use Rattle.ledger.specs.Notice.{buffer_bytes, completion_of}
use Rattle.ledger.specs.Reaped.{urb_error}
use Rattle.ledger.specs.Turn.{drained}
use Rattle.ledger.specs.Calls.{Call, lent_to, step_of}
use Rattle.ledger.specs.Calls.{turn, commit, commit_full, commit_packets, submitted, reaped, give_back, start, stop, finish}
use Rattle.history.specs.History.{ledger_after}
use Rattle.history.specs.Words.{Entry, six_or_nine, acceptance, notice, after_discard}

-- A figure of each call, added up over a log.
unfoldable pub total : (Entry → List Entry → ℕ) → List Entry → ℕ
total figure [] = 0
total figure (e ∷ before) = figure e before + total figure before

-- A figure of a slot, 0 where there is none.
unfoldable pub of : Option ℕ → (ℕ → ℕ) → ℕ
of none figure = 0
of (some i) figure = figure i

-- The acceptances taken.
unfoldable pub acceptances : Entry → List Entry → ℕ
acceptances e before = of (acceptance e before) (λ i. 1)

-- max(0, buffer length) of the slot in the block at each.
unfoldable pub bytes_accepted : Setup → Entry → List Entry → ℕ
bytes_accepted s e before = of (acceptance e before) (λ i. buffer_bytes s i (lent_to e.call))

-- A figure of the notices that count as completed.
unfoldable pub of_completed : Setup → (Completion → ℕ) → Entry → List Entry → ℕ
of_completed s figure e before =
    of (notice s e) (λ i. cond (after_discard i before) 0 (figure (completion_of s i false (lent_to e.call))))

unfoldable pub completed : Setup → Entry → List Entry → ℕ
completed s = of_completed s (λ c. 1)

-- The figures that reaped works out from the block at each.
unfoldable pub transferred : Setup → Entry → List Entry → ℕ
transferred s = of_completed s (λ c. c.actual_bytes)

unfoldable pub short_bytes : Setup → Entry → List Entry → ℕ
short_bytes s = of_completed s (λ c. c.short_bytes)

unfoldable pub packet_errors : Setup → Entry → List Entry → ℕ
packet_errors s = of_completed s (λ c. c.packet_errors)

-- Those with status not 0.
unfoldable pub urb_errors : Setup → Entry → List Entry → ℕ
urb_errors s = of_completed s (λ c. urb_error c.status)

-- The notices after a discard.
unfoldable pub after_discards : Setup → Entry → List Entry → ℕ
after_discards s e before = of (notice s e) (λ i. one (after_discard i before))

-- The call is turn.
unfoldable pub is_turn : Call → Bool
is_turn (turn block) = true
is_turn (commit bytes block) = false
is_turn (commit_full block) = false
is_turn (commit_packets lengths block) = false
is_turn (submitted reply block) = false
is_turn (reaped reply block) = false
is_turn give_back = false
is_turn start = false
is_turn (stop list) = false
is_turn finish = false

-- The turns, not giving 6 or 9, before which the ledger was started and armed with none out.
unfoldable pub underruns : Setup → List Call → ℕ
underruns s [] = 0
underruns s (c ∷ before) =
    one (is_turn c && not (six_or_nine (step_of s c (ledger_after s before)).answer) && drained (ledger_after s before))
    + underruns s before
