-- After each of the ten calls the words agree with the ledger, whatever the call's answer.
-- Assumes nothing.
use mathlib.Core.Path.{◌≡◌, refl, sym, ap₂, subst}
use mathlib.Core.Bool.{Bool, true, false, cond, not, ◌&&◌}
use mathlib.Core.List.{List, [], ◌∷◌, ◌++◌}
use Prim.Native.Nat.{ℕ}
use lib.Dec.{ltb, eqb}
use lib.ListN.{length, drop}
use Rattle.error.specs.declared.Error.{Error}
use Rattle.layout.specs.declared.Setup.{Setup}
use Rattle.layout.specs.Layout.{any_above}
use Rattle.layout.specs.declared.Underrun.{Underrun}
use Rattle.layout.specs.Opening.{total_of, capacity_of}
use Rattle.ring.specs.declared.Hand.{Hand}
use Rattle.ring.specs.Slots.{one}
use Rattle.stream.specs.declared.Answer.{Answer}
use Rattle.ledger.specs.Ledger.{Ledger, with_marks, with_flags, with_totals, outs}
use Rattle.ledger.specs.Slot.{lengths_of}
use Rattle.ledger.specs.Step.{Next, refused, on_block, by_idle, when_idle, when_held, put_back}
use Rattle.ledger.specs.Turn.{take_front, silence_front, drained, one_underrun, underrun, on_underrun, turn_idle}
use Rattle.ledger.specs.Commit.{send, commit_held, packets_held}
use Rattle.ledger.specs.Control.{give_back_held, started_ledger, start_idle, discard_all, in_flight_from, stop_idle, finish_idle}
use Rattle.ledger.specs.Turn as Turn
use Rattle.ledger.specs.Commit as Commit
use Rattle.ledger.specs.Control as Control
use Rattle.ledger.specs.Calls.{Call, turn, commit, commit_full, commit_packets, submitted, reaped, give_back, start, stop, finish, rule, lent_to, step_of}
use Rattle.ledger.proofs.Valid.{Valid}
use Rattle.ledger.proofs.Kept.{in_held, underrun-valid}
use Rattle.history.specs.Words.{Entry, said, asked, nothing_asked, six_or_nine}
use Rattle.history.specs.Sums.{is_turn}
use Rattle.history.proofs.Totals.{Adds, adds, stays, Moves, still}
use Rattle.history.proofs.Answers.{committed_back, says_plain, says-given-back}
use Rattle.history.proofs.Effects.{Agrees, quiet, stops}
use Rattle.history.proofs.Gates.{After, pick, says-refusal, at_rest, at-6, at_9, on-block, on-idle, on-held, at_take, at-policy, at_back, at-send, held-only}
use Rattle.history.proofs.Submits.{at-submitted}
use Rattle.history.proofs.Notices.{at-reaped}

module _ (s : Setup) (l : Ledger) (v : Valid s.slots l) (log : List Entry) (a : Agrees s l.hand l.queue l.marks log) where
  -- the commits
  at-commit : (c : Call) → asked c ≡ nothing_asked → (bytes : ℕ) (block : List ℕ) → After s c log l.totals (Commit.commit bytes s l block)
  unfolding Commit.commit commit_held said committed_back
  at-commit c plain bytes block =
      on-block s l v log a c (when_held (commit_held bytes)) block
      (on-held s l v log a c (commit_held bytes) block
      (λ i e.
      pick s c log l.totals (ltb (capacity_of s) bytes) (put_back i (Answer.Refused Error.CommitTooLong) l block)
      (send s i (lengths_of s bytes) l block)
      (at_back s l v log a i (in_held s.slots l v i e) (held-only s l v log a i e) c (Answer.Refused Error.CommitTooLong) block
      (says_plain s c (Answer.Refused Error.CommitTooLong) log plain))
      (at-send s l v log a i e c plain (lengths_of s bytes) block)))

  at-packets : (c : Call) → asked c ≡ nothing_asked → (lengths block : List ℕ) → After s c log l.totals (Commit.commit_packets lengths s l block)
  unfolding Commit.commit_packets packets_held said committed_back
  at-packets c plain lengths block =
      on-block s l v log a c (when_held (packets_held lengths)) block
      (on-held s l v log a c (packets_held lengths) block
      (λ i e.
      let count = put_back i (Answer.Refused Error.PacketCount) l block in
      let long = put_back i (Answer.Refused Error.PacketTooLong) l block in
      let above = any_above s.packet_bytes lengths in
      pick s c log l.totals (not (eqb (length lengths) s.packets_per_urb)) count (cond above long (send s i lengths l block))
      (at_back s l v log a i (in_held s.slots l v i e) (held-only s l v log a i e) c (Answer.Refused Error.PacketCount) block
      (says_plain s c (Answer.Refused Error.PacketCount) log plain))
      (pick s c log l.totals above long (send s i lengths l block)
      (at_back s l v log a i (in_held s.slots l v i e) (held-only s l v log a i e) c (Answer.Refused Error.PacketTooLong) block
      (says_plain s c (Answer.Refused Error.PacketTooLong) log plain))
      (at-send s l v log a i e c plain lengths block))))

  -- give_back, start, stop, finish
  at-give-back : (lent : List ℕ) → After s give_back log l.totals (Control.give_back s l lent)
  unfolding Control.give_back give_back_held
  at-give-back lent =
      on-held s l v log a give_back give_back_held lent
      (λ i e. at_back s l v log a i (in_held s.slots l v i e) (held-only s l v log a i e) give_back Answer.Done lent (says-given-back s log))

  at-started : (b : Bool) (lent : List ℕ) → After s start log l.totals (record { ledger = started_ledger b l; answer = Answer.Done; lent = lent })
  unfolding started_ledger with_flags said committed_back asked
  at-started true lent = at_rest s l v log a start Answer.Done lent (says_plain s start Answer.Done log refl)
  at-started false lent =
      let w = says_plain s start Answer.Done log refl in
      record { agrees = quiet _ a w; moves = still w l.totals; underruns-kept = refl }

  at-start : (lent : List ℕ) → After s start log l.totals (Control.start s l lent)
  unfolding Control.start start_idle
  at-start lent = on-idle s l v log a start start_idle lent (λ e. at-started l.started lent)

  at-stop : (list : List ℕ) → After s (stop list) log l.totals (Control.stop s l list)
  unfolding Control.stop stop_idle refused with_flags with_marks said committed_back asked
  at-stop list =
      on-idle s l v log a (stop list) stop_idle list
      (λ e.
      let slots = in_flight_from 0 l.marks in
      let w = says_plain s (stop list) (Answer.Stopped (length slots)) log refl in
      pick s (stop list) log l.totals (ltb (length list) (length slots)) (refused Error.ListTooShort l list)
      (record {
        ledger = with_flags false false (with_marks (discard_all l.marks) l);
        answer = Answer.Stopped (length slots);
        lent = slots ++ drop (length slots) list;
      })
      (at_rest s l v log a (stop list) (Answer.Refused Error.ListTooShort) list (says_plain s (stop list) (Answer.Refused Error.ListTooShort) log refl))
      (record { agrees = stops _ a w; moves = still w l.totals; underruns-kept = refl }))

  at-finish : (lent : List ℕ) → After s finish log l.totals (Control.finish s l lent)
  unfolding Control.finish finish_idle said committed_back asked
  at-finish lent = on-idle s l v log a finish finish_idle lent (λ e. by-outs (eqb (outs l.marks) 0))
    where
      by-outs : (b : Bool) → After s finish log l.totals (record { ledger = l; answer = cond b Answer.Yes (Answer.Refused Error.Disconnected); lent = lent })
      by-outs true = at_rest s l v log a finish Answer.Yes lent (says_plain s finish Answer.Yes log refl)
      by-outs false =
          at_rest s l v log a finish (Answer.Refused Error.Disconnected) lent (says-refusal s finish Error.Disconnected log refl refl)

-- After a call on the ledger l that gave x: the words agree, and every counter moved by the call's figure.
pub record Stepped (s : Setup) (c : Call) (log : List Entry) (l : Ledger) (x : Next) : Type 0 where
  pub agrees : Agrees s x.ledger.hand x.ledger.queue x.ledger.marks (record { call = c; answer = x.answer } ∷ log)
  pub moves : Moves s l.totals x.ledger.totals (record { call = c; answer = x.answer }) log
  pub underruns : Adds l.totals.underruns x.ledger.totals.underruns (one (is_turn c && not (six_or_nine x.answer) && drained l))

-- a call that counts no underrun
uncounted : (s : Setup) (c : Call) (log : List Entry) (l : Ledger) (x : Next) → one (is_turn c && not (six_or_nine x.answer) && drained l) ≡ 0 → After s c log l.totals x → Stepped s c log l x
uncounted s c log l x z p =
    record {
      agrees = p.agrees;
      moves = p.moves;
      underruns =
          subst (λ (u : ℕ). Adds l.totals.underruns u (one (is_turn c && not (six_or_nine x.answer) && drained l))) (sym p.underruns-kept)
          (stays l.totals.underruns _ z);
    }

-- an underrun: what it gave is neither 6 nor 9
take-said : (q : List ℕ) (l : Ledger) (block : List ℕ) → six_or_nine (take_front q l block).answer ≡ false
unfolding take_front six_or_nine said
take-said [] l block = refl
take-said (i ∷ rest) l block = refl

silence-said : (s : Setup) (left : ℕ) (q : List ℕ) (l : Ledger) (block : List ℕ) → six_or_nine (silence_front s left q l block).answer ≡ false
unfolding silence_front take_front six_or_nine said
silence-said s left [] l block = refl
silence-said s left (i ∷ rest) l block = refl

policy-said : (u : Underrun) (s : Setup) (l : Ledger) (block : List ℕ) → six_or_nine (on_underrun u s l block).answer ≡ false
unfolding on_underrun refused six_or_nine said
policy-said Underrun.Continue s l block = take-said l.queue l block
policy-said Underrun.FillSilence s l block = silence-said s 1 l.queue l block
policy-said Underrun.Error s l block = refl

counted : (s : Setup) (log : List Entry) (l : Ledger) (block : List ℕ) → drained l ≡ true → After s (turn block) log (underrun l).totals (on_underrun s.underrun s (underrun l) block) → Stepped s (turn block) log l (on_underrun s.underrun s (underrun l) block)
unfolding underrun one_underrun with_totals with_flags is_turn one
counted s log l block d p =
    record {
      agrees = p.agrees;
      moves =
          record {
            submitted = p.moves.submitted;
            completed-one = p.moves.completed-one;
            bytes-submitted = p.moves.bytes-submitted;
            bytes-transferred = p.moves.bytes-transferred;
            short-bytes = p.moves.short-bytes;
            packet-errors = p.moves.packet-errors;
            urb-errors = p.moves.urb-errors;
          };
      underruns =
          subst (λ (u : ℕ). Adds l.totals.underruns u (one (true && not (six_or_nine (on_underrun s.underrun s (underrun l) block).answer) && drained l))) (sym p.underruns-kept)
          (adds l.totals.underruns 1 _ one_more);
    }
  where
    one_more : one (true && not (six_or_nine (on_underrun s.underrun s (underrun l) block).answer) && drained l) ≡ 1
    one_more = ap₂ (λ (x y : Bool). one (true && not x && y)) (policy-said s.underrun s (underrun l) block) d

-- no underrun, for the ledger was not drained
undrained : (b : Bool) → one (true && b && false) ≡ 0
unfolding one
undrained true = refl
undrained false = refl

idle-stepped : (s : Setup) (l : Ledger) → Valid s.slots l → (log : List Entry) → Agrees s l.hand l.queue l.marks log → l.hand ≡ Hand.Idle → (block : List ℕ) (b : Bool) → drained l ≡ b → Stepped s (turn block) log l (cond b (on_underrun s.underrun s (underrun l) block) (take_front l.queue l block))
unfolding asked is_turn underrun with_totals with_flags
idle-stepped s l v log a idle block true d =
    counted s log l block d
    (at-policy s (underrun l) (underrun-valid s.slots l v) log a (turn block) refl idle s.underrun block)
idle-stepped s l v log a idle block false d =
    uncounted s (turn block) log l (take_front l.queue l block) (rw d (undrained (not (six_or_nine (take_front l.queue l block).answer))))
    (at_take s l v log a (turn block) refl idle l.queue refl block)

hand-stepped : (s : Setup) (l : Ledger) → Valid s.slots l → (log : List Entry) → Agrees s l.hand l.queue l.marks log → (block : List ℕ) (h : Hand) → l.hand ≡ h → Stepped s (turn block) log l (by_idle h (turn_idle s l block) (refused Error.WrongHand l block))
unfolding by_idle turn_idle refused is_turn six_or_nine said one
hand-stepped s l v log a block Hand.Idle e = idle-stepped s l v log a e block (drained l) refl
hand-stepped s l v log a block (Hand.Held i) e = uncounted s (turn block) log l _ refl (at_9 s l v log a (turn block) block)
hand-stepped s l v log a block (Hand.Sending i) e = uncounted s (turn block) log l _ refl (at_9 s l v log a (turn block) block)
hand-stepped s l v log a block (Hand.Silent i left) e = uncounted s (turn block) log l _ refl (at_9 s l v log a (turn block) block)

turn-stepped : (s : Setup) (l : Ledger) → Valid s.slots l → (log : List Entry) → Agrees s l.hand l.queue l.marks log → (block : List ℕ) → Stepped s (turn block) log l (Turn.turn s l block)
unfolding Turn.turn on_block when_idle refused is_turn six_or_nine said one
turn-stepped s l v log a block = by_length (eqb (length block) (total_of s))
  where
    by_length : (b : Bool) → Stepped s (turn block) log l (cond b (when_idle turn_idle s l block) (refused Error.BlockLength l block))
    by_length true = hand-stepped s l v log a block l.hand refl
    by_length false = uncounted s (turn block) log l _ refl (at-6 s l v log a (turn block) block)

-- the ten calls
pub step_after : (s : Setup) (l : Ledger) → Valid s.slots l → (log : List Entry) → Agrees s l.hand l.queue l.marks log → (c : Call) → Stepped s c log l (step_of s c l)
unfolding step_of rule lent_to Commit.commit_full asked is_turn one
step_after s l v log a (turn block) = turn-stepped s l v log a block
step_after s l v log a (commit bytes block) = uncounted s _ log l _ refl (at-commit s l v log a (commit bytes block) refl bytes block)
step_after s l v log a (commit_full block) = uncounted s _ log l _ refl (at-commit s l v log a (commit_full block) refl (capacity_of s) block)
step_after s l v log a (commit_packets lengths block) = uncounted s _ log l _ refl (at-packets s l v log a (commit_packets lengths block) refl lengths block)
step_after s l v log a (submitted r block) = uncounted s _ log l _ refl (at-submitted s l v log a r block)
step_after s l v log a (reaped r block) = uncounted s _ log l _ refl (at-reaped s l v log a r block)
step_after s l v log a give_back = uncounted s _ log l _ refl (at-give-back s l v log a [])
step_after s l v log a start = uncounted s _ log l _ refl (at-start s l v log a [])
step_after s l v log a (stop list) = uncounted s _ log l _ refl (at-stop s l v log a list)
step_after s l v log a finish = uncounted s _ log l _ refl (at-finish s l v log a [])
