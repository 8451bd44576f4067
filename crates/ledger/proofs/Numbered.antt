-- No rule answers 8: what a rule can end with is looked at outcome by outcome, and its tests only choose between outcomes.
-- Assumes nothing.
use Rattle.std.specs.Prelude.{Option, Some, None, Result, Ok, Err}
use Prim.Native.Nat.{ℕ, zero, suc}
use mathlib.Core.Path.{◌≡◌, refl}
use mathlib.Core.Bool.{Bool, true, false, cond, not, ◌||◌}
use mathlib.Core.List.{List, [], ◌∷◌}
use lib.Dec.{ltb, eqb}
use lib.ListN.{length}
use borrow.Author.Tests.{eqb-false}
use Rattle.error.specs.declared.Error.{Error}
use Rattle.error.specs.declared.ErrnoContext.{ErrnoContext}
use Rattle.error.specs.Errno.{out_of_memory, from_errno}
use Rattle.layout.specs.declared.Setup.{Setup}
use Rattle.layout.specs.declared.Underrun.{Underrun}
use Rattle.layout.specs.Layout.{any_above}
use Rattle.layout.specs.Opening.{total_of, capacity_of}
use Rattle.ring.specs.declared.Hand.{Hand}
use Rattle.stream.specs.declared.Answer.{Answer}
use Rattle.stream.specs.Numbers.{numbers_of}
use Rattle.ledger.specs.Ledger.{Ledger, Mark, home, out, discarded, mark_of, outs}
use Rattle.ledger.specs.Notice.{slot_of_urb, completion_of}
use Rattle.ledger.specs.Step.{Next, Rule, refused, on_block, by_idle, when_idle, by_held, when_held, put_back}
use Rattle.ledger.specs.Turn.{take_front, silence_front, drained, underrun, on_underrun, turn_idle}
use Rattle.ledger.specs.Turn as Turn
use Rattle.ledger.specs.Commit.{send, commit_held, packets_held}
use Rattle.ledger.specs.Commit as Commit
use Rattle.ledger.specs.Submitted.{accepted_ledger, submit_failed, sent, chained, silent, by_sending, submitted_hand}
use Rattle.ledger.specs.Submitted as Submitted
use Rattle.ledger.specs.Reaped.{is_gone, noticed, by_address, by_errno, reaped_idle}
use Rattle.ledger.specs.Reaped as Reaped
use Rattle.ledger.specs.Control.{give_back_held, start_idle, in_flight_from, stop_idle, finish_idle}
use Rattle.ledger.specs.Control as Control
use Rattle.ledger.specs.Calls.{Call, turn, commit, commit_full, commit_packets, submitted, reaped, give_back, start, stop, finish, rule, step_of}

-- an answer, and an outcome, whose number is not 8
abbrev Other : Answer → Type 0
Other a = eqb (numbers_of a).number 8 ≡ false

abbrev Ends : Next → Type 0
Ends x = Other x.answer

-- a test between two
either : {A : Type 0} (P : A → Type 0) (b : Bool) (x y : A) → P x → P y → P (cond b x y)
either P true x y p q = p
either P false x y p q = q

-- the refusals by an errno
abbrev Refuses : Error → Type 0
Refuses e = Other (Answer.Refused e)

memory-other : (e : ℕ) (c : ErrnoContext) → Refuses (out_of_memory e c)
unfolding numbers_of out_of_memory
memory-other e (ErrnoContext.Submit bytes) = refl
memory-other e ErrnoContext.Other = refl

errno-other : (e : ℕ) (c : ErrnoContext) → Refuses (from_errno e c)
unfolding numbers_of from_errno
errno-other e c =
    either Refuses (eqb e 19 || eqb e 108) Error.Disconnected _ refl
    (either Refuses (eqb e 12) (out_of_memory e c) _ (memory-other e c)
    (either Refuses (eqb e 13 || eqb e 1) Error.PermissionDenied _ refl
    (either Refuses (eqb e 25) Error.Unsupported (Error.Io e) refl refl)))

-- the gates
module _ (s : Setup) (l : Ledger) (lent : List ℕ) where
  block-ends : (rule : Rule) → Ends (rule s l lent) → Ends (on_block rule s l lent)
  unfolding on_block refused numbers_of
  block-ends rule p = either Ends (eqb (length lent) (total_of s)) (rule s l lent) (refused Error.BlockLength l lent) p refl

  idle-ends : (rule : Rule) → Ends (rule s l lent) → Ends (when_idle rule s l lent)
  unfolding when_idle by_idle refused numbers_of
  idle-ends rule p = by l.hand
    where
      by : (h : Hand) → Ends (by_idle h (rule s l lent) (refused Error.WrongHand l lent))
      by Hand.Idle = p
      by (Hand.Held i) = refl
      by (Hand.Sending i) = refl
      by (Hand.Silent i left) = refl

  held-ends : (rule : ℕ → Rule) → ((i : ℕ) → Ends (rule i s l lent)) → Ends (when_held rule s l lent)
  unfolding when_held by_held refused numbers_of
  held-ends rule p = by l.hand
    where
      by : (h : Hand) → Ends (by_held h (λ i. rule i s l lent) (refused Error.WrongHand l lent))
      by Hand.Idle = refl
      by (Hand.Held i) = p i
      by (Hand.Sending i) = refl
      by (Hand.Silent i left) = refl

  back-ends : (i : ℕ) (a : Answer) → Other a → Ends (put_back i a l lent)
  unfolding put_back
  back-ends i a p = p

-- turn's taking
take_ends : (q : List ℕ) (l : Ledger) (block : List ℕ) → Ends (take_front q l block)
unfolding take_front numbers_of
take_ends [] l block = refl
take_ends (i ∷ rest) l block = refl

silence-ends : (s : Setup) (left : ℕ) (q : List ℕ) (l : Ledger) (block : List ℕ) → Ends (silence_front s left q l block)
unfolding silence_front numbers_of
silence-ends s left [] l block = take_ends [] l block
silence-ends s left (i ∷ rest) l block = refl

policy-ends : (u : Underrun) (s : Setup) (l : Ledger) (block : List ℕ) → Ends (on_underrun u s l block)
unfolding on_underrun refused numbers_of
policy-ends Underrun.Continue s l block = take_ends l.queue l block
policy-ends Underrun.FillSilence s l block = silence-ends s 1 l.queue l block
policy-ends Underrun.Error s l block = refl

turn-ends : (s : Setup) (l : Ledger) (block : List ℕ) → Ends (Turn.turn s l block)
unfolding Turn.turn turn_idle
turn-ends s l block =
    block-ends s l block (when_idle turn_idle)
    (idle-ends s l block turn_idle
    (either Ends (drained l) (on_underrun s.underrun s (underrun l) block) (take_front l.queue l block)
    (policy-ends s.underrun s (underrun l) block) (take_ends l.queue l block)))

-- the commits
send-ends : (s : Setup) (i : ℕ) (lengths : List ℕ) (l : Ledger) (block : List ℕ) → Ends (send s i lengths l block)
unfolding send numbers_of
send-ends s i lengths l block = refl

commit-ends : (bytes : ℕ) (s : Setup) (l : Ledger) (block : List ℕ) → Ends (Commit.commit bytes s l block)
unfolding Commit.commit commit_held numbers_of
commit-ends bytes s l block =
    block-ends s l block (when_held (commit_held bytes))
    (held-ends s l block (commit_held bytes)
    (λ i. either Ends (ltb (capacity_of s) bytes) (put_back i (Answer.Refused Error.CommitTooLong) l block) _
    (back-ends s l block i (Answer.Refused Error.CommitTooLong) refl) (send-ends s i _ l block)))

packets-ends : (lengths : List ℕ) (s : Setup) (l : Ledger) (block : List ℕ) → Ends (Commit.commit_packets lengths s l block)
unfolding Commit.commit_packets packets_held numbers_of
packets-ends lengths s l block =
    block-ends s l block (when_held (packets_held lengths))
    (held-ends s l block (packets_held lengths)
    (λ i. either Ends (not (eqb (length lengths) s.packets_per_urb)) (put_back i (Answer.Refused Error.PacketCount) l block) _
    (back-ends s l block i (Answer.Refused Error.PacketCount) refl)
    (either Ends (any_above s.packet_bytes lengths) (put_back i (Answer.Refused Error.PacketTooLong) l block) _
    (back-ends s l block i (Answer.Refused Error.PacketTooLong) refl) (send-ends s i lengths l block))))

-- submitted
failed_ends : (s : Setup) (i e : ℕ) (l : Ledger) (block : List ℕ) → Ends (submit_failed s i e l block)
unfolding submit_failed
failed_ends s i e l block = back-ends s l block i _ (errno-other e _)

chained-ends : (s : Setup) (left : ℕ) (l : Ledger) (block : List ℕ) → Ends (chained s left l block)
unfolding chained
chained-ends s zero l block = take_ends l.queue l block
chained-ends s (suc more) l block = silence-ends s more l.queue l block

sent-ends : (r : Result (Unit {0}) ℕ) (i : ℕ) (s : Setup) (l : Ledger) (block : List ℕ) → Ends (sent r i s l block)
unfolding sent numbers_of
sent-ends (Ok tt) i s l block = refl
sent-ends (Err e) i s l block = failed_ends s i e l block

silent-ends : (r : Result (Unit {0}) ℕ) (i left : ℕ) (s : Setup) (l : Ledger) (block : List ℕ) → Ends (silent r i left s l block)
unfolding silent
silent-ends (Ok tt) i left s l block = chained-ends s left (accepted_ledger s i l block) block
silent-ends (Err e) i left s l block = failed_ends s i e l block

sending-ends : (r : Result (Unit {0}) ℕ) (h : Hand) (s : Setup) (l : Ledger) (block : List ℕ) → Ends (by_sending r h s l block)
unfolding by_sending refused numbers_of
sending-ends r Hand.Idle s l block = refl
sending-ends r (Hand.Held i) s l block = refl
sending-ends r (Hand.Sending i) s l block = sent-ends r i s l block
sending-ends r (Hand.Silent i left) s l block = silent-ends r i left s l block

submitted-ends : (r : Result (Unit {0}) ℕ) (s : Setup) (l : Ledger) (block : List ℕ) → Ends (Submitted.submitted r s l block)
unfolding Submitted.submitted submitted_hand
submitted-ends r s l block = block-ends s l block (submitted_hand r) (sending-ends r l.hand s l block)

-- reaped
noticed-ends : (s : Setup) (m : Mark) (i : ℕ) (l : Ledger) (block : List ℕ) → Ends (noticed s m i l block)
unfolding noticed refused numbers_of
noticed-ends s home i l block = refl
noticed-ends s out i l block =
    let c = completion_of s i false block in
    either Other (is_gone c.status) (Answer.Refused Error.Disconnected) (Answer.Completed c) refl refl
noticed-ends s discarded i l block = refl

address-ends : (s : Setup) (f : Option ℕ) (l : Ledger) (block : List ℕ) → Ends (by_address s f l block)
unfolding by_address numbers_of
address-ends s None l block = refl
address-ends s (Some i) l block = noticed-ends s (mark_of l i) i l block

reaping-ends : (r : Result ℕ ℕ) (s : Setup) (l : Ledger) (block : List ℕ) → Ends (reaped_idle r s l block)
unfolding reaped_idle by_errno numbers_of
reaping-ends (Err e) s l block = either Other (eqb e 11) Answer.Nothing _ refl (errno-other e ErrnoContext.Other)
reaping-ends (Ok a) s l block = address-ends s (slot_of_urb s a block) l block

reaped-ends : (r : Result ℕ ℕ) (s : Setup) (l : Ledger) (block : List ℕ) → Ends (Reaped.reaped r s l block)
unfolding Reaped.reaped
reaped-ends r s l block = block-ends s l block (when_idle (reaped_idle r)) (idle-ends s l block (reaped_idle r) (reaping-ends r s l block))

-- give_back, start, stop, finish
give-back-ends : (s : Setup) (l : Ledger) (lent : List ℕ) → Ends (Control.give_back s l lent)
unfolding Control.give_back give_back_held numbers_of
give-back-ends s l lent = held-ends s l lent give_back_held (λ i. back-ends s l lent i Answer.Done refl)

start-ends : (s : Setup) (l : Ledger) (lent : List ℕ) → Ends (Control.start s l lent)
unfolding Control.start start_idle numbers_of
start-ends s l lent = idle-ends s l lent start_idle refl

stop-ends : (s : Setup) (l : Ledger) (list : List ℕ) → Ends (Control.stop s l list)
unfolding Control.stop stop_idle refused numbers_of
stop-ends s l list =
    idle-ends s l list stop_idle
    (either Ends (ltb (length list) (length (in_flight_from 0 l.marks))) (refused Error.ListTooShort l list) _ refl refl)

finish-ends : (s : Setup) (l : Ledger) (lent : List ℕ) → Ends (Control.finish s l lent)
unfolding Control.finish finish_idle numbers_of
finish-ends s l lent =
    idle-ends s l lent finish_idle (either Other (eqb (outs l.marks) 0) Answer.Yes (Answer.Refused Error.Disconnected) refl refl)

step-ends : (s : Setup) (c : Call) (l : Ledger) → Ends (step_of s c l)
unfolding step_of rule Commit.commit_full
step-ends s (turn block) l = turn-ends s l _
step-ends s (commit bytes block) l = commit-ends bytes s l _
step-ends s (commit_full block) l = commit-ends (capacity_of s) s l _
step-ends s (commit_packets lengths block) l = packets-ends lengths s l _
step-ends s (submitted reply block) l = submitted-ends reply s l _
step-ends s (reaped reply block) l = reaped-ends reply s l _
step-ends s give_back l = give-back-ends s l _
step-ends s start l = start-ends s l _
step-ends s (stop list) l = stop-ends s l _
step-ends s finish l = finish-ends s l _

pub never-8 : (s : Setup) (c : Call) (l : Ledger) → (numbers_of (step_of s c l).answer).number ≡ 8 → ⊥
never-8 s c l = eqb-false _ 8 (step-ends s c l)
