-- Request 2026-12: shutting a hall down. A record in step with the ledger answers finish as the ledger does: none is out exactly when each slot
-- out at the stop was named since (Since.out-since), and the counters are sums to which the calls since add nothing. Assumes nothing.
use Prim.Native.Nat.{ℕ, zero, suc, ◌+◌, ◌%◌, ◌^◌}
use native.Mathlib.Nat.{zero-add}
use native.Mathlib.Omega.{arith}
use mathlib.Core.Path.{◌≡◌, refl, sym, ap, ◌∙◌}
use mathlib.Core.Bool.{Bool, true, false, cond, not, ◌||◌, ◌&&◌}
use mathlib.Core.List.{List, [], ◌∷◌, ◌++◌}
use lib.Dec.{eqb}
use borrow.Author.Tests.{ne_eqb}
use Rattle.error.specs.declared.Error.{Error}
use Rattle.layout.specs.declared.Setup.{Setup}
use Rattle.layout.specs.Opening.{admissible}
use Rattle.ring.specs.declared.Hand.{Hand}
use Rattle.ring.specs.Counts.{every_slot, how_many}
use Rattle.ring.specs.Slots.{one}
use Rattle.stream.specs.declared.Answer.{Answer}
use Rattle.stream.specs.declared.IsoStats.{IsoStats}
use Rattle.stream.specs.declared.Stream.{Stream}
use Rattle.opening.specs.Open.{open_outcome}
use Rattle.opening.proofs.Outcome.{done-admissible, admissible-done}
use Rattle.ledger.specs.Ledger.{Ledger, outs, opened_ledger}
use Rattle.ledger.specs.Step.{Next, by_idle, when_idle}
use Rattle.ledger.specs.Record.{Outcome}
use Rattle.ledger.specs.Control.{finish_idle}
use Rattle.ledger.specs.Control as Control
use Rattle.ledger.specs.Calls.{Call, stop, finish, rule, lent_to, step_of, made}
use Rattle.ledger.specs.Told.{Told}
use Rattle.ledger.proofs.Calls.{told-answer}
use Rattle.history.specs.History.{ledger_after, record_after}
use Rattle.history.specs.Words.{Entry, log_of, said, asked, is_slot, is_out, after_discard}
use Rattle.history.specs.Sums.{total, acceptances, bytes_accepted, completed, transferred, short_bytes, packet_errors, urb_errors}
use Rattle.history.specs.Demand3.{Counted}
use Rattle.history.specs.Reached.{Reached, next}
use Rattle.history.specs.Shutdown.{only_reaped_and_finish, log_since, is_noticed, all_noticed, finish_says, ShutDown}
use Rattle.history.proofs.Entries.{out-next}
use Rattle.history.proofs.Answers.{says_plain}
use Rattle.history.proofs.Runs.{InStep, in_step, in-step-made, opened-in-step}
use Rattle.history.proofs.Holds.{outs-words, holds_after}
use Rattle.history.proofs.Reached.{reached-is, after-append}
use Rattle.history.proofs.Idle.{stop-idle, stop-totals}
use Rattle.history.proofs.Since.{AddsNothing, acceptances-nothing, bytes-nothing, completed-nothing, out-since, total-since, underruns-since, hand-since}

-- none passes a test exactly when every slot passes its opposite
none_pass : (f g : ℕ → Bool) → ((i : ℕ) → g i ≡ not (f i)) → (n : ℕ) → eqb (how_many n f) 0 ≡ every_slot n g
unfolding how_many every_slot one
none_pass f g p zero = refl
none_pass f g p (suc n) = rw (p n, sym (none_pass f g p n)) (step (f n) (how_many n f))
  where
    step : (b : Bool) (k : ℕ) → eqb (one b + k) 0 ≡ (not b && eqb k 0)
    step true k = ne_eqb (1 + k) 0 (λ e. omega arith)
    step false k = rw zero-add

-- not both out and unnamed
not-out : (x m : Bool) → (not x || m) ≡ not (x && not m)
not-out true true = refl
not-out true false = refl
not-out false m = refl

-- finish on a ledger whose hand is Idle
finish-idle : (s : Setup) (l : Ledger) → l.hand ≡ Hand.Idle → step_of s finish l ≡ record { ledger = l; answer = cond (eqb (outs l.marks) 0) Answer.Yes (Answer.Refused Error.Disconnected); lent = [] }
unfolding step_of rule lent_to Control.finish when_idle by_idle finish_idle
finish-idle s l e = rw e

-- sums modulo 2^64 of the same number are the same
same_sum : {a b x y : ℕ} → a ≡ x % 2 ^ 64 → b ≡ y % 2 ^ 64 → x ≡ y → a ≡ b
same_sum p q e = p ∙ ap (λ (n : ℕ). n % 2 ^ 64) e ∙ sym q

-- a stop that gave Done after `before`, and the calls since
module _ (s : Setup) (ok : admissible s ≡ true) (before : List Call) (list : List ℕ) (done : (said (step_of s (stop list) (ledger_after s before)).answer).stopped ≡ true) (since : List Call) (only : only_reaped_and_finish since ≡ true) where
  abbrev stopped : List Call
  stopped = stop list ∷ before

  discards : (i : ℕ) → after_discard i (log_of s stopped) ≡ true
  unfolding log_of after_discard
  discards i = rw done

  idle : (ledger_after s (since ++ stopped)).hand ≡ Hand.Idle
  unfolding ledger_after step_of rule lent_to
  idle = hand-since s stopped since only ∙ stop-idle s (ledger_after s before) list done

  same-counters : (t now : IsoStats) → Counted s stopped t → Counted s (since ++ stopped) now → now ≡ t
  unfolding completed transferred short_bytes packet_errors urb_errors
  same-counters t now a b =
      λ i.
      record {
        urbs_submitted = same_sum b.submitted a.submitted (same acceptances acceptances-nothing) i;
        urbs_completed = same_sum b.completed a.completed (same (completed s) (completed-nothing s _)) i;
        bytes_submitted = same_sum b.bytes-submitted a.bytes-submitted (same (bytes_accepted s) (bytes-nothing s)) i;
        bytes_transferred = same_sum b.bytes-transferred a.bytes-transferred (same (transferred s) (completed-nothing s _)) i;
        short_bytes = same_sum b.short-bytes a.short-bytes (same (short_bytes s) (completed-nothing s _)) i;
        packet_errors = same_sum b.packet-errors a.packet-errors (same (packet_errors s) (completed-nothing s _)) i;
        urb_errors = same_sum b.urb-errors a.urb-errors (same (urb_errors s) (completed-nothing s _)) i;
        underruns = same_sum b.underruns a.underruns (underruns-since s stopped since only) i;
      }
    where
      same : (figure : Entry → List Entry → ℕ) → AddsNothing figure → total figure (log_of s (since ++ stopped)) ≡ total figure (log_of s stopped)
      same figure z = total-since s stopped figure z discards since only

  module _ (r : Stream) (k : InStep s r (ledger_after s (since ++ stopped))) where
    none_out : eqb (outs (ledger_after s (since ++ stopped)).marks) 0 ≡ all_noticed s stopped since
    unfolding all_noticed
    none_out =
        ap (λ (n : ℕ). eqb n 0) (outs-words s ok (since ++ stopped) r k) ∙
        none_pass _ _ (λ i. not-out (is_out s i (log_of s stopped)) (is_noticed s i (log_since s stopped since)) ∙ ap not (sym (out-since s stopped i since only))) s.slots

    -- finish on the ledger: nothing differs
    pub finish-next : step_of s finish (ledger_after s (since ++ stopped)) ≡ record { ledger = ledger_after s (since ++ stopped); answer = finish_says s stopped since; lent = [] }
    unfolding finish_says
    finish-next =
        finish-idle s (ledger_after s (since ++ stopped)) idle ∙
        ap
        (λ (b : Bool). record { ledger = ledger_after s (since ++ stopped); answer = cond b Answer.Yes (Answer.Refused Error.Disconnected); lent = [] })
        none_out

    -- whatever holds the record, where it is in step with the ledger
    pub shut-down-after : (at_stop : Stream) → InStep s at_stop (ledger_after s stopped) → ShutDown s stopped since at_stop r
    shut-down-after at_stop k₀ =
        record {
          says =
              ap (λ (o : Outcome). o.answer) (in-step-made s r (ledger_after s (since ++ stopped)) k finish) ∙
              ap (λ (x : Next). x.answer) finish-next;
          counters = same-counters at_stop.stats r.stats (holds_after s ok stopped at_stop k₀).counters (holds_after s ok (since ++ stopped) r k).counters;
        }

-- "At the stop" is just before it as well as just after it: the same slots are out, and the totals are the same.
pub same-at-stop : (s : Setup) (before : List Call) (list : List ℕ) → ((i : ℕ) → is_out s i (log_of s (stop list ∷ before)) ≡ is_out s i (log_of s before)) × ((ledger_after s (stop list ∷ before)).totals ≡ (ledger_after s before).totals)
unfolding log_of ledger_after step_of rule lent_to asked is_slot
same-at-stop s before list = (λ i. out-next (says_plain s (stop list) _ (log_of s before) refl) i, stop-totals s (ledger_after s before) list)

-- the record after a list, and after the calls since
module _ (s : Setup) (first : Stream) (start : InStep s first (opened_ledger s.slots)) (ok : admissible s ≡ true) (before : List Call) (list : List ℕ) (k : ℕ) (done : (made (stop list) (record_after first before)).answer ≡ Answer.Stopped k) (since : List Call) (only : only_reaped_and_finish since ≡ true) where
  gave-done : (said (step_of s (stop list) (ledger_after s before)).answer).stopped ≡ true
  unfolding said
  gave-done =
      ap (λ (a : Answer). (said a).stopped)
      (sym (ap (λ (o : Outcome). o.answer) (in-step-made s (record_after first before) (ledger_after s before) (in_step s first start before) (stop list))) ∙ done)

  shut-down-made : ShutDown s (stop list ∷ before) since (record_after first (stop list ∷ before)) (record_after first (since ++ (stop list ∷ before)))
  shut-down-made =
      shut-down-after s ok before list gave-done since only (record_after first (since ++ (stop list ∷ before))) (in_step s first start (since ++ (stop list ∷ before)))
      (record_after first (stop list ∷ before)) (in_step s first start (stop list ∷ before))

-- THE THEOREM: wherever opening answers Done, for every list of calls that ends in a stop that gave Done, and every list of reaped and finish
-- after it.
pub shut-down :
    (s : Setup) (block : List ℕ) → (open_outcome s block).answer ≡ Answer.Done →
    (before : List Call) (list : List ℕ) (k : ℕ) → (made (stop list) (record_after (open_outcome s block).stream before)).answer ≡ Answer.Stopped k →
    (since : List Call) → only_reaped_and_finish since ≡ true →
    ShutDown s (stop list ∷ before) since (record_after (open_outcome s block).stream (stop list ∷ before)) (record_after (open_outcome s block).stream (since ++ (stop list ∷ before)))
shut-down s block opens before list k done since only =
    let open-values = done-admissible s block opens in
    let ok = open-values.0 in
    let is = admissible-done s block ok open-values.1 in
    shut-down-made s (open_outcome s block).stream (rw is (opened-in-step s ok)) ok before list k done since only

-- The same of a record that is lent, and of one kept by value: whatever the calls answer and leave, where each keeps its promise (Told).
pub shut-down-lent :
    (s : Setup) (block : List ℕ) → (open_outcome s block).answer ≡ Answer.Done →
    {before : List Call} {was at_stop : Stream} {left : List ℕ} (list : List ℕ) (k : ℕ) → Reached (open_outcome s block).stream before was → Told (stop list) was (Answer.Stopped k) at_stop left →
    {since : List Call} {r : Stream} → only_reaped_and_finish since ≡ true → Reached at_stop since r →
    {a : Answer} {after : Stream} {rest : List ℕ} → Told finish r a after rest →
    ShutDown s (stop list ∷ before) since at_stop r × (a ≡ finish_says s (stop list ∷ before) since)
shut-down-lent s block opens {before} {was} {at_stop} {left} list k reached stops {since} {r} only later {a} {after} {rest} finishes =
    (holds, told-answer finish r finishes ∙ holds.says)
  where
    first : Stream
    first = (open_outcome s block).stream

    at-stop : at_stop ≡ record_after first (stop list ∷ before)
    at-stop = reached-is (next reached stops)

    now-is : r ≡ record_after first (since ++ (stop list ∷ before))
    now-is = reached-is later ∙ ap (λ (x : Stream). record_after x since) at-stop ∙ sym (after-append first since (stop list ∷ before))

    done : (made (stop list) (record_after first before)).answer ≡ Answer.Stopped k
    done = ap (λ (x : Stream). (made (stop list) x).answer) (sym (reached-is reached)) ∙ sym (told-answer (stop list) was stops)

    holds : ShutDown s (stop list ∷ before) since at_stop r
    holds = rw (at-stop, now-is) (shut-down s block opens before list k done since only)
