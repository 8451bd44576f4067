-- Any record that keeps step with the ledger of a list is as the sentences about the list say: it shows the ledger, and the words about the list
-- agree with the ledger (Lists). Assumes nothing.
use mathlib.Core.Path.{◌≡◌, refl, sym, ap, subst, ◌∙◌}
use mathlib.Core.Bool.{Bool, true, false}
use mathlib.Core.List.{List}
use Prim.Native.Nat.{ℕ, ◌+◌, ◌%◌, ◌^◌, ◌<◌}
use native.Mathlib.Nat.{mod-add-mod, add_assoc}
use Rattle.layout.specs.declared.Setup.{Setup}
use Rattle.layout.specs.Opening.{admissible}
use Rattle.ring.specs.declared.SlotState.{SlotState}
use Rattle.ring.specs.Counts.{times, how_many}
use Rattle.ring.specs.Parts.{queue_of, state_of}
use Rattle.ring.specs.Slots as Slots
use Rattle.ring.specs.Slots.{is_free, one, holds}
use Rattle.ring.proofs.Counts.{count_same}
use Rattle.stream.specs.declared.Stream.{Stream}
use Rattle.ledger.specs.Ledger.{Ledger, Mark, home, out, discarded, mark_of, outs, slot_state, state_in}
use Rattle.ledger.specs.Calls.{Call}
use Rattle.ledger.proofs.View.{view-state, facts}
use Rattle.history.specs.History.{ledger_after}
use Rattle.ledger.specs.Shown.{Shown, shown_by, shown_in}
use Rattle.history.specs.Words.{log_of}
use Rattle.history.specs.Words as Words
use Rattle.history.specs.Sums as Sums
use Rattle.history.specs.Demand3.{InOrder, Counted, HoldsAfter}
use Rattle.history.proofs.Runs.{InStep, valid-after}
use Rattle.history.proofs.Logs.{in-step-shown}
use Rattle.history.proofs.Marks.{gone}
use Rattle.history.proofs.Effects.{Agrees}
use Rattle.history.proofs.Lists.{list-agrees, list_counted}

-- a slot in hand is at home, so its state is out exactly when its mark is
state-gone : (held : Bool) (m : Mark) → (held ≡ true → m ≡ home) → Slots.is_out (slot_state held m) ≡ gone m
unfolding Slots.is_out slot_state gone
state-gone true m h = rw (h refl)
state-gone false home h = refl
state-gone false out h = refl
state-gone false discarded h = refl

state-held : (held : Bool) (m : Mark) → Slots.is_filling (slot_state held m) ≡ held
unfolding Slots.is_filling slot_state
state-held true m = refl
state-held false home = refl
state-held false out = refl
state-held false discarded = refl

-- a state is out, in hand or Free
one_state : (x : SlotState) → one (Slots.is_out x) + one (Slots.is_filling x) + one (is_free x) ≡ 1
unfolding one Slots.is_out Slots.is_filling is_free
one_state SlotState.Free = refl
one_state SlotState.Filling = refl
one_state SlotState.InFlight = refl
one_state SlotState.Discarding = refl

module _ (s : Setup) (ok : admissible s ≡ true) (h : List Call) (r : Stream) (k : InStep s r (ledger_after s h)) where
  below : (i : ℕ) → i < s.slots → i < r.setup.slots
  below i p = rw k.setup p

  words : Agrees s (ledger_after s h).hand (ledger_after s h).queue (ledger_after s h).marks (log_of s h)
  words = list-agrees s (valid-after s ok) h

  shown : shown_by r ≡ shown_in s (ledger_after s h)
  shown = in-step-shown s r (ledger_after s h) k

  shown-queue : queue_of r.ring ≡ (ledger_after s h).queue
  unfolding shown_by shown_in
  shown-queue = ap (λ (x : Shown). x.queue) shown

  state-is : (i : ℕ) → i < s.slots → state_of r.ring i ≡ state_in (ledger_after s h) i
  state-is i p = sym (view-state r k.ok k.wide i (below i p)) ∙ ap (λ (l : Ledger). state_in l i) k.shown

  out-words : (i : ℕ) → i < s.slots → Slots.is_out (state_of r.ring i) ≡ Words.is_out s i (log_of s h)
  unfolding state_in mark_of
  out-words i p =
      ap Slots.is_out (state-is i p) ∙
      state-gone (holds (ledger_after s h).hand i) (mark_of (ledger_after s h) i) ((valid-after s ok h).at_home i p) ∙
      sym (words.marks-agree.out-is i)

  hand-words : (i : ℕ) → i < s.slots → Slots.is_filling (state_of r.ring i) ≡ Words.in_hand s i (log_of s h)
  unfolding state_in
  hand-words i p =
      ap Slots.is_filling (state-is i p) ∙
      state-held (holds (ledger_after s h).hand i) (mark_of (ledger_after s h) i) ∙
      sym (words.hand-agrees.hand-is i)

  one_place : (i : ℕ) → i < s.slots → one (Words.is_out s i (log_of s h)) + one (Words.in_hand s i (log_of s h)) + times i (queue_of r.ring) ≡ 1
  one_place i p =
      rw
      (sym (out-words i p), sym (hand-words i p), (facts r k.ok k.wide).queued i (below i p))
      (one_state (state_of r.ring i))

  pub outs-words : outs (ledger_after s h).marks ≡ how_many s.slots (λ i. Words.is_out s i (log_of s h))
  unfolding shown_by shown_in
  outs-words =
      sym (ap (λ (x : Shown). x.out_count) shown) ∙
      (facts r k.ok k.wide).out ∙
      ap (λ (x : Setup). how_many x.slots (λ i. Slots.is_out (state_of r.ring i))) k.setup ∙
      count_same _ _ s.slots out-words

  counted : Counted s h r.stats
  unfolding shown_by shown_in
  counted = subst (Counted s h) (sym (ap (λ (x : Shown). x.counters) shown)) (list_counted s (valid-after s ok) h)

  conserved : r.stats.urbs_submitted ≡ (r.stats.urbs_completed + Sums.total (Sums.after_discards s) (log_of s h) + how_many s.slots (λ i. Words.is_out s i (log_of s h))) % 2 ^ 64
  conserved =
      let done = Sums.total (Sums.completed s) (log_of s h) in
      let back = Sums.total (Sums.after_discards s) (log_of s h) in
      let gone-out = how_many s.slots (λ i. Words.is_out s i (log_of s h)) in
      counted.submitted ∙
      ap (λ (n : ℕ). n % 2 ^ 64) (words.conserved.is ∙ ap (λ (n : ℕ). done + back + n) outs-words ∙ add_assoc done back gone-out) ∙
      sym (mod-add-mod done (2 ^ 64) (back + gone-out)) ∙
      ap (λ (n : ℕ). (n + (back + gone-out)) % 2 ^ 64) (sym counted.completed) ∙
      ap (λ (n : ℕ). n % 2 ^ 64) (sym (add_assoc r.stats.urbs_completed back gone-out))

  pub holds_after : HoldsAfter s h r
  holds_after =
      record {
        setup = k.setup;
        never-8 = k.ok;
        shows = shown;
        out = out-words;
        in-hand = hand-words;
        one_place = one_place;
        queue-order = subst (InOrder s (log_of s h)) (sym shown-queue) words.in_order;
        conservation = conserved;
        counters = counted;
      }
