-- The sums over a list after one more entry: conservation, and the eight counters.
-- Assumes nothing.
use mathlib.Core.Path.{◌≡◌, refl, sym, ap, ◌∙◌}
use mathlib.Core.Bool.{Bool, true, false, cond}
use mathlib.Core.List.{List, ◌∷◌}
use mathlib.Core.Option.{Option, none, some}
use Prim.Native.Nat.{ℕ, ◌+◌, ◌%◌, ◌^◌}
use native.Mathlib.Nat.{mod-add-mod, add_comm, zero-add}
use native.Mathlib.Omega.{arith}
use Rattle.layout.specs.declared.Setup.{Setup}
use Rattle.ring.specs.Slots.{one}
use Rattle.stream.specs.declared.Completion.{Completion}
use Rattle.stream.specs.declared.IsoStats.{IsoStats}
use Rattle.ledger.specs.Ledger.{Mark, outs, plus}
use Rattle.ledger.specs.Notice.{buffer_bytes, completion_of}
use Rattle.ledger.specs.Reaped.{one_completed, urb_error}
use Rattle.ledger.specs.Submitted.{one_submitted}
use Rattle.ledger.specs.Calls.{lent_to}
use Rattle.history.specs.Words.{Entry, after_discard}
use Rattle.history.specs.Sums.{total, of, acceptances, bytes_accepted, of_completed, completed, transferred, short_bytes, packet_errors, urb_errors, after_discards}
use Rattle.history.proofs.Entries.{Says}

-- Every acceptance was noticed, or its slot is out.
pub record Conserved (s : Setup) (marks : List Mark) (log : List Entry) : Type 0 where
  pub is : total acceptances log ≡ total (completed s) log + total (after_discards s) log + outs marks

module _ {s : Setup} {e : Entry} {log : List Entry} {acc ntc nam sub : Option ℕ} {back stp : Bool} (w : Says s e log acc ntc nam sub back stp) where
  pub acceptances-is : acceptances e log ≡ of acc (λ i. 1)
  unfolding acceptances
  acceptances-is = rw w.acc-is

  pub bytes-is : bytes_accepted s e log ≡ of acc (λ i. buffer_bytes s i (lent_to e.call))
  unfolding bytes_accepted
  bytes-is = rw w.acc-is

  pub completed-is : (figure : Completion → ℕ) → of_completed s figure e log ≡ of ntc (λ i. cond (after_discard i log) 0 (figure (completion_of s i false (lent_to e.call))))
  unfolding of_completed
  completed-is figure = rw w.ntc-is

  pub discards-is : after_discards s e log ≡ of ntc (λ i. one (after_discard i log))
  unfolding after_discards
  discards-is = rw w.ntc-is

-- of a notice exactly one of the two is 1
one_of_two : (b : Bool) → cond b 0 1 + one b ≡ 1
unfolding one
one_of_two true = refl
one_of_two false = refl

module _ {s : Setup} (e : Entry) {log : List Entry} {marks : List Mark} (c : Conserved s marks log) where
  pub conserved-kept : {nam sub : Option ℕ} {back stp : Bool} → Says s e log none none nam sub back stp → (now : List Mark) → outs now ≡ outs marks → Conserved s now (e ∷ log)
  unfolding total of completed
  conserved-kept w now same =
      record { is = omega (arith, acceptances-is w, completed-is w (λ x. 1), discards-is w, c.is) }

  pub conserved-accepted : {nam sub : Option ℕ} {back stp : Bool} (i : ℕ) → Says s e log (some i) none nam sub back stp → (now : List Mark) → outs now ≡ outs marks + 1 → Conserved s now (e ∷ log)
  unfolding total of completed
  conserved-accepted i w now more =
      record { is = omega (arith, acceptances-is w, completed-is w (λ x. 1), discards-is w, c.is) }

  pub conserved-noticed : {nam sub : Option ℕ} {back stp : Bool} (i : ℕ) → Says s e log none (some i) nam sub back stp → (now : List Mark) → outs now + 1 ≡ outs marks → Conserved s now (e ∷ log)
  unfolding total of completed
  conserved-noticed i w now less =
      record { is = omega (arith, acceptances-is w, completed-is w (λ x. 1), discards-is w, one_of_two (after_discard i log), c.is) }

-- a counter that adds the figure of one more call
pub added : (t sum x : ℕ) → t ≡ sum % 2 ^ 64 → plus t x ≡ (x + sum) % 2 ^ 64
unfolding plus
added t sum x e = ap (λ (k : ℕ). (k + x) % 2 ^ 64) e ∙ mod-add-mod sum (2 ^ 64) x ∙ ap (λ (k : ℕ). k % 2 ^ 64) (add_comm sum x)

-- a counter to which the call adds nothing
pub unmoved : (t sum x : ℕ) → t ≡ sum % 2 ^ 64 → x ≡ 0 → t ≡ (x + sum) % 2 ^ 64
unmoved t sum x e z = e ∙ ap (λ (k : ℕ). k % 2 ^ 64) (sym (ap (λ (k : ℕ). k + sum) z ∙ zero-add sum))

-- A counter that was a sum is the sum with one more figure.
unfoldable pub Adds : ℕ → ℕ → ℕ → Type 0
Adds t now figure = (sum : ℕ) → t ≡ sum % 2 ^ 64 → now ≡ (figure + sum) % 2 ^ 64

pub adds : (t x figure : ℕ) → figure ≡ x → Adds t (plus t x) figure
unfolding Adds
adds t x figure e sum p = rw e (added t sum x p)

pub stays : (t figure : ℕ) → figure ≡ 0 → Adds t t figure
unfolding Adds
stays t figure e sum p = unmoved t sum figure p e

-- The seven counters after one more entry; underruns are counted apart.
pub record Moves (s : Setup) (t now : IsoStats) (e : Entry) (log : List Entry) : Type 0 where
  pub submitted : Adds t.urbs_submitted now.urbs_submitted (acceptances e log)
  pub completed-one : Adds t.urbs_completed now.urbs_completed (completed s e log)
  pub bytes-submitted : Adds t.bytes_submitted now.bytes_submitted (bytes_accepted s e log)
  pub bytes-transferred : Adds t.bytes_transferred now.bytes_transferred (transferred s e log)
  pub short-bytes : Adds t.short_bytes now.short_bytes (short_bytes s e log)
  pub packet-errors : Adds t.packet_errors now.packet_errors (packet_errors s e log)
  pub urb-errors : Adds t.urb_errors now.urb_errors (urb_errors s e log)

module _ {s : Setup} {e : Entry} {log : List Entry} {nam sub : Option ℕ} {back stp : Bool} where
  -- neither accepted nor noticed
  pub still : Says s e log none none nam sub back stp → (t : IsoStats) → Moves s t t e log
  unfolding of completed transferred short_bytes packet_errors urb_errors
  still w t =
      record {
        submitted = stays _ _ (acceptances-is w);
        completed-one = stays _ _ (completed-is w _);
        bytes-submitted = stays _ _ (bytes-is w);
        bytes-transferred = stays _ _ (completed-is w _);
        short-bytes = stays _ _ (completed-is w _);
        packet-errors = stays _ _ (completed-is w _);
        urb-errors = stays _ _ (completed-is w _);
      }

  -- slot i accepted
  pub one-submitted : (i : ℕ) → Says s e log (some i) none nam sub back stp → (t : IsoStats) → Moves s t (one_submitted (buffer_bytes s i (lent_to e.call)) t) e log
  unfolding of completed transferred short_bytes packet_errors urb_errors one_submitted
  one-submitted i w t =
      record {
        submitted = adds _ _ _ (acceptances-is w);
        completed-one = stays _ _ (completed-is w _);
        bytes-submitted = adds _ _ _ (bytes-is w);
        bytes-transferred = stays _ _ (completed-is w _);
        short-bytes = stays _ _ (completed-is w _);
        packet-errors = stays _ _ (completed-is w _);
        urb-errors = stays _ _ (completed-is w _);
      }

  -- slot i noticed, not after a discard
  pub one-completed : (i : ℕ) → Says s e log none (some i) nam sub back stp → after_discard i log ≡ false → (t : IsoStats) → Moves s t (one_completed (completion_of s i false (lent_to e.call)) t) e log
  unfolding of completed transferred short_bytes packet_errors urb_errors one_completed
  one-completed i w d t =
      record {
        submitted = stays _ _ (acceptances-is w);
        completed-one = adds _ _ _ (figure (λ c. 1));
        bytes-submitted = stays _ _ (bytes-is w);
        bytes-transferred = adds _ _ _ (figure (λ c. c.actual_bytes));
        short-bytes = adds _ _ _ (figure (λ c. c.short_bytes));
        packet-errors = adds _ _ _ (figure (λ c. c.packet_errors));
        urb-errors = adds _ _ _ (figure (λ c. urb_error c.status));
      }
    where
      figure : (f : Completion → ℕ) → of_completed s f e log ≡ f (completion_of s i false (lent_to e.call))
      figure f = completed-is w f ∙ rw d

  -- slot i noticed after a discard
  pub none-completed : (i : ℕ) → Says s e log none (some i) nam sub back stp → after_discard i log ≡ true → (t : IsoStats) → Moves s t t e log
  unfolding of completed transferred short_bytes packet_errors urb_errors
  none-completed i w d t =
      record {
        submitted = stays _ _ (acceptances-is w);
        completed-one = stays _ _ (figure (λ c. 1));
        bytes-submitted = stays _ _ (bytes-is w);
        bytes-transferred = stays _ _ (figure (λ c. c.actual_bytes));
        short-bytes = stays _ _ (figure (λ c. c.short_bytes));
        packet-errors = stays _ _ (figure (λ c. c.packet_errors));
        urb-errors = stays _ _ (figure (λ c. urb_error c.status));
      }
    where
      figure : (f : Completion → ℕ) → of_completed s f e log ≡ 0
      figure f = completed-is w f ∙ rw d
