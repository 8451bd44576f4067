-- submitted and reaped keep a ledger valid.
-- Assumes nothing.
use Rattle.std.specs.Prelude.{Option, Some, None, Result, Ok, Err}
use mathlib.Core.Path.{◌≡◌, refl, sym, ap, subst, ◌∙◌}
use mathlib.Core.Bool.{true}
use mathlib.Core.List.{List}
use Prim.Native.Nat.{ℕ, zero, suc, ◌≤◌, ◌<◌}
use native.Mathlib.Decide.{dec_lt}
use native.Mathlib.Omega.{arith}
use lib.ListN.{get_or-eq_default}
use Rattle.layout.specs.declared.Setup.{Setup}
use Rattle.ring.specs.declared.Hand.{Hand}
use Rattle.ring.specs.Slots.{holds}
use Rattle.ledger.specs.Ledger.{Ledger, Mark, home, out, discarded, with_hand, with_queue, with_marks, with_flags, with_totals, marked, mark_of, returned}
use Rattle.ledger.specs.Step.{refused, when_idle, put_back}
use Rattle.ledger.specs.Submitted.{accepted_ledger, submit_failed, sent, chained, silent, by_sending, submitted_hand, submitted}
use Rattle.ledger.specs.Notice.{slot_of_urb}
use Rattle.ledger.specs.Reaped.{noticed, by_address, by_errno, reaped_idle, reaped}
use Rattle.ledger.proofs.Valid.{Valid}
use Rattle.ledger.proofs.Moves.{brought-back, away-not-free}
use Rattle.ledger.proofs.Kept.{flagged, totalled, block-valid, idle-valid, slot_of, in-sending, in-silent, take-valid, silence-valid}

out≢home : out ≡ home → ⊥
out≢home e = let z : ◌≡◌ {A = ℕ} 0 1 = cc in omega arith

discarded≢home : discarded ≡ home → ⊥
discarded≢home e = let z : ◌≡◌ {A = ℕ} 0 1 = cc in omega arith

-- submitted
pub accepted-valid : (n : ℕ) (s : Setup) (i : ℕ) (l : Ledger) (block : List ℕ) → Valid n (with_hand Hand.Idle (marked i out l)) → Valid n (accepted_ledger s i l block)
unfolding accepted_ledger with_hand with_totals with_flags
accepted-valid n s i l block v = totalled n _ _ (flagged n l.started true _ v)

chained-valid : (n : ℕ) (s : Setup) (left : ℕ) (l : Ledger) (block : List ℕ) → Valid n l → l.hand ≡ Hand.Idle → left ≤ 1 → Valid n (chained s left l block).ledger
unfolding chained
chained-valid n s zero l block v e b = take-valid n l v e l.queue refl block
chained-valid n s (suc more) l block v e b = silence-valid n l v e s more (omega arith) l.queue refl block

accepted-idle : (s : Setup) (i : ℕ) (l : Ledger) (block : List ℕ) → (accepted_ledger s i l block).hand ≡ Hand.Idle
unfolding accepted_ledger with_hand
accepted-idle s i l block = refl

sent-valid : (n : ℕ) (s : Setup) (r : Result (Unit {0}) ℕ) (i : ℕ) (l : Ledger) (block : List ℕ) → Valid n (with_hand Hand.Idle (returned i l)) → Valid n (with_hand Hand.Idle (marked i out l)) → Valid n (sent r i s l block).ledger
unfolding sent submit_failed put_back
sent-valid n s (Ok tt) i l block v w = accepted-valid n s i l block w
sent-valid n s (Err e) i l block v w = v

silent-valid : (n : ℕ) (s : Setup) (r : Result (Unit {0}) ℕ) (i left : ℕ) (l : Ledger) (block : List ℕ) → left ≤ 1 → Valid n (with_hand Hand.Idle (returned i l)) → Valid n (with_hand Hand.Idle (marked i out l)) → Valid n (silent r i left s l block).ledger
unfolding silent submit_failed put_back
silent-valid n s (Ok tt) i left l block b v w =
    chained-valid n s left (accepted_ledger s i l block) block (accepted-valid n s i l block w) (accepted-idle s i l block) b
silent-valid n s (Err e) i left l block b v w = v

sending-valid : (n : ℕ) (s : Setup) (r : Result (Unit {0}) ℕ) (l : Ledger) (block : List ℕ) → Valid n l → (h : Hand) → l.hand ≡ h → Valid n (by_sending r h s l block).ledger
unfolding by_sending refused holds
sending-valid n s r l block v Hand.Idle e = v
sending-valid n s r l block v (Hand.Held i) e = v
sending-valid n s r l block v (Hand.Sending i) e =
    let w = slot_of n l v (Hand.Sending i) i e (λ j. refl) (in-sending n l v i e) in
    sent-valid n s r i l block w.0 w.1
sending-valid n s r l block v (Hand.Silent i left) e =
    let w = slot_of n l v (Hand.Silent i left) i e (λ j. refl) (in-silent n l v i left e).0 in
    silent-valid n s r i left l block (in-silent n l v i left e).1 w.0 w.1

pub submitted-valid : (n : ℕ) (r : Result (Unit {0}) ℕ) (s : Setup) (l : Ledger) (block : List ℕ) → Valid n l → Valid n (submitted r s l block).ledger
unfolding submitted submitted_hand
submitted-valid n r s l block v = block-valid n (submitted_hand r) s l block v (sending-valid n s r l block v l.hand refl)

-- reaped
-- a slot that is not at home is one of n
pub away-below : (n : ℕ) (l : Ledger) → Valid n l → (i : ℕ) → (mark_of l i ≡ home → ⊥) → i < n
unfolding mark_of
away-below n l v i away = go (dec_lt i n)
  where
    go : Dec (i < n) → i < n
    go (yes p) = p
    go (no p) = absurd (away (get_or-eq_default l.marks home (rw v.long (omega arith))))

notice-back : (n : ℕ) (l : Ledger) → Valid n l → l.hand ≡ Hand.Idle → (i : ℕ) → (mark_of l i ≡ home → ⊥) → Valid n (returned i l)
unfolding returned with_queue marked with_marks with_hand holds
notice-back n l v e i away =
    subst (λ (h : Hand). Valid n (with_hand h (returned i l))) (sym e)
    (brought-back n l v i (away-below n l v i away) (λ j d. ap (λ (h : Hand). holds h j) e) (away-not-free l i away))

noticed-valid : (n : ℕ) (s : Setup) (l : Ledger) → Valid n l → l.hand ≡ Hand.Idle → (i : ℕ) (m : Mark) → mark_of l i ≡ m → (block : List ℕ) → Valid n (noticed s m i l block).ledger
unfolding noticed refused
noticed-valid n s l v e i home p block = v
noticed-valid n s l v e i out p block = totalled n _ _ (notice-back n l v e i (λ q. out≢home (sym p ∙ q)))
noticed-valid n s l v e i discarded p block = notice-back n l v e i (λ q. discarded≢home (sym p ∙ q))

address-valid : (n : ℕ) (s : Setup) (l : Ledger) → Valid n l → l.hand ≡ Hand.Idle → (f : Option ℕ) (block : List ℕ) → Valid n (by_address s f l block).ledger
unfolding by_address
address-valid n s l v e None block = v
address-valid n s l v e (Some i) block = noticed-valid n s l v e i (mark_of l i) refl block

reaping-valid : (n : ℕ) (s : Setup) (l : Ledger) → Valid n l → l.hand ≡ Hand.Idle → (r : Result ℕ ℕ) (block : List ℕ) → Valid n (reaped_idle r s l block).ledger
unfolding reaped_idle by_errno
reaping-valid n s l v e (Err x) block = v
reaping-valid n s l v e (Ok a) block = address-valid n s l v e (slot_of_urb s a block) block

pub reaped-valid : (n : ℕ) (r : Result ℕ ℕ) (s : Setup) (l : Ledger) (block : List ℕ) → Valid n l → Valid n (reaped r s l block).ledger
unfolding reaped
reaped-valid n r s l block v =
    block-valid n (when_idle (reaped_idle r)) s l block v
    (idle-valid n (reaped_idle r) s l block v (λ e. reaping-valid n s l v e r block))
