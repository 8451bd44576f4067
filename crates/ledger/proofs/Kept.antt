-- Every rule keeps a ledger valid: each ends with the ledger as it was, or after one of the moves. Here the tests that come first,
-- turn and the commits. Assumes nothing.
use mathlib.Core.Path.{◌≡◌, refl, sym, ap, ◌∙◌}
use mathlib.Core.Bool.{Bool, true, false, cond, not, ◌&&◌}
use mathlib.Core.List.{List, [], ◌∷◌}
use Prim.Native.Nat.{ℕ, ◌≤◌, ◌<◌}
use native.Mathlib.Omega.{arith}
use lib.Dec.{ltb, leb, eqb}
use lib.ListN.{length}
use borrow.Author.Tests.{eq-eqb, ne_eqb, lt-ltb, le-leb, ltb-true, leb-true}
use Rattle.error.specs.declared.Error.{Error}
use Rattle.layout.specs.declared.Setup.{Setup}
use Rattle.layout.specs.Layout.{any_above}
use Rattle.layout.specs.declared.Underrun.{Underrun}
use Rattle.layout.specs.Opening.{total_of, capacity_of}
use Rattle.ring.specs.declared.Hand.{Hand}
use Rattle.ring.specs.Slots.{is_free, holds, hand_within}
use Rattle.ring.proofs.Truth.{both, first, second}
use Rattle.stream.specs.declared.Answer.{Answer}
use Rattle.stream.specs.declared.IsoStats.{IsoStats}
use Rattle.ledger.specs.Ledger.{Ledger, out, with_hand, with_flags, with_totals, marked, mark_of, returned, state_in}
use Rattle.ledger.specs.Slot.{lengths_of}
use Rattle.ledger.specs.Step.{Next, Rule, refused, on_block, by_idle, when_idle, by_held, when_held, put_back}
use Rattle.ledger.specs.Turn.{take_front, silence_front, drained, one_underrun, underrun, on_underrun, turn_idle, turn}
use Rattle.ledger.specs.Commit.{send, commit_held, commit, packets_held, commit_packets}
use Rattle.ledger.proofs.Valid.{Valid}
use Rattle.ledger.proofs.Moves.{rehanded, front_below, front-taken, brought-back, sent-out, held-not-free}

-- a test between two outcomes
pub either : (n : ℕ) (b : Bool) (x y : Next) → Valid n x.ledger → Valid n y.ledger → Valid n (cond b x y).ledger
either n true x y p q = p
either n false x y p q = q

-- flags and totals are no matter of validity
pub flagged : (n : ℕ) (s a : Bool) (l : Ledger) → Valid n l → Valid n (with_flags s a l)
unfolding with_flags state_in mark_of
flagged n s a l v =
    record { few = v.few; long = v.long; below = v.below; queued = v.queued; within = v.within; at_home = v.at_home }

pub totalled : (n : ℕ) (t : IsoStats) (l : Ledger) → Valid n l → Valid n (with_totals t l)
unfolding with_totals state_in mark_of
totalled n t l v =
    record { few = v.few; long = v.long; below = v.below; queued = v.queued; within = v.within; at_home = v.at_home }

-- the gates
pub refused-valid : (n : ℕ) (e : Error) (l : Ledger) (lent : List ℕ) → Valid n l → Valid n (refused e l lent).ledger
unfolding refused
refused-valid n e l lent v = v

pub block-valid : (n : ℕ) (rule : Rule) (s : Setup) (l : Ledger) (block : List ℕ) → Valid n l → Valid n (rule s l block).ledger → Valid n (on_block rule s l block).ledger
unfolding on_block
block-valid n rule s l block v w =
    either n (eqb (length block) (total_of s)) (rule s l block) _ w (refused-valid n Error.BlockLength l block v)

pub idle-valid : (n : ℕ) (rule : Rule) (s : Setup) (l : Ledger) (lent : List ℕ) → Valid n l → (l.hand ≡ Hand.Idle → Valid n (rule s l lent).ledger) → Valid n (when_idle rule s l lent).ledger
unfolding when_idle by_idle refused
idle-valid n rule s l lent v w = by l.hand refl
  where
    by : (h : Hand) → l.hand ≡ h → Valid n (by_idle h (rule s l lent) (refused Error.WrongHand l lent)).ledger
    by Hand.Idle e = w e
    by (Hand.Held i) e = v
    by (Hand.Sending i) e = v
    by (Hand.Silent i left) e = v

pub held-valid : (n : ℕ) (rule : ℕ → Rule) (s : Setup) (l : Ledger) (lent : List ℕ) → Valid n l → ((i : ℕ) → l.hand ≡ Hand.Held i → Valid n (rule i s l lent).ledger) → Valid n (when_held rule s l lent).ledger
unfolding when_held by_held refused
held-valid n rule s l lent v w = by l.hand refl
  where
    by : (h : Hand) → l.hand ≡ h → Valid n (by_held h (λ i. rule i s l lent) (refused Error.WrongHand l lent)).ledger
    by Hand.Idle e = v
    by (Hand.Held i) e = w i e
    by (Hand.Sending i) e = v
    by (Hand.Silent i left) e = v

-- what a hand with a slot tells: the slot is one of n, and the hand holds it and no other
module _ (n : ℕ) (l : Ledger) (v : Valid n l) where
  pub slot_of : (h : Hand) (i : ℕ) → l.hand ≡ h → ((j : ℕ) → holds h j ≡ eqb i j) → i < n → Valid n (with_hand Hand.Idle (returned i l)) × Valid n (with_hand Hand.Idle (marked i out l))
  slot_of h i e only b =
      (brought-back n l v i b alone free, sent-out n l v i b alone free)
    where
      holding : (j : ℕ) → holds l.hand j ≡ eqb i j
      holding j = ap (λ (x : Hand). holds x j) e ∙ only j

      alone : (j : ℕ) → (j ≡ i → ⊥) → holds l.hand j ≡ false
      alone j d = holding j ∙ ne_eqb i j (λ z. d (sym z))

      free : is_free (state_in l i) ≡ false
      free = held-not-free l i (holding i ∙ eq-eqb i i refl)

  pub in_held : (i : ℕ) → l.hand ≡ Hand.Held i → i < n
  unfolding hand_within
  in_held i e = ltb-true i n (rw e at v.within)

  pub in-sending : (i : ℕ) → l.hand ≡ Hand.Sending i → i < n
  unfolding hand_within
  in-sending i e = ltb-true i n (rw e at v.within)

  pub in-silent : (i left : ℕ) → l.hand ≡ Hand.Silent i left → (i < n) × (left ≤ 1)
  unfolding hand_within
  in-silent i left e =
      let w : (ltb i n && leb left 1) ≡ true = rw e at v.within in
      (ltb-true i n (first (ltb i n) (leb left 1) w), leb-true left 1 (second (ltb i n) (leb left 1) w))

-- the hand empty anew, where it was empty
emptied : (n : ℕ) (l : Ledger) → Valid n l → l.hand ≡ Hand.Idle → Valid n (with_hand Hand.Idle l)
unfolding hand_within
emptied n l v e = rehanded n l v Hand.Idle refl (λ j. ap (λ (h : Hand). holds h j) (sym e))

-- the front slot taken, as a slot for the host or as a silent one
pub take-valid : (n : ℕ) (l : Ledger) → Valid n l → l.hand ≡ Hand.Idle → (q : List ℕ) → l.queue ≡ q → (block : List ℕ) → Valid n (take_front q l block).ledger
unfolding take_front hand_within holds
take-valid n l v e [] p block = emptied n l v e
take-valid n l v e (i ∷ rest) p block =
    front-taken n l v i rest p e (Hand.Held i) (lt-ltb i n (front_below n l v i rest p e).0) (λ j. refl)

pub silence-valid : (n : ℕ) (l : Ledger) → Valid n l → l.hand ≡ Hand.Idle → (s : Setup) (left : ℕ) → left ≤ 1 → (q : List ℕ) → l.queue ≡ q → (block : List ℕ) → Valid n (silence_front s left q l block).ledger
unfolding silence_front hand_within holds
silence-valid n l v e s left b [] p block = take-valid n l v e [] p block
silence-valid n l v e s left b (i ∷ rest) p block =
    front-taken n l v i rest p e (Hand.Silent i left)
    (both (ltb i n) (leb left 1) (lt-ltb i n (front_below n l v i rest p e).0) (le-leb left 1 b))
    (λ j. refl)

-- turn
pub underrun-valid : (n : ℕ) (l : Ledger) → Valid n l → Valid n (underrun l)
unfolding underrun
underrun-valid n l v = totalled n (one_underrun l.totals) _ (flagged n l.started false l v)

policy-valid : (n : ℕ) (u : Underrun) (s : Setup) (l : Ledger) (block : List ℕ) → Valid n l → l.hand ≡ Hand.Idle → Valid n (on_underrun u s l block).ledger
unfolding on_underrun refused
policy-valid n Underrun.Continue s l block v e = take-valid n l v e l.queue refl block
policy-valid n Underrun.FillSilence s l block v e = silence-valid n l v e s 1 (omega arith) l.queue refl block
policy-valid n Underrun.Error s l block v e = v

pub turn-valid : (n : ℕ) (s : Setup) (l : Ledger) (block : List ℕ) → Valid n l → Valid n (turn s l block).ledger
unfolding turn turn_idle underrun with_totals with_flags
turn-valid n s l block v =
    block-valid n (when_idle turn_idle) s l block v
    (idle-valid n turn_idle s l block v
    (λ e.
    either n (drained l) (on_underrun s.underrun s (underrun l) block) (take_front l.queue l block)
    (policy-valid n s.underrun s (underrun l) block (underrun-valid n l v) e)
    (take-valid n l v e l.queue refl block)))

-- the commits
pub back-valid : (n : ℕ) (l : Ledger) → Valid n l → (i : ℕ) → l.hand ≡ Hand.Held i → (a : Answer) (lent : List ℕ) → Valid n (put_back i a l lent).ledger
unfolding put_back holds
back-valid n l v i e a lent = (slot_of n l v (Hand.Held i) i e (λ j. refl) (in_held n l v i e)).0

send-valid : (n : ℕ) (l : Ledger) → Valid n l → (i : ℕ) → l.hand ≡ Hand.Held i → (s : Setup) (lengths block : List ℕ) → Valid n (send s i lengths l block).ledger
unfolding send hand_within holds
send-valid n l v i e s lengths block =
    rehanded n l v (Hand.Sending i) (lt-ltb i n (in_held n l v i e)) (λ j. ap (λ (h : Hand). holds h j) (sym e))

pub commit-valid : (n bytes : ℕ) (s : Setup) (l : Ledger) (block : List ℕ) → Valid n l → Valid n (commit bytes s l block).ledger
unfolding commit commit_held
commit-valid n bytes s l block v =
    block-valid n (when_held (commit_held bytes)) s l block v
    (held-valid n (commit_held bytes) s l block v
    (λ i e.
    either n (ltb (capacity_of s) bytes) (put_back i (Answer.Refused Error.CommitTooLong) l block) (send s i (lengths_of s bytes) l block)
    (back-valid n l v i e (Answer.Refused Error.CommitTooLong) block)
    (send-valid n l v i e s (lengths_of s bytes) block)))

pub packets-valid : (n : ℕ) (lengths : List ℕ) (s : Setup) (l : Ledger) (block : List ℕ) → Valid n l → Valid n (commit_packets lengths s l block).ledger
unfolding commit_packets packets_held
packets-valid n lengths s l block v =
    block-valid n (when_held (packets_held lengths)) s l block v
    (held-valid n (packets_held lengths) s l block v
    (λ i e.
    let count = put_back i (Answer.Refused Error.PacketCount) l block in
    let long = put_back i (Answer.Refused Error.PacketTooLong) l block in
    let above = any_above s.packet_bytes lengths in
    either n (not (eqb (length lengths) s.packets_per_urb)) count (cond above long (send s i lengths l block))
    (back-valid n l v i e (Answer.Refused Error.PacketCount) block)
    (either n above long (send s i lengths l block)
    (back-valid n l v i e (Answer.Refused Error.PacketTooLong) block)
    (send-valid n l v i e s lengths block))))
