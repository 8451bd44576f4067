-- What the entries of each call say, by its answer.
-- Assumes nothing.
use Rattle.std.specs.Prelude.{Some, Ok, Err}
use mathlib.Core.Path.{◌≡◌, refl}
use mathlib.Core.Bool.{Bool, true, false, cond, not, ◌||◌, ◌&&◌}
use mathlib.Core.List.{List}
use mathlib.Core.Option.{Option, none, some}
use Prim.Native.Nat.{ℕ, ◌-◌, ◌*◌, ◌/◌, ◌%◌}
use lib.Dec.{eqb, ltb, leb}
use Rattle.error.specs.declared.Error.{Error}
use Rattle.error.specs.declared.ErrnoContext.{ErrnoContext}
use Rattle.error.specs.Errno.{from_errno, out_of_memory}
use Rattle.error.specs.Number.{number_of}
use Rattle.layout.specs.declared.Setup.{Setup}
use Rattle.layout.specs.Opening.{masked_of, layout_for}
use Rattle.stream.specs.declared.Answer.{Answer}
use Rattle.stream.specs.declared.Completion.{Completion}
use Rattle.ledger.specs.Notice.{cookie_of, slot_at, slot_of_urb}
use Rattle.ledger.specs.Calls.{Call, submitted, reaped, give_back}
use Rattle.ledger.proofs.Found.{found-past, found_at}
use Rattle.history.specs.Words.{Entry, said, asked, nothing_asked, given, last_submit, six_or_nine, acceptance, slot_at_address, slot_addressed, notice, from_hand}
use Rattle.history.proofs.Entries.{Says}

given-none : (b : Bool) → given b none ≡ none
unfolding given
given-none true = refl
given-none false = refl

or-false : (a : Bool) → (a || false) ≡ a
or-false true = refl
or-false false = refl

-- the answer is 10, 11 or 12
unfoldable pub committed_back : Answer → Bool
committed_back a = eqb (said a).refusal 10 || eqb (said a).refusal 11 || eqb (said a).refusal 12

-- a call that asks nothing of the kernel, and is not give_back
pub says_plain : (s : Setup) (c : Call) (a : Answer) (log : List Entry) → asked c ≡ nothing_asked → Says s (record { call = c; answer = a }) log none none (said a).named (said a).submit (committed_back a) (said a).stopped
unfolding acceptance notice from_hand slot_addressed committed_back given
says_plain s c a log p =
    record {
      acc-is = rw p;
      ntc-is = rw p (given-none ((said a).completion || eqb (said a).refusal 13));
      nam-is = refl;
      sub_is = refl;
      back_is = rw p (simp or-false);
      stp-is = refl;
    }

-- 6 or 9 to any call
shut-accepted : (b : Bool) (o : Option ℕ) → given (b && false) o ≡ none
unfolding given
shut-accepted true o = refl
shut-accepted false o = refl

and-false : (b : Bool) → (b && false) ≡ false
and-false true = refl
and-false false = refl

pub says-shut : (s : Setup) (c : Call) (e : Error) (log : List Entry) → six_or_nine (Answer.Refused e) ≡ true → eqb (number_of e) 13 ≡ false → committed_back (Answer.Refused e) ≡ false → Says s (record { call = c; answer = Answer.Refused e }) log none none none none false false
unfolding acceptance notice from_hand said given committed_back
says-shut s c e log shut stays kept =
    record {
      acc-is = rw shut (shut-accepted (asked c).accepted (last_submit log));
      ntc-is = rw stays;
      nam-is = refl;
      sub_is = refl;
      back_is = rw (kept, shut) (simp and-false);
      stp-is = refl;
    }

-- submitted with Accepted, not 6 or 9
pub says-accepted : (s : Setup) (block : List ℕ) (a : Answer) (log : List Entry) (i : ℕ) → last_submit log ≡ some i → (said a).refusal ≡ 0 → (said a).completion ≡ false → Says s (record { call = submitted (Ok tt) block; answer = a }) log (some i) none (said a).named (said a).submit false (said a).stopped
unfolding acceptance notice from_hand six_or_nine asked slot_addressed given
says-accepted s block a log i last r k =
    record { acc-is = rw r last; ntc-is = rw (r, k); nam-is = refl; sub_is = refl; back_is = rw r; stp-is = refl }

-- an errno's refusal is none of 6, 9, 10, 11 and 12
errno-kept : (errno : ℕ) (x : ErrnoContext) → (six_or_nine (Answer.Refused (from_errno errno x)) ≡ false) × (committed_back (Answer.Refused (from_errno errno x)) ≡ false)
unfolding from_errno out_of_memory six_or_nine committed_back said
errno-kept errno x =
    pick (eqb errno 19 || eqb errno 108) Error.Disconnected _ (refl, refl)
    (pick (eqb errno 12) (out_of_memory errno x) _ (memory x)
    (pick (eqb errno 13 || eqb errno 1) Error.PermissionDenied _ (refl, refl)
    (pick (eqb errno 25) Error.Unsupported (Error.Io errno) (refl, refl) (refl, refl))))
  where
    Kept : Error → Type 0
    Kept e = (six_or_nine (Answer.Refused e) ≡ false) × (committed_back (Answer.Refused e) ≡ false)

    pick : (b : Bool) (e f : Error) → Kept e → Kept f → Kept (cond b e f)
    pick true e f p q = p
    pick false e f p q = q

    memory : (y : ErrnoContext) → Kept (out_of_memory errno y)
    memory (ErrnoContext.Submit bytes) = (refl, refl)
    memory ErrnoContext.Other = (refl, refl)

-- submitted with an errno, not 6 or 9: the hand's slot comes back
pub says-errno : (s : Setup) (errno : ℕ) (block : List ℕ) (x : ErrnoContext) (log : List Entry) → Says s (record { call = submitted (Err errno) block; answer = Answer.Refused (from_errno errno x) }) log none none none none true false
unfolding acceptance notice from_hand asked slot_addressed said given committed_back
says-errno s errno block x log =
    record {
      acc-is = refl;
      ntc-is = given-none (eqb (number_of (from_errno errno x)) 13);
      nam-is = refl;
      sub_is = refl;
      back_is = rw ((errno-kept errno x).1, (errno-kept errno x).0);
      stp-is = refl;
    }

-- reaped with an errno: nothing differs
pub back-errno : (errno : ℕ) (x : ErrnoContext) → committed_back (Answer.Refused (from_errno errno x)) ≡ false
back-errno errno x = (errno-kept errno x).1

-- give_back's Done: the hand's slot comes back
pub says-given-back : (s : Setup) (log : List Entry) → Says s (record { call = give_back; answer = Answer.Done }) log none none none none true false
unfolding acceptance notice from_hand six_or_nine asked said slot_addressed given
says-given-back s log = record { acc-is = refl; ntc-is = refl; nam-is = refl; sub_is = refl; back_is = refl; stp-is = refl }

-- a notice taken, and an address that gives neither Completion nor 13
pub says-noticed : (s : Setup) (address : ℕ) (block : List ℕ) (c : Completion) (log : List Entry) → Says s (record { call = reaped (Ok address) block; answer = Answer.Completed c }) log none (some (slot_at_address s address)) none none false false
unfolding acceptance notice from_hand six_or_nine asked said slot_addressed given
says-noticed s address block c log =
    record { acc-is = refl; ntc-is = refl; nam-is = refl; sub_is = refl; back_is = refl; stp-is = refl }

pub says-gone : (s : Setup) (address : ℕ) (block : List ℕ) (log : List Entry) → Says s (record { call = reaped (Ok address) block; answer = Answer.Refused Error.Disconnected }) log none (some (slot_at_address s address)) none none false false
unfolding acceptance notice from_hand six_or_nine asked said slot_addressed given
says-gone s address block log =
    record { acc-is = refl; ntc-is = refl; nam-is = refl; sub_is = refl; back_is = refl; stp-is = refl }

pub says-foreign : (s : Setup) (address : ℕ) (block : List ℕ) (log : List Entry) → Says s (record { call = reaped (Ok address) block; answer = Answer.Foreign }) log none none none none false false
unfolding acceptance notice from_hand six_or_nine asked said slot_addressed given
says-foreign s address block log =
    record { acc-is = refl; ntc-is = refl; nam-is = refl; sub_is = refl; back_is = refl; stp-is = refl }

pub says-stray : (s : Setup) (address : ℕ) (block : List ℕ) (log : List Entry) → Says s (record { call = reaped (Ok address) block; answer = Answer.Refused Error.StrayNotice }) log none none none none false false
unfolding acceptance notice from_hand six_or_nine asked said slot_addressed given
says-stray s address block log =
    record { acc-is = refl; ntc-is = refl; nam-is = refl; sub_is = refl; back_is = refl; stp-is = refl }

-- the slot that an address names is the slot at that address
pub slot-addressed : (s : Setup) (address : ℕ) (block : List ℕ) (i : ℕ) → slot_of_urb s address block ≡ Some i → slot_at_address s address ≡ i
unfolding slot_of_urb slot_at slot_at_address
slot-addressed s address block i p =
    let base = masked_of s.tagged s.base in
    let at = masked_of s.tagged address in
    let stride = (layout_for s).slot_stride in
    let j = (at - base) / stride in
    found_at (eqb (cookie_of s j block) j) j i
    (found-past (not (eqb ((at - base) % stride) 0)) _ i
    (found-past (leb (s.slots * stride) (at - base)) _ i (found-past (ltb at base) _ i p).1).1).1
