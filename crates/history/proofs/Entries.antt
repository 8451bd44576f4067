-- What an entry says, gathered: the slots accepted, noticed and named, whether the hand's slot came back and whether a stop gave Done; and what
-- the words about a list are after one more entry. Assumes nothing.
use mathlib.Core.Path.{◌≡◌}
use mathlib.Core.Bool.{Bool, true, false, cond, not, ◌||◌, ◌&&◌}
use mathlib.Core.List.{List, ◌∷◌}
use mathlib.Core.Option.{Option}
use Prim.Native.Nat.{ℕ, suc}
use lib.ListN.{length}
use Rattle.layout.specs.declared.Setup.{Setup}
use Rattle.history.specs.Words.{Entry, said, or_else, given, is_slot, last_submit, last_named, acceptance, notice, from_hand, return, is_out, in_hand, never_left, after_discard, last_return}

pub record Says (s : Setup) (e : Entry) (log : List Entry) (acc ntc nam sub : Option ℕ) (back stp : Bool) : Type 0 where
  pub acc-is : acceptance e log ≡ acc
  pub ntc-is : notice s e ≡ ntc
  pub nam-is : (said e.answer).named ≡ nam
  pub sub_is : (said e.answer).submit ≡ sub
  pub back_is : from_hand e ≡ back
  pub stp-is : (said e.answer).stopped ≡ stp

module _ {s : Setup} {e : Entry} {log : List Entry} {acc ntc nam sub : Option ℕ} {back stp : Bool} (w : Says s e log acc ntc nam sub back stp) where
  pub return-is : return s e log ≡ or_else ntc (given back (last_named log))
  unfolding return
  return-is = rw (w.ntc-is, w.back_is)

  pub out-next : (i : ℕ) → is_out s i (e ∷ log) ≡ cond (is_slot acc i) true (cond (is_slot ntc i) false (is_out s i log))
  unfolding is_out
  out-next i = rw (w.acc-is, w.ntc-is)

  pub hand-next : (i : ℕ) → in_hand s i (e ∷ log) ≡ cond (is_slot nam i) true (cond (is_slot acc i || is_slot (or_else ntc (given back (last_named log))) i) false (in_hand s i log))
  unfolding in_hand
  hand-next i = rw (w.nam-is, w.acc-is, return-is)

  pub never-next : (i : ℕ) → never_left i (e ∷ log) ≡ (not (is_slot nam i) && never_left i log)
  unfolding never_left
  never-next i = rw w.nam-is

  pub discard-next : (i : ℕ) → after_discard i (e ∷ log) ≡ cond stp true (cond (is_slot acc i) false (after_discard i log))
  unfolding after_discard
  discard-next i = rw (w.stp-is, w.acc-is)

  pub return-next : (i : ℕ) → last_return s i (e ∷ log) ≡ cond (is_slot (or_else ntc (given back (last_named log))) i) (suc (length log)) (last_return s i log)
  unfolding last_return
  return-next i = rw return-is

  pub named-next : last_named (e ∷ log) ≡ or_else nam (last_named log)
  unfolding last_named
  named-next = rw w.nam-is

  pub submit-next : last_submit (e ∷ log) ≡ or_else sub (last_submit log)
  unfolding last_submit
  submit-next = rw w.sub_is
