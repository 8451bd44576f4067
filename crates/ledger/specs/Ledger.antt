-- The ledger of demand 3: what is known of a ring by its opening, the calls, the kernel's replies and the blocks lent.
use Rattle.std.specs.Prelude.{ℕ, suc, ◌+◌, ◌%◌, ◌^◌, Bool, true, false, List, [], ◌∷◌, ◌++◌, get_or, set, replicate}
use Rattle.ring.specs.declared.SlotState.{SlotState}
use Rattle.ring.specs.declared.Hand.{Hand}
use Rattle.ring.specs.Counts.{slot_numbers}
use Rattle.ring.specs.Slots.{holds}
use Rattle.stream.specs.declared.IsoStats.{IsoStats}
use Rattle.stream.specs.Parts.{no_stats}

-- Whether a slot is out: home (no: in the queue or in hand), out, or out with a discard mark.
pub data Mark : Type 0 where
  home out discarded : Mark

-- Hand, queue (front first), a mark for each slot, started, armed, and eight totals.
pub record Ledger : Type 0 where
  pub hand : Hand
  pub queue : List ℕ
  pub marks : List Mark
  pub started : Bool
  pub armed : Bool
  pub totals : IsoStats

-- As opening says: queue 0..n-1, hand Idle, not started, not armed, counters 0, none out.
unfoldable pub opened_ledger : ℕ → Ledger
opened_ledger n =
    record { hand = Hand.Idle; queue = slot_numbers n; marks = replicate n home; started = false; armed = false; totals = no_stats }

-- A ledger with one of its parts changed.
unfoldable pub with_hand : Hand → Ledger → Ledger
with_hand h l = record { hand = h; queue = l.queue; marks = l.marks; started = l.started; armed = l.armed; totals = l.totals }

unfoldable pub with_queue : List ℕ → Ledger → Ledger
with_queue q l = record { hand = l.hand; queue = q; marks = l.marks; started = l.started; armed = l.armed; totals = l.totals }

unfoldable pub with_marks : List Mark → Ledger → Ledger
with_marks m l = record { hand = l.hand; queue = l.queue; marks = m; started = l.started; armed = l.armed; totals = l.totals }

unfoldable pub with_flags : Bool → Bool → Ledger → Ledger
with_flags s a l = record { hand = l.hand; queue = l.queue; marks = l.marks; started = s; armed = a; totals = l.totals }

unfoldable pub with_totals : IsoStats → Ledger → Ledger
with_totals t l = record { hand = l.hand; queue = l.queue; marks = l.marks; started = l.started; armed = l.armed; totals = t }

-- Slot i's mark.
unfoldable pub mark_of : Ledger → ℕ → Mark
mark_of l i = get_or l.marks i home

-- Slot i marked anew.
unfoldable pub marked : ℕ → Mark → Ledger → Ledger
marked i m l = with_marks (set l.marks i m) l

-- How many slots are out.
unfoldable pub outs : List Mark → ℕ
outs [] = 0
outs (home ∷ rest) = outs rest
outs (out ∷ rest) = suc (outs rest)
outs (discarded ∷ rest) = suc (outs rest)

-- A slot in hand is Filling, one out InFlight or, if marked, Discarding, any other Free.
unfoldable pub slot_state : Bool → Mark → SlotState
slot_state true m = SlotState.Filling
slot_state false home = SlotState.Free
slot_state false out = SlotState.InFlight
slot_state false discarded = SlotState.Discarding

unfoldable pub state_in : Ledger → ℕ → SlotState
state_in l i = slot_state (holds l.hand i) (mark_of l i)

-- "Return" puts a slot at the queue's end as Free.
unfoldable pub returned : ℕ → Ledger → Ledger
returned i l = with_queue (l.queue ++ (i ∷ [])) (marked i home l)

-- Counters add modulo 2^64.
unfoldable pub plus : ℕ → ℕ → ℕ
plus total more = (total + more) % 2 ^ 64
