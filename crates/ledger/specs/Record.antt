-- What a record shows of the ledger, the record that shows a given ledger, and what a call does to a record.
use Rattle.std.specs.Prelude.{ℕ, cond, List}
use Rattle.error.specs.declared.Error.{Error}
use Rattle.ring.specs.declared.Ring.{Ring}
use Rattle.ring.specs.declared.SlotState.{SlotState}
use Rattle.ring.specs.Counts.{table}
use Rattle.ring.specs.Parts.{queue_of, state_of, with_queue, with_states, with_out}
use Rattle.stream.specs.declared.Answer.{Answer}
use Rattle.stream.specs.declared.Stream.{Stream}
use Rattle.stream.specs.Parts.{with_state}
use Rattle.stream.specs.Sound.{sound}
use Rattle.ledger.specs.Ledger.{Ledger, Mark, home, out, discarded, outs, state_in}
use Rattle.ledger.specs.Step.{Rule}

-- A slot's mark, by its state.
unfoldable pub mark_for : SlotState → Mark
mark_for SlotState.Free = home
mark_for SlotState.Filling = home
mark_for SlotState.InFlight = out
mark_for SlotState.Discarding = discarded

-- What a record shows.
unfoldable pub view : Stream → Ledger
view s =
    record {
      hand = s.hand;
      queue = queue_of s.ring;
      marks = table (λ i. mark_for (state_of s.ring i)) s.setup.slots;
      started = s.flags.started;
      armed = s.flags.armed;
      totals = s.stats;
    }

-- The ring that shows a ledger. Queue places behind the queue's end are as they were, and no slot at n or above is in a mask.
unfoldable pub ring_for : ℕ → Ring → Ledger → Ring
ring_for n r l = with_states n (state_in l) (with_out (with_queue r l.queue) (outs l.marks))

-- The record that shows a ledger.
unfoldable pub stored : Stream → Ledger → Stream
stored s l =
    with_state s (ring_for s.setup.slots s.ring l) l.hand (record { started = l.started; armed = l.armed }) l.totals

-- A call's whole outcome: the record and the answer, and what the lent slice holds.
pub record Outcome : Type 0 where
  pub stream : Stream
  pub answer : Answer
  pub lent : List ℕ

-- Every call first gives 8 exactly when the record breaks the list, and nothing differs; else its rule decides.
unfoldable pub call : Rule → Stream → List ℕ → Outcome
call rule s lent =
    let next = rule s.setup (view s) lent in
    cond (sound s) (record { stream = stored s next.ledger; answer = next.answer; lent = next.lent })
    (record { stream = s; answer = Answer.Refused Error.Unsound; lent = lent })
