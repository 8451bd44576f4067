-- What a call's rule gives: the next ledger, the answer, and what the lent slice holds afterwards. And what comes first in a rule: 6, then
-- 9.
use Rattle.std.specs.Prelude.{ℕ, cond, List, eqb, length}
use Rattle.error.specs.declared.Error.{Error}
use Rattle.layout.specs.declared.Setup.{Setup}
use Rattle.layout.specs.Opening.{total_of}
use Rattle.ring.specs.declared.Hand.{Hand}
use Rattle.stream.specs.declared.Answer.{Answer}
use Rattle.ledger.specs.Ledger.{Ledger, with_hand, returned}

-- lent: the block; for stop its list; for a call that is lent nothing, the empty list.
pub record Next : Type 0 where
  pub ledger : Ledger
  pub answer : Answer
  pub lent : List ℕ

-- A rule: opening's values, the ledger and what is lent give the next.
abbrev pub Rule : Type 0
Rule = Setup → Ledger → List ℕ → Next

-- Refused, with the ledger and what is lent as given here.
unfoldable pub refused : Error → Ledger → List ℕ → Next
refused e l lent = record { ledger = l; answer = Answer.Refused e; lent = lent }

-- 6 for a block of the wrong length, else the rule.
unfoldable pub on_block : Rule → Rule
on_block rule s l block = cond (eqb (length block) (total_of s)) (rule s l block) (refused Error.BlockLength l block)

-- `next` where the hand is Idle, else `wrong`.
unfoldable pub by_idle : Hand → Next → Next → Next
by_idle Hand.Idle next wrong = next
by_idle (Hand.Held i) next wrong = wrong
by_idle (Hand.Sending i) next wrong = wrong
by_idle (Hand.Silent i left) next wrong = wrong

-- 9 for a hand that isn't Idle, else the rule.
unfoldable pub when_idle : Rule → Rule
when_idle rule s l lent = by_idle l.hand (rule s l lent) (refused Error.WrongHand l lent)

-- The same for Held, with its slot.
unfoldable pub by_held : Hand → (ℕ → Next) → Next → Next
by_held Hand.Idle next wrong = wrong
by_held (Hand.Held i) next wrong = next i
by_held (Hand.Sending i) next wrong = wrong
by_held (Hand.Silent i left) next wrong = wrong

unfoldable pub when_held : (ℕ → Rule) → Rule
when_held rule s l lent = by_held l.hand (λ i. rule i s l lent) (refused Error.WrongHand l lent)

-- The hand's slot is returned and the hand Idle: how give_back, a refused commit and a refused submission end.
unfoldable pub put_back : ℕ → Answer → Ledger → List ℕ → Next
put_back i answer l lent = record { ledger = with_hand Hand.Idle (returned i l); answer = answer; lent = lent }
