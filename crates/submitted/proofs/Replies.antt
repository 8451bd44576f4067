-- submitted behind the gate, by the kernel's reply and by what is left of the chain.
-- Assumes nothing.
use Rattle.std.specs.Prelude.{Result}
use Rattle.std.proofs.Common.{◌≡◌, ℕ, zero, suc, ◌-◌, List, sym, refl, subst, arith}
use Rattle.stream.specs.declared.Reply.{Reply}
use Rattle.stream.specs.declared.Stream.{Stream}
use Rattle.ledger.specs.Gives.{Gives}
use Rattle.ledger.specs.Record.{view}
use Rattle.ledger.specs.Submitted.{sent, chained, silent}
use Rattle.ledger.specs.Turn.{take_front, silence_front}

-- by the reply
module _ (s : Stream) (reply told : Result (Unit {0}) ℕ) (e : reply ≡ told) (i : ℕ) (block : List ℕ) (r : Reply) (left : List ℕ) where
  pub sent-by : Gives s (sent told i s.setup (view s) block) r left → Gives s (sent reply i s.setup (view s) block) r left
  sent-by g = subst (λ (x : Result (Unit {0}) ℕ). Gives s (sent x i s.setup (view s) block) r left) (sym e) g

  pub silent-by : (more : ℕ) → Gives s (silent told i more s.setup (view s) block) r left → Gives s (silent reply i more s.setup (view s) block) r left
  silent-by more g = subst (λ (x : Result (Unit {0}) ℕ). Gives s (silent x i more s.setup (view s) block) r left) (sym e) g

-- by what is left of the chain
module _ (s : Stream) (block : List ℕ) (r : Reply) (after : List ℕ) where
  pub chain-ends : (left : ℕ) → left ≡ 0 → Gives s (take_front (view s).queue (view s) block) r after → Gives s (chained s.setup left (view s) block) r after
  unfolding chained
  chain-ends left e g = subst (λ (n : ℕ). Gives s (chained s.setup n (view s) block) r after) (sym e) g

  pub chain-goes-on : (left : ℕ) → (left ≡ 0 → ⊥) → Gives s (silence_front s.setup (left - 1) (view s).queue (view s) block) r after → Gives s (chained s.setup left (view s) block) r after
  unfolding chained
  chain-goes-on zero h g = absurd (h refl)
  chain-goes-on (suc more) h g =
      let e : suc more - 1 ≡ more = omega arith in
      subst (λ (n : ℕ). Gives s (silence_front s.setup n (view s).queue (view s) block) r after) e g
