-- One slot of refusal 8's test: what the masks' test says of it, and what soundness says, are the same. By the cases of its bits and of how often it
-- stands in the queue. Assumes nothing.
use Rattle.std.proofs.Common.{◌≡◌, ℕ, zero, suc, ◌+◌, ◌≤◌, Bool, true, false, ltb, refl, true≢false, arith}
use mathlib.Core.Bool.{false≢true}
use Rattle.ring.specs.Slots.{is_free, one}
use Rattle.ring.specs.Tests.{both_or_neither}
use Rattle.ring.proofs.Masks.{pick}

-- sound at a slot that stands t times in the queue: it is in one mask at most, in none at n or above, and in the queue once if it is Free
pub record Right (t : ℕ) (f i d below : Bool) : Type 0 where
  pub single : one f + one i + one d ≤ one below
  pub queued : below ≡ true → t ≡ one (is_free (pick f i d))

-- the test at such a slot
pub record Tested (t : ℕ) (f i d below : Bool) : Type 0 where
  pub once : t + one f ≤ 1
  pub placed : both_or_neither (ltb 0 (t + one f)) i d below ≡ false

-- a slot at n or above is not in hand, and not in the queue
pub tested-right : (t : ℕ) (f i d below : Bool) → (below ≡ false → (t ≡ 0) × (f ≡ false)) → Tested t f i d below → Right t f i d below
unfolding both_or_neither one pick is_free
tested-right (suc (suc t)) f i d below off s = absurd (omega (arith, s.once))
tested-right (suc zero) true i d below off s = absurd (omega (arith, s.once))
tested-right zero true true true true off s = absurd (true≢false s.placed)
tested-right zero true true false true off s = absurd (true≢false s.placed)
tested-right zero true false true true off s = absurd (true≢false s.placed)
tested-right zero true false false true off s = record { single = omega arith; queued = λ e. refl }
tested-right zero true true true false off s = absurd (true≢false (off refl).1)
tested-right zero true true false false off s = absurd (true≢false (off refl).1)
tested-right zero true false true false off s = absurd (true≢false (off refl).1)
tested-right zero true false false false off s = absurd (true≢false (off refl).1)
tested-right zero false true true true off s = absurd (true≢false s.placed)
tested-right zero false true true false off s = absurd (true≢false s.placed)
tested-right zero false true false true off s = record { single = omega arith; queued = λ e. refl }
tested-right zero false false true true off s = record { single = omega arith; queued = λ e. refl }
tested-right zero false false false true off s = absurd (true≢false s.placed)
tested-right zero false true false false off s = absurd (true≢false s.placed)
tested-right zero false false true false off s = absurd (true≢false s.placed)
tested-right zero false false false false off s = record { single = omega arith; queued = λ e. absurd (false≢true e) }
tested-right (suc zero) false true false true off s = absurd (true≢false s.placed)
tested-right (suc zero) false false true true off s = absurd (true≢false s.placed)
tested-right (suc zero) false false false true off s = record { single = omega arith; queued = λ e. refl }
tested-right (suc zero) false true true true off s = absurd (true≢false s.placed)
tested-right (suc zero) false true true false off s = absurd (omega (arith, (off refl).0))
tested-right (suc zero) false true false false off s = absurd (omega (arith, (off refl).0))
tested-right (suc zero) false false true false off s = absurd (omega (arith, (off refl).0))
tested-right (suc zero) false false false false off s = absurd (omega (arith, (off refl).0))

pub right-tested : (t : ℕ) (f i d below : Bool) → (below ≡ false → t ≡ 0) → Right t f i d below → Tested t f i d below
unfolding both_or_neither one pick is_free
right-tested t true true d true off r = absurd (omega (arith, r.single))
right-tested t true false true true off r = absurd (omega (arith, r.single))
right-tested t false true true true off r = absurd (omega (arith, r.single))
right-tested t true i d false off r = absurd (omega (arith, r.single))
right-tested t false true d false off r = absurd (omega (arith, r.single))
right-tested t false false true false off r = absurd (omega (arith, r.single))
right-tested t false false false false off r = rw (off refl) (record { once = omega arith; placed = refl })
right-tested t true false false true off r = rw (r.queued refl) (record { once = omega arith; placed = refl })
right-tested t false true false true off r = rw (r.queued refl) (record { once = omega arith; placed = refl })
right-tested t false false true true off r = rw (r.queued refl) (record { once = omega arith; placed = refl })
right-tested t false false false true off r = rw (r.queued refl) (record { once = omega arith; placed = refl })
