-- Laws of truth values: of `&&`, of the test that two are equal, and of a truth value as a number.
-- By their cases. Assumes nothing.
use Rattle.std.proofs.Common.{◌≡◌, ◌<◌, ◌≤◌, Bool, true, false, not, ◌&&◌, sym, refl, ◌∙◌, true≢false, arith}
use mathlib.Core.Bool.{beq, false≢true}
use borrow.Author.Tests.{not-true, not-false}
use Rattle.ring.specs.Slots.{one}

pub both : (a b : Bool) → a ≡ true → b ≡ true → (a && b) ≡ true
both true b p q = q
both false b p q = p

pub first : (a b : Bool) → (a && b) ≡ true → a ≡ true
first true b p = refl
first false b p = p

pub second : (a b : Bool) → (a && b) ≡ true → b ≡ true
second true b p = p
second false b p = absurd (false≢true p)

pub beq-true : (a b : Bool) → beq a b ≡ true → a ≡ b
beq-true true true p = refl
beq-true true false p = sym p
beq-true false true p = p
beq-true false false p = refl

pub beq-of : (a b : Bool) → a ≡ b → beq a b ≡ true
beq-of true true p = refl
beq-of true false p = sym p
beq-of false true p = p
beq-of false false p = refl

-- what is not true is false
pub refuted : (b : Bool) → (b ≡ true → ⊥) → b ≡ false
refuted true f = absurd (f refl)
refuted false f = refl

pub one_at_most : (b : Bool) → one b ≤ 1
unfolding one
one_at_most true = omega arith
one_at_most false = omega arith

pub is_one : (b : Bool) → 0 < one b → b ≡ true
unfolding one
is_one true p = refl
is_one false p = absurd (omega arith)

pub differ : (a b : Bool) → not (beq a b) ≡ true → a ≡ b → ⊥
differ a b p e = true≢false (sym (beq-of a b e) ∙ not-true (beq a b) p)

pub agree : (a b : Bool) → not (beq a b) ≡ false → a ≡ b
agree a b p = beq-true a b (not-false (beq a b) p)

pub one_same : (a b : Bool) → one a ≡ one b → a ≡ b
unfolding one
one_same true true p = refl
one_same true false p = absurd (omega arith)
one_same false true p = absurd (omega arith)
one_same false false p = refl
