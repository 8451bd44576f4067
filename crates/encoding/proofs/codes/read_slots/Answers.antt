-- `encoding::read_slots` meets its contract. The loop's invariant: the two words have the digits of the slots from `at` to the end, and those of them that
-- are out are counted. Assumes nothing.
use mathlib.Core.Path.{◌≡◌, ap, ◌∙◌}
use Prim.Native.Nat.{ℕ, ◌+◌, ◌-◌, ◌*◌, ◌/◌, ◌%◌, ◌^◌, ◌≤◌, ◌<◌, min}
use mathlib.Core.Bool.{Bool, false}
use native.Mathlib.Omega.{arith}
use lib.ListN.{length}
use Rattle.ring.specs.Counts.{how_many}
use Rattle.ring.specs.Slots.{is_out}
use Rattle.ring.proofs.Counts.{count-more, count-at-most}
use Rattle.encoding.proofs.StateNumbers.{state_read, read_past}
use Rattle.encoding.proofs.Digits.{digits-word, count_word, filling-word, flying-word, discarding-word}
use Rattle.encoding.proofs.Digits.{is_odd, low_digit, high_digit, digits_from, digits-none, digits_more, digits-fit}
use Rattle.encoding.proofs.codes.read_slots.Invariants.{out_at, odd-at}
use Rattle.encoding.proofs.codes.read_slots.Goals as goal

-- in a round: the digits of one slot more, and the count with that slot
module _ (c : goal.After-number_from-number) where
  abbrev at : ℕ
  at = c.loop-at.at

  abbrev end : ℕ
  end = c.min-end.result

  abbrev odd : ℕ → Bool
  odd = odd-at c.args.codes.now

  abbrev gone : ℕ → Bool
  gone = out_at c.args.codes.now

  abbrev number : ℕ
  number = c.number_from-number.result

  low-next : c.loop-at.low * 2 + number % 2 ≡ digits_from odd (at - 1) end
  low-next =
      digits_more odd at end _ _ (omega arith) c.loop-at.auto.at c.loop-at.invariant.1
      (ap (λ (x : ℕ). x % 2) c.number_from-number.ensures ∙ low_digit _)

  high-next : c.loop-at.high * 2 + number / 2 ≡ digits_from gone (at - 1) end
  high-next =
      digits_more gone at end _ _ (omega arith) c.loop-at.auto.at c.loop-at.invariant.2
      (ap (λ (x : ℕ). x / 2) c.number_from-number.ensures ∙ high_digit _)

  low_fits : c.loop-at.low * 2 + number % 2 < 2 ^ 64
  low_fits = rw low-next (digits-fit odd (at - 1) end (omega arith))

  high_fits : c.loop-at.high * 2 + number / 2 < 2 ^ 64
  high_fits = rw high-next (digits-fit gone (at - 1) end (omega arith))

  count_next : how_many (at - 1) gone + (c.loop-at.out + number / 2) ≡ how_many end gone
  count_next =
      let m = at - 1 in
      let s : at ≡ m + 1 = omega arith in
      let e = ap (λ (k : ℕ). how_many k gone) s ∙ count-more gone m in
      let digit = ap (λ (x : ℕ). x / 2) c.number_from-number.ensures ∙ high_digit (state_read c.args.codes.now m) in
      omega (arith, e, digit)

pub loop-at-init : goal.loop-at-init
loop-at-init c =
    let codes = c.args.codes.now in
    (λ h. absurd (omega arith), digits-none (odd-at codes) _, digits-none (out_at codes) _, omega arith)

pub overflow_mul-low : goal.overflow_mul-low
overflow_mul-low c = omega (arith, low_fits c)

pub overflow_add-low : goal.overflow_add-low
overflow_add-low c = omega (arith, low_fits c)

pub overflow_mul-high : goal.overflow_mul-high
overflow_mul-high c = omega (arith, high_fits c)

pub overflow_add-high : goal.overflow_add-high
overflow_add-high c = omega (arith, high_fits c)

pub overflow_add-out : goal.overflow_add-out
overflow_add-out c = omega (arith, count_next c, count-at-most (out_at c.args.codes.now) c.min-end.result)

pub loop-at-preserved : goal.loop-at-preserved
loop-at-preserved c = (λ h. omega arith, low-next c, high-next c, count_next c)

pub returns : goal.returns
unfolding is_odd is_out
returns c =
    let l = c.loop-at in
    let end = c.min-end.result in
    let codes = c.args.codes.now in
    let q = c.args.q in
    let is-end : end ≡ min (q * 64 + 64) (length codes) = c.min-end.ensures in
    let even : (i : ℕ) → length codes ≤ i → odd-at codes i ≡ false = λ i h. ap is_odd (read_past codes i h) in
    let home : (i : ℕ) → length codes ≤ i → out_at codes i ≡ false = λ i h. ap is_out (read_past codes i h) in
    let low = l.invariant.1 ∙ digits-word (odd-at codes) (length codes) even q l.at end is-end (omega arith) l.invariant.0 l.auto.at in
    let high = l.invariant.2 ∙ digits-word (out_at codes) (length codes) home q l.at end is-end (omega arith) l.invariant.0 l.auto.at in (
      filling-word (state_read codes) q l.low l.high low high,
      flying-word (state_read codes) q l.low l.high low high,
      discarding-word (state_read codes) q l.low l.high low high,
      count_word (out_at codes) (length codes) home q l.at end is-end (omega arith) l.invariant.0 l.auto.at l.out l.invariant.3,
    )
