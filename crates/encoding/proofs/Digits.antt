-- The two digits of a state's number, and the digits of 64 slots as two words: they are written from the words of the three masks, and the words are
-- read from them. By the cases of a state, and by the laws of bits. Assumes nothing.
use Prim.Native.Nat.{ℕ, zero, suc, ◌+◌, ◌-◌, ◌*◌, ◌/◌, ◌%◌, ◌^◌, ◌≤◌, ◌<◌, min}
use native.Mathlib.Nat.{add-zero, lt_of_lt_of_le}
use native.Mathlib.Decide.{dec_lt}
use native.Mathlib.Omega.{arith}
use mathlib.Core.Path.{◌≡◌, refl, sym, ap, ap₂, ◌∙◌}
use mathlib.Core.Logic.{⊎_elim}
use mathlib.Core.Bool.{Bool, true, false, not, ◌&&◌, ◌||◌, cond}
use lib.Bits.{bit_and, bit_or, and_lt}
use lib.Dec.{eqb}
use lib.Pow.{ones_sub-lt, pow_mono}
use Rattle.mask.specs.Bits.{bit, word}
use Rattle.mask.specs.Masks.{table_word}
use Rattle.mask.proofs.Laws.{bit-and, bit-or, bit_not, bit_word, word-ext, word_lt}
use Rattle.mask.proofs.Masks.{is-table}
use Rattle.ring.specs.declared.SlotState.{SlotState}
use Rattle.ring.specs.declared.SlotState.TheVariants.{Free, Filling, InFlight, Discarding}
use Rattle.ring.specs.Counts.{how_many}
use Rattle.ring.specs.Slots.{is_filling, is_in_flight, is_discarding, is_out, one}
use Rattle.ring.proofs.Counts.{last-or-below}
use Rattle.encoding.specs.Codes.{state_number}

-- ---- a state's number

-- whether its low digit is 1; its high one is 1 where the slot is out
unfoldable pub is_odd : SlotState → Bool
is_odd Free = false
is_odd Filling = true
is_odd InFlight = false
is_odd Discarding = true

pub low_digit : (s : SlotState) → state_number s % 2 ≡ one (is_odd s)
unfolding state_number is_odd one
low_digit Free = refl
low_digit Filling = refl
low_digit InFlight = refl
low_digit Discarding = refl

pub high_digit : (s : SlotState) → state_number s / 2 ≡ one (is_out s)
unfolding state_number is_out one
high_digit Free = refl
high_digit Filling = refl
high_digit InFlight = refl
high_digit Discarding = refl

-- ---- written

-- the number of a slot that is in these masks
abbrev pub number_in : Bool → Bool → Bool → ℕ
number_in f i d = cond f 1 (cond i 2 (cond d 3 0))

digits_number : (f i d : Bool) → one (f || (d && not i)) + 2 * one ((i || d) && not f) ≡ number_in f i d
unfolding one
digits_number true true true = refl
digits_number true true false = refl
digits_number true false true = refl
digits_number true false false = refl
digits_number false true true = refl
digits_number false true false = refl
digits_number false false true = refl
digits_number false false false = refl

-- a word's lowest digit
lowest : (w : ℕ) → w % 2 ≡ one (bit w 0)
unfolding bit one
lowest w = go (w % 2) (omega arith)
  where
    go : (r : ℕ) → r < 2 → r ≡ one (eqb r 1)
    go zero h = refl
    go (suc zero) h = refl
    go (suc (suc r)) h = absurd (omega arith)

-- a word whose i lowest digits are shifted out
abbrev pub Shifted : ℕ → ℕ → ℕ → Type 0
Shifted i whole w = (j : ℕ) → bit w j ≡ bit whole (i + j)

pub shift_none : (w : ℕ) → Shifted 0 w w
shift_none w j = let e : j ≡ 0 + j = omega arith in ap (bit w) e

pub shift-more : (i whole w : ℕ) → Shifted i whole w → Shifted (i + 1) whole (w / 2)
unfolding bit
shift-more i whole w s j = let e : i + suc j ≡ i + 1 + j = omega arith in s (suc j) ∙ ap (bit whole) e

-- the digits of the slots whose states are in these words
abbrev low_word : ℕ → ℕ → ℕ → ℕ
low_word f i d = bit_or f (bit_and d ((2 ^ 64 - 1) - i))

abbrev high_word : ℕ → ℕ → ℕ → ℕ
high_word f i d = bit_and (bit_or i d) ((2 ^ 64 - 1) - f)

-- the number of slot k
pub number-written : (f i d : ℕ) → f < 2 ^ 64 → i < 2 ^ 64 → (k low high : ℕ) → k < 64 → Shifted k (low_word f i d) low → Shifted k (high_word f i d) high
    → low % 2 + 2 * (high % 2) ≡ number_in (bit f k) (bit i k) (bit d k)
number-written f i d fits-f fits-i k low high h l u =
    let low_bit : bit low 0 ≡ (bit f k || (bit d k && not (bit i k))) =
    l 0
    ∙ ap (bit (low_word f i d)) (add-zero k)
    ∙ bit-or k f (bit_and d ((2 ^ 64 - 1) - i))
    ∙ ap (λ (b : Bool). bit f k || b) (bit-and k d ((2 ^ 64 - 1) - i) ∙ ap (λ (b : Bool). bit d k && b) (bit_not 64 k i fits-i h)) in
    let high_bit : bit high 0 ≡ ((bit i k || bit d k) && not (bit f k)) =
    u 0
    ∙ ap (bit (high_word f i d)) (add-zero k)
    ∙ bit-and k (bit_or i d) ((2 ^ 64 - 1) - f)
    ∙ ap₂ (λ (a b : Bool). a && b) (bit-or k i d) (bit_not 64 k f fits-f h) in
    rw (lowest low, lowest high, low_bit, high_bit) (digits_number (bit f k) (bit i k) (bit d k))

-- ---- read

-- which state the digits are of
filling-digits : (s : SlotState) → (is_odd s && not (is_out s)) ≡ is_filling s
unfolding is_odd is_out is_filling
filling-digits Free = refl
filling-digits Filling = refl
filling-digits InFlight = refl
filling-digits Discarding = refl

flying-digits : (s : SlotState) → (is_out s && not (is_odd s)) ≡ is_in_flight s
unfolding is_odd is_out is_in_flight
flying-digits Free = refl
flying-digits Filling = refl
flying-digits InFlight = refl
flying-digits Discarding = refl

discarding-digits : (s : SlotState) → (is_odd s && is_out s) ≡ is_discarding s
unfolding is_odd is_out is_discarding
discarding-digits Free = refl
discarding-digits Filling = refl
discarding-digits InFlight = refl
discarding-digits Discarding = refl

-- a word whose places from m on are not set
word_none : (k : ℕ) (f : ℕ → Bool) → ((j : ℕ) → j < k → f j ≡ false) → word k f ≡ 0
unfolding word
word_none zero f clear = refl
word_none (suc k) f clear = rw (word_none k (λ j. f (suc j)) (λ j h. clear (suc j) (omega arith)), clear 0 (omega arith))

word-short : (k m : ℕ) (f : ℕ → Bool) → m ≤ k → ((j : ℕ) → m ≤ j → j < k → f j ≡ false) → word m f ≡ word k f
unfolding word
word-short k zero f h clear = sym (word_none k f (λ j l. clear j (omega arith) l))
word-short zero (suc m) f h clear = absurd (omega arith)
word-short (suc k) (suc m) f h clear =
    ap (λ (w : ℕ). w * 2 + cond (f 0) 1 0)
    (word-short k m (λ j. f (suc j)) (omega arith) (λ j a b. clear (suc j) (omega arith) (omega arith)))

one-cond : (b : Bool) → one b ≡ cond b 1 0
unfolding one
one-cond true = refl
one-cond false = refl

-- the digits of the slots from `at` to an end
abbrev pub digits_from : (ℕ → Bool) → ℕ → ℕ → ℕ
digits_from f at end = word (end - at) (λ j. f (at + j))

module _ (f : ℕ → Bool) where
  pub digits-none : (end : ℕ) → 0 ≡ digits_from f end end
  unfolding word
  digits-none end = let e : 0 ≡ end - end = omega arith in ap (λ (k : ℕ). word k (λ j. f (end + j))) e

  -- one more in front of them
  pub digits_more : (at end v b : ℕ) → 0 < at → at ≤ end → v ≡ digits_from f at end → b ≡ one (f (at - 1)) → v * 2 + b ≡ digits_from f (at - 1) end
  unfolding word
  digits_more at end v b low h e p =
      let m = at - 1 in
      let long : end - m ≡ suc (end - at) = omega arith in
      let rest : word (end - at) (λ j. f (at + j)) ≡ word (end - at) (λ j. f (m + suc j)) =
      word-ext (end - at) (λ j. f (at + j)) (λ j. f (m + suc j)) (λ j l. let s : at + j ≡ m + suc j = omega arith in ap f s) in
      rw long (ap₂ (λ (x y : ℕ). x * 2 + y) (e ∙ rest) (p ∙ ap (λ (k : ℕ). one (f k)) (sym (add-zero m)) ∙ one-cond (f (m + 0))))

  pub digits-fit : (at end : ℕ) → end ≤ at + 64 → digits_from f at end < 2 ^ 64
  digits-fit at end h =
      let short : end - at ≤ 64 = omega arith in
      lt_of_lt_of_le (word_lt (end - at) (λ j. f (at + j))) (pow_mono short)

-- none counts from n on
pub count_past : (f : ℕ → Bool) (n m : ℕ) → n ≤ m → ((i : ℕ) → n ≤ i → f i ≡ false) → how_many m f ≡ how_many n f
unfolding how_many one
count_past f n zero h clear = let e : 0 ≡ n = omega arith in ap (λ (k : ℕ). how_many k f) e
count_past f n (suc m) h clear =
    ⊎_elim
    (λ (e : n ≡ suc m). ap (λ (k : ℕ). how_many k f) (sym e))
    (λ (l : n < suc m). omega (arith, ap one (clear m (omega arith)), count_past f n m (omega arith) clear))
    (last-or-below n (suc m) (omega arith))

-- none is set from n on: the digits of word q, once `at` came down from the word's end, or from n, to the word's start, or if it is not above that
module _
    (f : ℕ → Bool)
    (n : ℕ)
    (clear : (i : ℕ) → n ≤ i → f i ≡ false)
    (q at end : ℕ)
    (is-end : end ≡ min (q * 64 + 64) n)
    (low : at ≤ q * 64)
    (from : at < end → q * 64 ≤ at)
    (within : at ≤ end) where
  pub digits-word : digits_from f at end ≡ table_word f q
  unfolding word table_word
  digits-word = go (dec_lt at end)
    where
      go : Dec (at < end) → word (end - at) (λ j. f (at + j)) ≡ word 64 (λ j. f (q * 64 + j))
      go (yes l) =
          let e : at ≡ q * 64 = omega (arith, from l) in
          ap (λ (a : ℕ). word (end - a) (λ j. f (a + j))) e
          ∙ word-short 64 (end - q * 64) (λ j. f (q * 64 + j)) (omega arith) (λ j a b. clear (q * 64 + j) (omega arith))
      go (no l) =
          let e : end - at ≡ 0 = omega arith in
          ap (λ (k : ℕ). word k (λ j. f (at + j))) e
          ∙ word-short 64 0 (λ j. f (q * 64 + j)) (omega arith) (λ j a b. clear (q * 64 + j) (omega arith))

  -- how many are set
  ends : how_many end f ≡ how_many (q * 64 + 64) f
  ends = go (dec_lt n (q * 64 + 64))
    where
      go : Dec (n < q * 64 + 64) → how_many end f ≡ how_many (q * 64 + 64) f
      go (yes l) =
          let e : end ≡ n = omega arith in ap (λ (k : ℕ). how_many k f) e ∙ sym (count_past f n (q * 64 + 64) (omega arith) clear)
      go (no l) = let e : end ≡ q * 64 + 64 = omega arith in ap (λ (k : ℕ). how_many k f) e

  pub count_word : (out : ℕ) → how_many at f + out ≡ how_many end f → how_many (q * 64) f + out ≡ how_many (q * 64 + 64) f
  count_word out e = go (dec_lt at end)
    where
      go : Dec (at < end) → how_many (q * 64) f + out ≡ how_many (q * 64 + 64) f
      go (yes l) =
          let start : how_many at f ≡ how_many (q * 64) f = let s : at ≡ q * 64 = omega (arith, from l) in ap (λ (k : ℕ). how_many k f) s in
          omega (arith, ends)
      go (no l) =
          let past : n ≤ q * 64 = omega arith in
          let same : how_many at f ≡ how_many end f = let s : at ≡ end = omega arith in ap (λ (k : ℕ). how_many k f) s in
          omega (arith, count_past f n (q * 64) past clear, count_past f n (q * 64 + 64) (omega arith) clear)

-- the words of three masks from the digits
module _
    (state : ℕ → SlotState)
    (q low high : ℕ)
    (is-low : low ≡ table_word (λ i. is_odd (state i)) q)
    (is-high : high ≡ table_word (λ i. is_out (state i)) q) where
  low-at : (j : ℕ) → j < 64 → bit low j ≡ is_odd (state (q * 64 + j))
  unfolding table_word
  low-at j h = ap (λ (w : ℕ). bit w j) is-low ∙ bit_word 64 j (λ k. is_odd (state (q * 64 + k))) h

  high-at : (j : ℕ) → j < 64 → bit high j ≡ is_out (state (q * 64 + j))
  unfolding table_word
  high-at j h = ap (λ (w : ℕ). bit w j) is-high ∙ bit_word 64 j (λ k. is_out (state (q * 64 + k))) h

  low_fits : low < 2 ^ 64
  unfolding table_word
  low_fits = rw is-low (word_lt 64 _)

  high_fits : high < 2 ^ 64
  unfolding table_word
  high_fits = rw is-high (word_lt 64 _)

  pub filling-word : bit_and low ((2 ^ 64 - 1) - high) ≡ table_word (λ i. is_filling (state i)) q
  filling-word =
      is-table _ q (λ i. is_filling (state i)) (and_lt 64 _ _ low_fits (ones_sub-lt 64 high))
      (λ j h.
      bit-and j low ((2 ^ 64 - 1) - high)
      ∙ ap₂ (λ (a b : Bool). a && b) (low-at j h) (bit_not 64 j high high_fits h ∙ ap not (high-at j h))
      ∙ filling-digits (state (q * 64 + j)))

  pub flying-word : bit_and high ((2 ^ 64 - 1) - low) ≡ table_word (λ i. is_in_flight (state i)) q
  flying-word =
      is-table _ q (λ i. is_in_flight (state i)) (and_lt 64 _ _ high_fits (ones_sub-lt 64 low))
      (λ j h.
      bit-and j high ((2 ^ 64 - 1) - low)
      ∙ ap₂ (λ (a b : Bool). a && b) (high-at j h) (bit_not 64 j low low_fits h ∙ ap not (low-at j h))
      ∙ flying-digits (state (q * 64 + j)))

  pub discarding-word : bit_and low high ≡ table_word (λ i. is_discarding (state i)) q
  discarding-word =
      is-table _ q (λ i. is_discarding (state i)) (and_lt 64 _ _ low_fits high_fits)
      (λ j h.
      bit-and j low high ∙ ap₂ (λ (a b : Bool). a && b) (low-at j h) (high-at j h) ∙ discarding-digits (state (q * 64 + j)))
