-- The walk of the queue, an iteration at a time: what it adds, and which fact fails where it gives up. It starts with the Filling slots as seen; a slot
-- is seen where it is Filling or stands in the front of the queue that was walked. Assumes nothing.
use Rattle.std.proofs.Common.{◌≡◌, ℕ, zero, suc, ◌+◌, ◌*◌, ◌/◌, ◌%◌, ◌^◌, ◌<◌, ◌≤◌, Bool, true, false, not, ◌&&◌, ◌||◌, eqb, ltb, leb, List, Some, None, [], ◌∷◌, ◌++◌, length, get_or, take, set, sym, refl, ap, ◌∙◌, true≢false, zero-add, add-one, arith, get_or-set_other, take-suc, get_or-set_same, eq-eqb, ne_eqb, le-leb, leb-true}
use native.Mathlib.Decide.{ℕ_discrete}
use lib.Bits.{bit_and, bit_or, or_lt}
use Rattle.mask.specs.declared.Mask.{Mask}
use Rattle.mask.specs.Masks.{member}
use Rattle.mask.proofs.Masks.{Fits, mask-ext, mask_is, mask_in, seen-bit, seen_more}
use Rattle.ring.specs.Slots.{one}
use Rattle.ring.specs.Counts.{times, all_below}
use Rattle.ring.specs.Tests.{times_home, home_once, home_mask, home_of}
use Rattle.ring.proofs.Truth.{first, one_at_most, refuted, second}
use Rattle.ring.proofs.Counts.{every-at, every_of, times-append, times-same, times-other, times-front, below-append, below_at, below_one}

-- the slots seen are those at home, each of them once
abbrev pub Seen : Mask → List ℕ → List ℕ → Type 0
Seen filling q seen = (i : ℕ) → i < 256 → times_home filling q i ≡ one (member (mask_in seen) i)

-- no slot was walked yet
pub none-walked : (filling : Mask) → Seen filling [] (filling.a ∷ filling.b ∷ filling.c ∷ filling.d ∷ [])
unfolding times_home times
none-walked filling i h = zero-add (one (member filling i))

pub none-fits : (filling : Mask) → Fits filling → (j : ℕ) → j < 4 → get_or (filling.a ∷ filling.b ∷ filling.c ∷ filling.d ∷ []) j 0 < 2 ^ 64
none-fits filling f zero h = f.a
none-fits filling f (suc zero) h = f.b
none-fits filling f (suc (suc zero)) h = f.c
none-fits filling f (suc (suc (suc zero))) h = f.d
none-fits filling f (suc (suc (suc (suc j)))) h = absurd (omega arith)

-- What an iteration starts from: the queue's entries before place k are below n, the slots at home so far are seen, and the entry is this one.
pub record Walking (n : ℕ) (filling : Mask) (queue : List ℕ) (k : ℕ) (seen : List ℕ) (slot : ℕ) : Type 0 where
  pub inside : k < length queue
  pub words : length seen ≡ 4
  pub fits : (j : ℕ) → j < 4 → get_or seen j 0 < 2 ^ 64
  pub entry : slot ≡ get_or queue k 0
  pub byte : slot < 256
  pub below : all_below n (take k queue) ≡ true
  pub marked : Seen filling (take k queue) seen

-- a fact fails
not-once : (n : ℕ) (filling : Mask) (len : ℕ) (queue : List ℕ) → (home_once n filling len queue ≡ true → ⊥) → None ≡ home_of n filling len queue
unfolding home_of
not-once n filling len queue f = rw (refuted _ f)

-- the queue is longer than its places
pub too_long : (n : ℕ) (filling : Mask) (len : ℕ) (queue : List ℕ) → 256 < len → None ≡ home_of n filling len queue
unfolding home_once
too_long n filling len queue h =
    not-once n filling len queue
    (λ p. omega (arith, leb-true len 256 (first (leb len 256) (all_below n queue) (first (leb len 256 && all_below n queue) _ p))))

module _ {n : ℕ} {filling : Mask} {queue : List ℕ} {k : ℕ} {seen : List ℕ} {slot : ℕ} (w : Walking n filling queue k seen slot) where
  front-next : take (k + 1) queue ≡ take k queue ++ (slot ∷ [])
  front-next = rw (add-one, take-suc queue k 0 w.inside, w.entry)

  times-next : (i : ℕ) → times i (take (k + 1) queue) ≡ times i (take k queue) + times i (slot ∷ [])
  times-next i = rw (front-next, times-append)

  -- the next entry is a slot of the ring
  pub below_next : slot < n → all_below n (take (k + 1) queue) ≡ true
  below_next h = rw front-next (below-append n _ _ w.below (below_one n _ h))

  -- the bit that the code looks at
  abbrev bit : ℕ
  bit = (1 * 2 ^ (slot % 64)) % 2 ^ 64

  abbrev was : ℕ
  was = get_or seen (slot / 64) 0

  new : bit_and was bit ≡ 0 → member (mask_in seen) slot ≡ false
  new p = sym (not-not (member (mask_in seen) slot)) ∙ ap not (sym (seen-bit seen slot w.words w.byte) ∙ eq-eqb _ _ p)
    where
      not-not : (b : Bool) → not (not b) ≡ b
      not-not true = refl
      not-not false = refl

  -- and it is new
  pub seen_next : bit_and was bit ≡ 0 → Seen filling (take (k + 1) queue) (set seen (slot / 64) (bit_or was bit))
  unfolding times_home one
  seen_next p i b = go (ℕ_discrete i slot)
    where
      more : member (mask_in (set seen (slot / 64) (bit_or was bit))) i ≡ (member (mask_in seen) i || eqb slot i)
      more = seen_more seen slot w.words w.byte w.fits i b

      go : Dec (i ≡ slot) → times i (take (k + 1) queue) + one (member filling i) ≡ one (member (mask_in (set seen (slot / 64) (bit_or was bit))) i)
      go (yes e) =
          let old : member (mask_in seen) i ≡ false = ap (member (mask_in seen)) e ∙ new p in
          let once : times i (slot ∷ []) ≡ 1 = rw e (times-same slot) in
          let now-in : member (mask_in (set seen (slot / 64) (bit_or was bit))) i ≡ true = more ∙ rw (old, eq-eqb slot i (sym e)) in
          omega (arith, times-next i, w.marked i b, ap one old, ap one now-in)
      go (no e) =
          let same : member (mask_in (set seen (slot / 64) (bit_or was bit))) i ≡ member (mask_in seen) i =
          more ∙ rw (ne_eqb slot i (λ z. e (sym z))) (or-none (member (mask_in seen) i)) in
          omega (arith, times-next i, times-other i slot e, w.marked i b, ap one same)
        where
          or-none : (x : Bool) → (x || false) ≡ x
          or-none true = refl
          or-none false = refl

  -- an entry at or past n
  pub stray : (len : ℕ) → n ≤ slot → None ≡ home_of n filling len queue
  unfolding home_once
  stray len p =
      not-once n filling len queue
      (λ t. omega (
        arith,
        w.entry,
        below_at n queue (second (leb len 256) (all_below n queue) (first (leb len 256 && all_below n queue) _ t)) k w.inside,
      ))

  -- an entry that was seen before
  pub twice : (len : ℕ) → (bit_and was bit ≡ 0 → ⊥) → None ≡ home_of n filling len queue
  unfolding home_once times_home one
  twice len p =
      let old : member (mask_in seen) slot ≡ true = met (member (mask_in seen) slot) (sym (seen-bit seen slot w.words w.byte)) in
      not-once n filling len queue
      (λ t. omega (
        arith,
        leb-true (times_home filling queue slot) 1 (every-at (λ i. leb (times_home filling queue i) 1) 256 (second (leb len 256 && all_below n queue) _ t) slot w.byte),
        w.marked slot w.byte ∙ ap one old,
        times-same slot,
        times-next slot,
        times-front slot (k + 1) queue,
      ))
    where
      met : (b : Bool) → not b ≡ eqb (bit_and was bit) 0 → b ≡ true
      met true e = refl
      met false e = absurd (true≢false (e ∙ ne_eqb _ _ p))

  -- its word fits
  pub fits_next : (j : ℕ) → j < 4 → get_or (set seen (slot / 64) (bit_or was bit)) j 0 < 2 ^ 64
  fits_next j h = go (ℕ_discrete j (slot / 64))
    where
      go : Dec (j ≡ slot / 64) → get_or (set seen (slot / 64) (bit_or was bit)) j 0 < 2 ^ 64
      go (yes e) =
          let inside : slot / 64 < 4 = omega (arith, w.byte) in
          rw (e, get_or-set_same seen (slot / 64) (bit_or was bit) 0 (rw w.words inside))
          (or_lt 64 was bit (w.fits (slot / 64) inside) (omega arith))
      go (no e) = rw (get_or-set_other seen (slot / 64) j (bit_or was bit) 0 e) (w.fits j h)

-- the walk is over
module _ (n : ℕ) (filling : Mask) (len : ℕ) (queue : List ℕ) (seen : List ℕ) where
  pub walked :
      len ≤ 256 → ((j : ℕ) → j < 4 → get_or seen j 0 < 2 ^ 64) → all_below n queue ≡ true → Seen filling queue seen →
      Some (mask_in seen) ≡ home_of n filling len queue
  unfolding home_of home_once home_mask one
  walked short fits below all =
      rw (
        le-leb len 256 short,
        below,
        every_of (λ i. leb (times_home filling queue i) 1) 256 (λ i h. le-leb (times_home filling queue i) 1 (omega (arith, all i h, one_at_most (member (mask_in seen) i)))),
      )
      (ap Some (mask_is (mask_in seen) words ∙ mask-ext _ _ (λ i h. is_home (member (mask_in seen) i) ∙ ap (ltb 0) (sym (all i h)))))
    where
      words : Fits (mask_in seen)
      words = record { a = fits 0 (omega arith); b = fits 1 (omega arith); c = fits 2 (omega arith); d = fits 3 (omega arith) }

      is_home : (b : Bool) → b ≡ ltb 0 (one b)
      is_home true = refl
      is_home false = refl
