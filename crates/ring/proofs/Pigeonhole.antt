-- The queue of a sound ring is as long as there are Free slots: each entry is one of n slots, and each of these stands there once if
-- Free. So a slot elsewhere leaves room in the queue. By counting the queue's entries slot by slot. Assumes nothing.
use Rattle.std.proofs.Common.{◌≡◌, ℕ, zero, suc, ◌+◌, ◌<◌, ◌≤◌, Bool, true, false, ltb, List, [], ◌∷◌, length, get_or, sym, refl, ap, ◌∙◌, ⊎_elim, arith, ltb-true, eq-eqb, ne_eqb}
use Rattle.ring.specs.declared.SlotState.TheVariants.{Free}
use Rattle.ring.specs.declared.Ring.{Ring}
use Rattle.ring.specs.declared.Hand.{Hand}
use Rattle.ring.specs.Slots.{is_free, is_out, one}
use Rattle.ring.specs.Counts.{how_many, times, all_below}
use Rattle.ring.specs.Parts.{queue_of, state_of}
use Rattle.ring.proofs.Truth.{first, is_one, second}
use Rattle.ring.proofs.Counts.{last-or-below, count-some, count_less, below_at}
use Rattle.ring.proofs.States.{free-is}
use Rattle.ring.proofs.Queue.{queue_long}
use Rattle.ring.proofs.Wide.{Wide}
use Rattle.ring.proofs.Sound.{Sound}

-- the entries of a queue that are below n, counted slot by slot
total : ℕ → List ℕ → ℕ
total zero queue = 0
total (suc n) queue = times n queue + total n queue

total-none : (n : ℕ) → total n [] ≡ 0
unfolding total times
total-none zero = refl
total-none (suc n) = omega (arith, total-none n)

total-past : (n slot : ℕ) (rest : List ℕ) → n ≤ slot → total n (slot ∷ rest) ≡ total n rest
unfolding total times one
total-past zero slot rest h = refl
total-past (suc n) slot rest h =
    omega (arith, ap one (ne_eqb n slot (λ e. omega arith)), total-past n slot rest (omega arith))

total-more : (n slot : ℕ) (rest : List ℕ) → slot < n → total n (slot ∷ rest) ≡ total n rest + 1
unfolding total times one
total-more zero slot rest h = absurd (omega arith)
total-more (suc n) slot rest h =
    ⊎_elim
    (λ (e : slot ≡ n). omega (arith, ap one (eq-eqb n slot (sym e)), total-past n slot rest (omega arith)))
    (λ (l : slot < n). omega (arith, ap one (ne_eqb n slot (λ e. omega arith)), total-more n slot rest l))
    (last-or-below slot n h)

length-total : (n : ℕ) (queue : List ℕ) → all_below n queue ≡ true → length queue ≡ total n queue
unfolding all_below
length-total n [] p = sym (total-none n)
length-total n (slot ∷ rest) p =
    omega (
      arith,
      total-more n slot rest (ltb-true slot n (first (ltb slot n) (all_below n rest) p)),
      length-total n rest (second (ltb slot n) (all_below n rest) p),
    )

total-count : (n : ℕ) (queue : List ℕ) (test : ℕ → Bool) → ((i : ℕ) → i < n → times i queue ≡ one (test i)) → total n queue ≡ how_many n test
unfolding total how_many
total-count zero queue test p = refl
total-count (suc n) queue test p = omega (arith, p n (omega arith), total-count n queue test (λ i h. p i (omega arith)))

-- a queue of slots below n in which slot i stands once where the test says yes, and else not at all
pub length-counted : (n : ℕ) (queue : List ℕ) (test : ℕ → Bool) → all_below n queue ≡ true → ((i : ℕ) → i < n → times i queue ≡ one (test i)) → length queue ≡ how_many n test
length-counted n queue test p q = length-total n queue p ∙ total-count n queue test q

-- an entry of a queue stands in it
times-some : (queue : List ℕ) (k : ℕ) → k < length queue → 0 < times (get_or queue k 0) queue
unfolding times one
times-some [] k h = absurd (omega arith)
times-some (slot ∷ rest) zero h = omega (arith, ap one (eq-eqb slot slot refl))
times-some (slot ∷ rest) (suc k) h = omega (arith, times-some rest k (omega arith))

module _ {n : ℕ} {ring : Ring} {hand : Hand} (s : Sound n ring hand) where
  -- every entry of the queue is one of the n slots, and Free
  pub entry_free : (k : ℕ) → k < length (queue_of ring) → (get_or (queue_of ring) k 0 < n) × (state_of ring (get_or (queue_of ring) k 0) ≡ Free)
  entry_free k h =
      let slot = get_or (queue_of ring) k 0 in
      let l : slot < n = below_at n (queue_of ring) s.below k h in
      (l, free-is (state_of ring slot) (is_one _ (omega (arith, s.queued slot l, times-some (queue_of ring) k h))))

  pub front-free : (slot : ℕ) (rest : List ℕ) → queue_of ring ≡ slot ∷ rest → (slot < n) × (state_of ring slot ≡ Free)
  front-free slot rest e =
      let long : 0 < length (queue_of ring) = omega (arith, ap length e) in
      rw e at (entry_free 0 long)

  -- a slot that is out counts
  pub out_some : (i : ℕ) → i < n → is_out (state_of ring i) ≡ true → 0 < ring.in_flight
  out_some i h p = omega (arith, s.out, count-some (λ j. is_out (state_of ring j)) n i h p)

  -- a slot that is not out leaves room in the out count
  pub out-room : (i : ℕ) → i < n → is_out (state_of ring i) ≡ false → ring.in_flight < n
  out-room i h p = omega (arith, s.out, count_less (λ j. is_out (state_of ring j)) n i h p)

  module _ (wide : Wide ring) where
    -- the queue is as long as there are Free slots
    pub queue-count : ring.free_len ≡ how_many n (λ i. is_free (state_of ring i))
    queue-count =
        sym (queue_long ring (omega (arith, s.short, wide.places))) ∙
        length-total n (queue_of ring) s.below ∙
        total-count n (queue_of ring) (λ i. is_free (state_of ring i)) s.queued

    -- a slot that is not Free leaves room in the queue
    pub room : (i : ℕ) → i < n → is_free (state_of ring i) ≡ false → ring.free_len < n
    room i h p = omega (arith, queue-count, count_less (λ j. is_free (state_of ring j)) n i h p)
