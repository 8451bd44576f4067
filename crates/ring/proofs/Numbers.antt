-- Laws of the slots 0..n-1 and of a table over them: how long they are and what stands in them; that each slot stands once in the queue 0..n-1,
-- and that one store more in its places makes it one longer. By induction on the number of slots. Assumes nothing.
use Rattle.std.proofs.Common.{◌≡◌, ℕ, zero, suc, ◌+◌, ◌-◌, ◌<◌, ◌≤◌, true, List, [], ◌∷◌, ◌++◌, length, get_or, take, drop, set, replicate, sym, refl, ap, ◌∙◌, ap₂, ⊎_elim, append-nil, add-zero, add-one, arith, length-append, drop-cons, get_or-append-add, ext_get_or}
use Rattle.std.proofs.lemmas.List.{take-replicate, drop-replicate}
use lib.ListN.{length-replicate, get_or-append}
use lib.Seq.{set_at, append_snoc, drop-length}
use Rattle.ring.specs.Counts.{slot_numbers, table, times, all_below}
use Rattle.ring.proofs.Counts.{last-or-below, times-append, times-same, times-other, below-append, below_one}

pub length-numbers : (n : ℕ) → length (slot_numbers n) ≡ n
unfolding slot_numbers
length-numbers zero = refl
length-numbers (suc n) = rw (length-append, length-numbers n) (omega arith)

-- the queue's places with one slot more
pub numbers-next : (i m : ℕ) → i < m → set (slot_numbers i ++ replicate (m - i) 0) i i ≡ slot_numbers (i + 1) ++ replicate (m - (i + 1)) 0
unfolding slot_numbers
numbers-next i m h =
    let left : m - i ≡ suc (m - (i + 1)) = omega arith in
    rw left
    (set_at (slot_numbers i) 0 (replicate (m - (i + 1)) 0) i i (length-numbers i)
    ∙ rw add-one (sym (append_snoc (slot_numbers i) i (replicate (m - suc i) 0))))

-- the first n of m places before a slot is written, and all m once the n are
pub numbers-none : (n m : ℕ) → n ≤ m → take n (replicate m 0) ≡ slot_numbers 0 ++ replicate (n - 0) 0
unfolding slot_numbers
numbers-none n m h = let e : n - 0 ≡ n = omega arith in rw e (take-replicate n m 0 h)

pub numbers-all : (n m : ℕ) → (slot_numbers n ++ replicate (n - n) 0) ++ drop n (replicate m 0) ≡ slot_numbers n ++ replicate (m - n) 0
numbers-all n m = let e : n - n ≡ 0 = omega arith in rw (e, append-nil, drop-replicate)

-- a slot at or past n is not there
pub numbers-without : (i n : ℕ) → n ≤ i → times i (slot_numbers n) ≡ 0
unfolding slot_numbers times
numbers-without i zero h = refl
numbers-without i (suc n) h =
    rw (times-append, times-other i n (λ e. omega arith)) (omega (arith, numbers-without i n (omega arith)))

-- each slot below n is there once
pub numbers-once : (i n : ℕ) → i < n → times i (slot_numbers n) ≡ 1
unfolding slot_numbers
numbers-once i zero h = absurd (omega arith)
numbers-once i (suc n) h =
    ⊎_elim
    (λ (e : i ≡ n). rw (e, times-append, times-same n, numbers-without n n (omega arith)))
    (λ (l : i < n). rw (times-append, times-other i n (λ e. omega arith), numbers-once i n l))
    (last-or-below i n h)

-- none is at or past n
pub numbers-below : (n m : ℕ) → n ≤ m → all_below m (slot_numbers n) ≡ true
unfolding slot_numbers all_below
numbers-below zero m h = refl
numbers-below (suc n) m h =
    below-append m (slot_numbers n) (n ∷ []) (numbers-below n m (omega arith)) (below_one m n (omega arith))

-- a table over the slots below n
module _ {A : Type 0} (figure : ℕ → A) where
  pub table-long : (n : ℕ) → length (table figure n) ≡ n
  unfolding table
  table-long zero = refl
  table-long (suc n) = rw (length-append, table-long n) (omega arith)

  -- its last entry
  table-last : (d : A) (n : ℕ) → get_or (table figure n ++ (figure n ∷ [])) n d ≡ figure n
  table-last d n =
      let e : length (table figure n) + 0 ≡ n = add-zero _ ∙ table-long n in
      ap (λ (i : ℕ). get_or (table figure n ++ (figure n ∷ [])) i d) (sym e) ∙ get_or-append-add (table figure n) (figure n ∷ []) 0 d

  pub table_at : (d : A) (n i : ℕ) → i < n → get_or (table figure n) i d ≡ figure i
  unfolding table
  table_at d zero i h = absurd (omega arith)
  table_at d (suc n) i h =
      ⊎_elim
      (λ (e : i ≡ n). rw e (table-last d n))
      (λ (l : i < n). get_or-append (table figure n) (figure n ∷ []) d i (rw table-long l) ∙ table_at d n i l)
      (last-or-below i n h)

  -- a list with these entries
  pub table_is : (d : A) (n : ℕ) (l : List A) → length l ≡ n → ((i : ℕ) → i < n → figure i ≡ get_or l i d) → table figure n ≡ l
  table_is d n l long same =
      ext_get_or d _ _ (table-long n ∙ sym long)
      (λ i h. let below : i < n = rw table-long at h in table_at d n i below ∙ same i below)

-- a table that takes the place of a list's front, with one figure more
module _ (f : ℕ → ℕ) (l : List ℕ) where
  pub table-put : (i v : ℕ) → i < length l → v ≡ f i → set (table f i ++ drop i l) i v ≡ table f (i + 1) ++ drop (i + 1) l
  unfolding table
  table-put i v h e =
      rw (add-one, drop-cons l i 0)
      (set_at (table f i) (get_or l i 0) (drop (suc i) l) v i (table-long f i)
      ∙ rw e (sym (append_snoc (table f i) (f i) (drop (suc i) l))))

  -- all of it
  pub table-whole : (i : ℕ) → i ≡ length l → table f i ++ drop i l ≡ table f (length l)
  table-whole i e = rw (e, drop-length l) (append-nil (table f (length l)))

-- the same figures
pub table_same : {A : Type 0} (f g : ℕ → A) (n : ℕ) → ((i : ℕ) → i < n → f i ≡ g i) → table f n ≡ table g n
unfolding table
table_same f g zero p = refl
table_same {A} f g (suc n) p =
    ap₂ (λ (front : List A) (last : A). front ++ (last ∷ [])) (table_same f g n (λ i h. p i (omega arith))) (p n (omega arith))

-- one figure for all
replicate-at : {A : Type 0} (x : A) (n i : ℕ) → i < n → x ≡ get_or (replicate n x) i x
replicate-at x zero i h = absurd (omega arith)
replicate-at x (suc n) zero h = refl
replicate-at x (suc n) (suc i) h = replicate-at x n i (omega arith)

pub table-alike : {A : Type 0} (f : ℕ → A) (x : A) (n : ℕ) → ((i : ℕ) → i < n → f i ≡ x) → table f n ≡ replicate n x
table-alike f x n p = table_is f x n (replicate n x) (length-replicate n x) (λ i h. p i h ∙ replicate-at x n i h)
