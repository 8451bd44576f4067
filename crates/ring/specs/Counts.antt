-- The slots below n, tests and counts over them, and over a queue.
use Rattle.std.specs.Prelude.{ℕ, zero, suc, ◌+◌, Bool, true, ◌&&◌, List, [], ◌∷◌, ◌++◌, ◌==◌, nat_lt}
use Rattle.ring.specs.Slots.{one}

-- The slots 0 to n-1.
unfoldable pub slot_numbers : ℕ → List ℕ
slot_numbers zero = []
slot_numbers (suc n) = slot_numbers n ++ (n ∷ [])

-- A figure of each slot below n, in order.
unfoldable pub table : {A : Type 0} → (ℕ → A) → ℕ → List A
table figure zero = []
table figure (suc n) = table figure n ++ (figure n ∷ [])

-- Every slot below n passes the test.
unfoldable pub every_slot : ℕ → (ℕ → Bool) → Bool
every_slot zero test = true
every_slot (suc i) test = test i && every_slot i test

-- How many slots below n pass the test.
unfoldable pub how_many : ℕ → (ℕ → Bool) → ℕ
how_many zero test = 0
how_many (suc i) test = one (test i) + how_many i test

-- How often slot i stands in a queue.
unfoldable pub times : ℕ → List ℕ → ℕ
times i [] = 0
times i (slot ∷ rest) = one (i == slot) + times i rest

-- Every entry of a queue is one of n slots.
unfoldable pub all_below : ℕ → List ℕ → Bool
all_below n [] = true
all_below n (slot ∷ rest) = nat_lt slot n && all_below n rest
