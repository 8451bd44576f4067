-- Request 2026-04: which packets of a commit may end inside a frame.
use Rattle.std.specs.Prelude.{ℕ, suc, ◌%◌, ◌≤◌, ◌<◌, Bool, true, false, not, List, ◌≡◌, ltb, eqb, take, get_or}
use Rattle.layout.specs.Layout.{whole_frames}
use Rattle.ledger.specs.Slot.{sum}

-- What a packet is filled up to is the largest multiple of f not above b.
pub record LargestMultiple (b f : ℕ) : Type 0 where
  pub multiple : whole_frames b f % f ≡ 0
  pub not-above : whole_frames b f ≤ b
  pub largest : (m : ℕ) → m % f ≡ 0 → m ≤ b → m ≤ whole_frames b f

-- Packet k has bytes.
unfoldable pub is_used : List ℕ → ℕ → Bool
is_used lengths k = ltb 0 (get_or lengths k 0)

-- The bytes committed up to the end of packet k are no whole frames.
unfoldable pub ends_inside : ℕ → List ℕ → ℕ → Bool
ends_inside f lengths k = not (eqb (sum (take (suc k) lengths) % f) 0)

-- Only the last used packet may end inside a frame: none does that has a used one behind it.
pub record OnlyTheLast (f : ℕ) (lengths : List ℕ) : Type 0 where
  pub only : (k j : ℕ) → k < j → is_used lengths j ≡ true → ends_inside f lengths k ≡ false
