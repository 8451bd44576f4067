-- Laws of descriptors stored one after the other: storing several is storing the first and then the others behind it, with those of commit's shares.
-- Each goes by the packets that are left. Assumes nothing.
use mathlib.Core.Path.{◌≡◌, refl, sym, ap, ◌∙◌}
use mathlib.Core.List.{List, [], ◌∷◌}
use Prim.Native.Nat.{ℕ, suc, ◌+◌, ◌-◌, ◌*◌, ◌≤◌, ◌<◌, min}
use native.Mathlib.Omega.{arith}
use Rattle.sys.specs.Bytes.{store}
use Rattle.sys.specs.Descriptor.{desc_size, desc_bytes, packet_of}
use Rattle.sys.proofs.Store.{store-append}
use Rattle.sys.proofs.Descriptors.{length-desc_bytes}
use Rattle.ledger.specs.Slot.{shares, descriptors}

-- the first descriptor, then the others behind it
pub store-next : (at v : ℕ) (vs l : List ℕ) → store (at + desc_size) (descriptors vs) (store at (desc_bytes (packet_of v)) l) ≡ store at (descriptors (v ∷ vs)) l
unfolding descriptors
store-next at v vs l =
    sym
    (store-append at (desc_bytes (packet_of v)) (descriptors vs) l
    ∙ ap (λ (n : ℕ). store (at + n) (descriptors vs) (store at (desc_bytes (packet_of v)) l)) (length-desc_bytes (packet_of v)))

pub store-none : (at : ℕ) (l : List ℕ) → store at (descriptors []) l ≡ l
unfolding descriptors store
store-none at l = refl

-- one descriptor further
pub further : (at k : ℕ) → at + desc_size * (k + 1) ≡ at + desc_size * k + desc_size
further at k = omega arith

-- p packets of which k are done: the next one, then the others
pub shares-next : (p b rest k : ℕ) → k < p → shares (p - k) b rest ≡ min rest b ∷ shares (p - (k + 1)) b (rest - b)
unfolding shares
shares-next p b rest k h = let more : p - k ≡ suc (p - (k + 1)) = omega arith in rw more

-- no packet is left
pub shares-none : (p b rest k : ℕ) → p ≤ k → shares (p - k) b rest ≡ []
unfolding shares
shares-none p b rest k h = let none : p - k ≡ 0 = omega arith in rw none
