-- Laws of descriptors read one after the other: reading several is reading the first and then the others, their sums go the same way, and
-- the descriptors of a part are those of the block at the part's offset. Each goes by the packets that are left. Assumes nothing.
use mathlib.Core.Path.{◌≡◌, refl, sym, ap, ◌∙◌}
use mathlib.Core.List.{List, [], ◌∷◌}
use Prim.Native.Nat.{ℕ, zero, suc, ◌+◌, ◌-◌, ◌*◌, ◌/◌, ◌≤◌, ◌<◌}
use native.Mathlib.Nat.{add_assoc, add-zero}
use native.Mathlib.Omega.{arith}
use lib.ListN.{length, drop, length-drop}
use lib.Seq.{length-take-le}
use Rattle.sys.specs.declared.descriptor.IsoPacketDesc.{IsoPacketDesc}
use Rattle.sys.specs.Bytes.{part, field}
use Rattle.sys.specs.Descriptor.{length_at, desc_actual_length_at, desc_status_at, desc_size, desc_at}
use Rattle.sys.proofs.Fields.{field-part}
use Rattle.ledger.specs.Notice.{packets_at, requested, short}

-- p packets of which k are done: the next one, then the others
pub packets-next : (p k : ℕ) (l : List ℕ) → k < p
    → packets_at (p - k) (desc_size * k) l ≡ desc_at (desc_size * k) l ∷ packets_at (p - (k + 1)) (desc_size * (k + 1)) l
unfolding packets_at
packets-next p k l h =
    let more : p - k ≡ suc (p - (k + 1)) = omega arith in
    let next : desc_size * (k + 1) ≡ desc_size * k + desc_size = omega arith in
    rw (more, next)

-- no packet is left
pub packets-none : (p k at : ℕ) (l : List ℕ) → p ≤ k → packets_at (p - k) at l ≡ []
unfolding packets_at
packets-none p k at l h = let none : p - k ≡ 0 = omega arith in rw none

-- a descriptor of a part is the one of the block at the part's offset
desc-part : (at n i : ℕ) (l : List ℕ) → i + desc_size ≤ n → at + n ≤ length l → desc_at i (part at n l) ≡ desc_at (at + i) l
unfolding desc_at
desc-part at n i l h room =
    let same : (j : ℕ) → j + 4 ≤ desc_size → field (i + j) 4 (part at n l) ≡ field (at + i + j) 4 l =
    λ j k. field-part at n (i + j) 4 l (omega arith) room ∙ ap (λ (m : ℕ). field m 4 l) (sym (add_assoc at i j)) in
    λ x. record {
      length = same length_at (omega arith) x;
      actual_length = same desc_actual_length_at (omega arith) x;
      status = same desc_status_at (omega arith) x;
    }

-- and so are several
pub packets-part : (p at n i : ℕ) (l : List ℕ) → i + desc_size * p ≤ n → at + n ≤ length l → packets_at p i (part at n l) ≡ packets_at p (at + i) l
unfolding packets_at
packets-part zero at n i l h room = refl
packets-part (suc p) at n i l h room =
    let rest = packets-part p at n (i + desc_size) l (omega arith) room ∙ ap (λ (m : ℕ). packets_at p m l) (sym (add_assoc at i desc_size)) in
    λ x. desc-part at n i l (omega arith) room x ∷ rest x

-- the descriptors that a list holds from its start on
abbrev pub whole : List ℕ → List IsoPacketDesc
whole l = packets_at (length l / desc_size) 0 l

-- the descriptors of a part that holds p of them
pub packets-of-part : (p at : ℕ) (l : List ℕ) → at + desc_size * p ≤ length l
    → whole (part at (at + desc_size * p - at) l) ≡ packets_at p at l
packets-of-part p at l room =
    let same : at + desc_size * p - at ≡ desc_size * p = omega arith in
    let long : length (part at (desc_size * p) l) ≡ desc_size * p =
    length-take-le (desc_size * p) (drop at l) (simp length-drop (omega arith)) in
    let count : length (part at (desc_size * p) l) / desc_size ≡ p = omega arith in
    ap (λ (n : ℕ). whole (part at n l)) same
    ∙ ap (λ (n : ℕ). packets_at n 0 (part at (desc_size * p) l)) count
    ∙ packets-part p at (desc_size * p) 0 l (omega arith) room
    ∙ ap (λ (m : ℕ). packets_at p m l) (add-zero at)

-- the sums from packet k on: the packet there, then the others
module _ (p k : ℕ) (l : List ℕ) where
  pub requested-next : k < p
      → requested (packets_at (p - k) (desc_size * k) l) ≡ (desc_at (desc_size * k) l).length + requested (packets_at (p - (k + 1)) (desc_size * (k + 1)) l)
  unfolding requested
  requested-next h = rw (packets-next p k l h)

  pub short-next : k < p
      → short (packets_at (p - k) (desc_size * k) l)
      ≡ ((desc_at (desc_size * k) l).length - (desc_at (desc_size * k) l).actual_length) + short (packets_at (p - (k + 1)) (desc_size * (k + 1)) l)
  unfolding short
  short-next h = rw (packets-next p k l h)

  pub requested-end : p ≤ k → requested (packets_at (p - k) (desc_size * k) l) ≡ 0
  unfolding requested
  requested-end h = rw (packets-none p k (desc_size * k) l h)

  pub short-end : p ≤ k → short (packets_at (p - k) (desc_size * k) l) ≡ 0
  unfolding short
  short-end h = rw (packets-none p k (desc_size * k) l h)
