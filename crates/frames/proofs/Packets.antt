-- A packet with a used one behind it is full, and so are those before it; a full packet is a multiple of f. By the packets. Assumes
-- nothing.
use Prim.Native.Nat.{ℕ, zero, suc, ◌-◌, ◌*◌, ◌/◌, ◌%◌, ◌<◌}
use native.Mathlib.Nat.{mul_assoc, mul-mod_left, suc-mul, min-le_left, sub-add-min_cancel}
use native.Mathlib.Omega.{arith}
use mathlib.Core.Bool.{not}
use mathlib.Core.Path.{◌≡◌, ap}
use lib.ListN.{take, get_or}
use borrow.Author.Tests.{ltb-true, eq-eqb}
use Rattle.layout.specs.declared.Setup.{Setup}
use Rattle.layout.specs.Layout.{whole_frames}
use Rattle.layout.proofs.Frames.{frames-below, frames-multiple, frames-largest}
use Rattle.ledger.specs.Slot.{sum, shares, lengths_of}
use Rattle.frames.specs.Packets.{LargestMultiple, is_used, ends_inside, OnlyTheLast}

pub largest-multiple : (b f : ℕ) → 0 < f → LargestMultiple b f
largest-multiple b f h =
    record { multiple = frames-multiple b f; not-above = frames-below b f; largest = λ m. frames-largest b f m h }

-- where a packet gets bytes there is something left to share
used-some : (p most rest j : ℕ) → 0 < get_or (shares p most rest) j 0 → 0 < rest
unfolding shares
used-some zero most rest j h = absurd (omega arith)
used-some (suc p) most rest zero h = omega (arith, min-le_left rest most)
used-some (suc p) most rest (suc j) h = omega (arith, used-some p most (rest - most) j h)

-- up to a packet with a used one behind it all are full
full : (p most rest k j : ℕ) → k < j → 0 < get_or (shares p most rest) j 0 → sum (take (suc k) (shares p most rest)) ≡ suc k * most
unfolding shares sum
full zero most rest k j l h = absurd (omega arith)
full (suc p) most rest k zero l h = absurd (omega arith)
full (suc p) most rest zero (suc j) l h =
    let more = used-some p most (rest - most) j h in
    omega (arith, sub-add-min_cancel rest most)
full (suc p) most rest (suc k) (suc j) l h =
    let more = used-some p most (rest - most) j h in
    omega (arith, sub-add-min_cancel rest most, full p most (rest - most) k j (omega arith) h, suc-mul (suc k) most)

frames-whole : (k b f : ℕ) → k * whole_frames b f % f ≡ 0
unfolding whole_frames
frames-whole k b f = rw (← mul_assoc k (b / f) f) (mul-mod_left (k * (b / f)) f)

-- for every f, b, p and count
pub only-the-last : (f b p count : ℕ) → OnlyTheLast f (shares p (whole_frames b f) count)
unfolding is_used ends_inside
only-the-last f b p count =
    record {
      only = λ k j l u.
          let lengths = shares p (whole_frames b f) count in
          let ends = full p (whole_frames b f) count k j l (ltb-true 0 (get_or lengths j 0) u) in
          ap not (eq-eqb (sum (take (suc k) lengths) % f) 0 (rw ends (frames-whole (suc k) b f)));
    }

-- so for what commit writes
pub commit-only-the-last : (s : Setup) (bytes : ℕ) → OnlyTheLast s.frame_bytes (lengths_of s bytes)
commit-only-the-last s bytes = only-the-last s.frame_bytes s.packet_bytes s.packets_per_urb bytes
