-- Laws of a commit and of silence: written at the slot's places they are what `committed` and `silenced` say, and silence keeps the
-- block's length; lengths of at most packet_bytes sum to at most p × b, which fits 32 bits. The places are the slot's by an equation, and
-- each law rewrites by it. Assumes nothing.
use mathlib.Core.Path.{◌≡◌, sym, ap, ◌∙◌}
use mathlib.Core.Bool.{false}
use mathlib.Core.List.{List}
use Prim.Native.Nat.{ℕ, ◌+◌, ◌-◌, ◌*◌, ◌^◌, ◌≤◌, ◌<◌}
use native.Mathlib.Omega.{arith}
use borrow.Rule.Slice.PartMut.{put_mid}
use lib.ListN.{length, drop, replicate, length-drop, length-replicate}
use lib.Seq.{length-take-le}
use Rattle.sys.specs.Bytes.{part, store}
use Rattle.sys.proofs.Store.{length-store, put_back}
use Rattle.layout.specs.declared.Places.{Places}
use Rattle.layout.specs.declared.Setup.{Setup}
use Rattle.layout.specs.Opening.{capacity_of}
use Rattle.layout.specs.Places.{Placed}
use Rattle.ledger.specs.Slot.{sum, shares, lengths_of, descriptors, headed, committed, silenced}
use Rattle.layout.specs.Layout.{any_above}
use Rattle.slot.proofs.PacketLengths.{sum-within, sum-shares}

-- the silence keeps the block's length
pub length-silenced : (s : Setup) (i : ℕ) (block : List ℕ) → length (silenced s i block) ≡ length block
unfolding silenced
length-silenced s i block = simp length-store

-- a part from a to a + k that is given back with every byte the same
silence-home : (a k byte : ℕ) (vs l : List ℕ) → a + k ≤ length l → vs ≡ replicate (length (part a (a + k - a) l)) byte
    → put_mid a (a + k - a) l vs ≡ store a (replicate k byte) l
silence-home a k byte vs l room e =
    let same : a + k - a ≡ k = omega arith in
    let inside : k ≤ length (drop a l) = simp length-drop (omega arith) in
    let long : length (part a k l) ≡ k = length-take-le k (drop a l) inside in
    let full : vs ≡ replicate k byte = e ∙ ap (λ (n : ℕ). replicate (length (part a n l)) byte) same ∙ ap (λ (n : ℕ). replicate n byte) long in
    ap (λ (n : ℕ). put_mid a n l vs) same
    ∙ ap (put_mid a k l) full
    ∙ put_back a k (replicate k byte) l (length-replicate k byte) room

module _ (s : Setup) (i : ℕ) (r : Places) (placed : Placed s i r) where
  pub capacity-is : r.capacity ≡ capacity_of s
  capacity-is = placed.capacity ∙ (λ k. placed.packets k * placed.fill k)

  -- one length a packet and none above b: the sum is at most p × b
  pub sum_fits : (lengths : List ℕ) → length lengths ≡ s.packets_per_urb
      → any_above s.packet_bytes lengths ≡ false → sum lengths ≤ s.packets_per_urb * s.packet_bytes
  sum_fits lengths e none = rw (← e) (sum-within s.packet_bytes lengths none)

  -- and so fits 32 bits
  pub sum_in_32 : (lengths : List ℕ) → length lengths ≡ s.packets_per_urb
      → any_above s.packet_bytes lengths ≡ false → sum lengths < 2 ^ 32
  sum_in_32 lengths e none = let most = sum_fits lengths e none in omega (arith, placed.small-payload)

  -- the header's four fields and then the descriptors
  pub commit-parts : (lengths block : List ℕ) (total : ℕ) → total ≡ sum lengths
      → store r.descs (descriptors lengths) (headed r.header total block) ≡ committed s i lengths block
  unfolding committed headed
  commit-parts lengths block total e =
      ap (λ (n : ℕ). store r.descs (descriptors lengths) (headed r.header n block)) e
      ∙ ap (λ (at : Places). store at.descs (descriptors lengths) (headed at.header (sum lengths) block)) placed.is

  -- with commit's shares
  pub shares_parts : (bytes : ℕ) (block : List ℕ) → bytes ≤ capacity_of s
      → store r.descs (descriptors (shares r.packets r.fill bytes)) (headed r.header bytes block)
      ≡ committed s i (lengths_of s bytes) block
  shares_parts bytes block h =
      rw (placed.packets, placed.fill)
      (commit-parts (lengths_of s bytes) block bytes (sym (sum-shares _ _ bytes h)))

  -- the payload, given back with every byte the silence byte
  pub silence-parts : (vs block : List ℕ) → r.payload + r.capacity ≤ length block
      → vs ≡ replicate (length (part r.payload (r.payload + r.capacity - r.payload) block)) s.silence_byte
      → put_mid r.payload (r.payload + r.capacity - r.payload) block vs ≡ silenced s i block
  unfolding silenced
  silence-parts vs block room e =
      silence-home r.payload r.capacity s.silence_byte vs block room e
      ∙ ap (λ (n : ℕ). store r.payload (replicate n s.silence_byte) block) capacity-is
      ∙ ap (λ (at : Places). store at.payload (replicate (capacity_of s) s.silence_byte) block) placed.is
