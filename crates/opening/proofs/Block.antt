-- Laws of the opened block: its length, one header more, that each header is read back, and that every byte outside the headers is zero.
-- Headers of different slots lie apart, so a later one leaves an earlier one as it was. Assumes nothing.
use Prim.Native.Nat.{ℕ, zero, suc, ◌+◌, ◌≤◌, ◌<◌}
use native.Mathlib.Numerals.{add-one}
use native.Mathlib.Omega.{arith}
use mathlib.Core.Path.{◌≡◌, refl, ap, ◌∙◌}
use mathlib.Core.Bool.{true}
use mathlib.Core.List.{List, ◌∷◌}
use mathlib.Core.Logic.{⊎_elim, inl}
use lib.ListN.{length, replicate, length-replicate}
use mir.Syntax.{w8}
use mir.Val.{Fits}
use Rattle.layout.specs.declared.Setup.{Setup}
use Rattle.layout.specs.Opening.{total_of, admissible}
use Rattle.layout.specs.Places.{places_of}
use Rattle.layout.specs.Layout.{largest}
use Rattle.layout.proofs.Admission.{admits}
use Rattle.layout.proofs.Slots.{placed, headers-ordered}
use Rattle.ring.proofs.Counts.{last-or-below}
use Rattle.sys.specs.Bytes.{part, store}
use Rattle.sys.specs.Header.{header_size, header_bytes, header_at}
use Rattle.sys.proofs.Store.{Apart, length-store, part-other}
use Rattle.sys.proofs.Headers.{HeaderFits, length-header_bytes, header-back, header-other}
use Rattle.opening.specs.Open.{opened_header, with_headers, opened_block}

pub length-headers : (s : Setup) (k : ℕ) (block : List ℕ) → length (with_headers s k block) ≡ length block
unfolding with_headers
length-headers s zero block = refl
length-headers s (suc k) block = length-store _ _ _ ∙ length-headers s k block

-- one header more
pub headers-next : (s : Setup) (i : ℕ) (block : List ℕ) → with_headers s (i + 1) block ≡ store (places_of s i).header (header_bytes (opened_header s i)) (with_headers s i block)
unfolding with_headers places_of
headers-next s i block = rw add-one

pub length-opened : (s : Setup) → length (opened_block s) ≡ total_of s
unfolding opened_block
length-opened s = length-headers s s.slots (replicate (total_of s) 0) ∙ length-replicate (total_of s) 0

-- each header is read back
module _ (s : Setup) (a : admissible s ≡ true) (endpoint : Fits w8 s.endpoint) (base : s.base ≤ largest) where
  header-fits : (i : ℕ) → i < s.slots → HeaderFits (opened_header s i)
  unfolding opened_header places_of
  header-fits i h =
      let p = placed s i (admits s a) base h in
      let few = (admits s a).limits.slots in
      record {
        typ = omega arith;
        endpoint = endpoint;
        status = record { sfits = omega arith };
        flags = omega arith;
        buffer = omega arith;
        buffer_length = record { sfits = omega arith };
        actual_length = record { sfits = omega arith };
        start_frame = record { sfits = omega arith };
        number_of_packets = record { sfits = omega arith };
        error_count = record { sfits = omega arith };
        signr = omega arith;
        usercontext = omega arith;
      }

  stored-header : (k : ℕ) (block : List ℕ) → length block ≡ total_of s → k ≤ s.slots → (i : ℕ) → i < k → header_at (places_of s i).header (with_headers s k block) ≡ opened_header s i
  unfolding with_headers places_of
  stored-header zero block e h i l = absurd (omega arith)
  stored-header (suc k) block e h i l =
      let room : length (with_headers s k block) ≡ total_of s = length-headers s k block ∙ e in
      let long : length (header_bytes (opened_header s k)) ≡ header_size = length-header_bytes (opened_header s k) in
      let p = placed s k (admits s a) base h in
      ⊎_elim
      (λ (same : i ≡ k). rw same (header-back (places_of s k).header (opened_header s k) (with_headers s k block) (omega arith) (header-fits k h)))
      (λ (below : i < k). header-other (places_of s i).header (places_of s k).header (header_bytes (opened_header s k)) (with_headers s k block)
      (inl (omega (arith, headers-ordered s i k below)))
      ∙ stored-header k block e (omega arith) i below)
      (last-or-below i k l)

  pub opened-header : (i : ℕ) → i < s.slots → header_at (places_of s i).header (opened_block s) ≡ opened_header s i
  unfolding opened_block
  opened-header = stored-header s.slots (replicate (total_of s) 0) (length-replicate (total_of s) 0) (omega arith)

-- what lies apart from every header is as it was
headers-leave : (s : Setup) (at n k : ℕ) (block : List ℕ) → ((i : ℕ) → i < k → Apart at n (places_of s i).header header_size) → part at n (with_headers s k block) ≡ part at n block
unfolding with_headers places_of
headers-leave s at n zero block apart = refl
headers-leave s at n (suc k) block apart =
    part-other at n _ (header_bytes (opened_header s k)) (with_headers s k block) (rw (length-header_bytes (opened_header s k)) (apart k (omega arith)))
    ∙ headers-leave s at n k block (λ i h. apart i (omega arith))

part-zeros : (at n m : ℕ) → at + n ≤ m → part at n (replicate m 0) ≡ replicate n 0
part-zeros zero zero m h = refl
part-zeros zero (suc n) zero h = absurd (omega arith)
part-zeros zero (suc n) (suc m) h = ap (λ (l : List ℕ). 0 ∷ l) (part-zeros zero n m (omega arith))
part-zeros (suc at) n zero h = absurd (omega arith)
part-zeros (suc at) n (suc m) h = part-zeros at n m (omega arith)

-- every byte outside the headers is zero
pub opened-zero : (s : Setup) (at n : ℕ) → at + n ≤ total_of s → ((i : ℕ) → i < s.slots → Apart at n (places_of s i).header header_size) → part at n (opened_block s) ≡ replicate n 0
unfolding opened_block
opened-zero s at n h apart =
    headers-leave s at n s.slots (replicate (total_of s) 0) apart ∙ part-zeros at n (total_of s) h
