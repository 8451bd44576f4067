-- Laws of the header in a block: what was stored is read back, a store apart from it leaves it, and its offsets are the running sums of its widths.
-- The 56 bytes compute to the fields' own bytes, so each field is the law of `Fields` at its offset. Assumes nothing.
use Rattle.std.specs.Prelude.{Ok}
use mathlib.Core.Path.{◌≡◌, refl, ap, ◌∙◌}
use mathlib.Core.List.{List, [], ◌∷◌}
use Prim.Native.Nat.{ℕ, ◌+◌, ◌^◌, ◌≤◌, ◌<◌}
use native.Mathlib.Omega.{arith}
use borrow.Author.Tests.{le-leb}
use lib.IntN.{ℤ}
use lib.ListN.{length}
use mir.Syntax.{w8, w32, w64}
use mir.Val.{Fits, SFits}
use Rattle.sys.specs.declared.header.Urb.{Urb}
use Rattle.sys.specs.Bytes.{le, laid, part, field, store}
use Rattle.sys.specs.Signed.{signed, unsigned}
use Rattle.sys.specs.Header.{type_at, endpoint_at, status_at, flags_at, buffer_at, buffer_length_at, actual_length_at, start_frame_at, packet_count_at, error_count_at, signal_at, cookie_at, header_size, header_widths, header_bytes, header_at, header_read}
use Rattle.sys.proofs.Store.{Apart, length-store}
use Rattle.sys.proofs.Fields.{field_in, field_apart}
use Rattle.sys.proofs.Signs.{signed-unsigned, unsigned-below}

-- where each of these widths starts, and where the last one ends
abbrev pub starts : ℕ → List ℕ → List ℕ
starts at [] = at ∷ []
starts at (w ∷ widths) = at ∷ starts (at + w) widths

-- the offsets and the size are those of the widths, with padding at 2 and at 12
pub header-offsets :
    starts 0 header_widths
    ≡ type_at ∷ endpoint_at ∷ 2 ∷ status_at ∷ flags_at ∷ 12 ∷ buffer_at ∷ buffer_length_at ∷ actual_length_at ∷ start_frame_at ∷ packet_count_at ∷ error_count_at ∷ signal_at ∷ cookie_at ∷ header_size ∷ []
header-offsets = refl

pub length-header_bytes : (u : Urb) → length (header_bytes u) ≡ header_size
unfolding header_bytes laid le
length-header_bytes u = refl

-- each field fits its type
pub record HeaderFits (u : Urb) : Type 0 where
  pub typ : Fits w8 u.typ
  pub endpoint : Fits w8 u.endpoint
  pub status : SFits w32 u.status
  pub flags : Fits w32 u.flags
  pub buffer : Fits w64 u.buffer
  pub buffer_length : SFits w32 u.buffer_length
  pub actual_length : SFits w32 u.actual_length
  pub start_frame : SFits w32 u.start_frame
  pub number_of_packets : SFits w32 u.number_of_packets
  pub error_count : SFits w32 u.error_count
  pub signr : Fits w32 u.signr
  pub usercontext : Fits w64 u.usercontext

-- a header that was stored with room is read back
module _ (at : ℕ) (u : Urb) (l : List ℕ) (room : at + header_size ≤ length l) where
  back : (i k v : ℕ) → i + k ≤ header_size → part i k (header_bytes u) ≡ le k v → v < 256 ^ k → field (at + i) k (store at (header_bytes u) l) ≡ v
  back i k v h e below =
      let n : length (header_bytes u) ≡ header_size = length-header_bytes u in
      field_in at i k v (header_bytes u) l (omega arith) (omega arith) e below

  signed_back : (i : ℕ) (z : ℤ) → i + 4 ≤ header_size → part i 4 (header_bytes u) ≡ le 4 (unsigned z) → SFits w32 z → signed (field (at + i) 4 (store at (header_bytes u) l)) ≡ z
  signed_back i z h e f = ap signed (back i 4 (unsigned z) h e (unsigned-below z f)) ∙ signed-unsigned z f

  pub header-back : HeaderFits u → header_at at (store at (header_bytes u) l) ≡ u
  unfolding header_at header_bytes laid le
  header-back fits = λ i. record {
    typ = back type_at 1 u.typ (omega arith) refl fits.typ.fits i;
    endpoint = back endpoint_at 1 u.endpoint (omega arith) refl fits.endpoint.fits i;
    status = signed_back status_at u.status (omega arith) refl fits.status i;
    flags = back flags_at 4 u.flags (omega arith) refl fits.flags.fits i;
    buffer = back buffer_at 8 u.buffer (omega arith) refl fits.buffer.fits i;
    buffer_length = signed_back buffer_length_at u.buffer_length (omega arith) refl fits.buffer_length i;
    actual_length = signed_back actual_length_at u.actual_length (omega arith) refl fits.actual_length i;
    start_frame = signed_back start_frame_at u.start_frame (omega arith) refl fits.start_frame i;
    number_of_packets = signed_back packet_count_at u.number_of_packets (omega arith) refl fits.number_of_packets i;
    error_count = signed_back error_count_at u.error_count (omega arith) refl fits.error_count i;
    signr = back signal_at 4 u.signr (omega arith) refl fits.signr.fits i;
    usercontext = back cookie_at 8 u.usercontext (omega arith) refl fits.usercontext.fits i;
  }

  pub header-read-back : HeaderFits u → header_read at (store at (header_bytes u) l) ≡ Ok u
  unfolding header_read
  header-read-back fits =
      let e : length (store at (header_bytes u) l) ≡ length l = length-store at (header_bytes u) l in
      rw (le-leb (at + header_size) (length (store at (header_bytes u) l)) (omega arith)) (ap Ok (header-back fits))

-- a store apart from a header leaves it
pub header-other : (at bt : ℕ) (vs l : List ℕ) → Apart at header_size bt (length vs) → header_at at (store bt vs l) ≡ header_at at l
unfolding header_at
header-other at bt vs l apart =
    let same : (i k : ℕ) → i + k ≤ header_size → field (at + i) k (store bt vs l) ≡ field (at + i) k l = λ i k h. field_apart at header_size i k bt vs l h apart in
    λ i. record {
      typ = (same type_at 1 (omega arith)) i;
      endpoint = (same endpoint_at 1 (omega arith)) i;
      status = ap signed (same status_at 4 (omega arith)) i;
      flags = (same flags_at 4 (omega arith)) i;
      buffer = (same buffer_at 8 (omega arith)) i;
      buffer_length = ap signed (same buffer_length_at 4 (omega arith)) i;
      actual_length = ap signed (same actual_length_at 4 (omega arith)) i;
      start_frame = ap signed (same start_frame_at 4 (omega arith)) i;
      number_of_packets = ap signed (same packet_count_at 4 (omega arith)) i;
      error_count = ap signed (same error_count_at 4 (omega arith)) i;
      signr = (same signal_at 4 (omega arith)) i;
      usercontext = (same cookie_at 8 (omega arith)) i;
    }
