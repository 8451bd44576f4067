-- Laws of a packet's descriptor in a block: what was stored is read back.
-- The 12 bytes compute to the fields' own bytes, so each field is the law of `Fields` at its offset. Assumes nothing.
use Rattle.std.specs.Prelude.{Ok}
use mathlib.Core.Path.{◌≡◌, refl, ap}
use mathlib.Core.List.{List}
use Prim.Native.Nat.{ℕ, ◌+◌, ◌≤◌}
use native.Mathlib.Omega.{arith}
use borrow.Author.Tests.{le-leb}
use lib.ListN.{length}
use mir.Syntax.{w32}
use mir.Val.{Fits}
use Rattle.sys.specs.declared.descriptor.IsoPacketDesc.{IsoPacketDesc}
use Rattle.sys.specs.Bytes.{le, laid, part, field, store}
use Rattle.sys.specs.Descriptor.{length_at, desc_actual_length_at, desc_status_at, desc_size, desc_bytes, desc_at, desc_read}
use Rattle.sys.proofs.Store.{length-store}
use Rattle.sys.proofs.Fields.{field_in}

pub length-desc_bytes : (d : IsoPacketDesc) → length (desc_bytes d) ≡ desc_size
unfolding desc_bytes laid le
length-desc_bytes d = refl

-- each field fits its type
pub record DescFits (d : IsoPacketDesc) : Type 0 where
  pub length : Fits w32 d.length
  pub actual_length : Fits w32 d.actual_length
  pub status : Fits w32 d.status

-- a descriptor that was stored with room is read back
module _ (at : ℕ) (d : IsoPacketDesc) (l : List ℕ) (room : at + desc_size ≤ length l) where
  back : (i v : ℕ) → i + 4 ≤ desc_size → part i 4 (desc_bytes d) ≡ le 4 v → Fits w32 v → field (at + i) 4 (store at (desc_bytes d) l) ≡ v
  back i v h e f =
      let n : length (desc_bytes d) ≡ desc_size = length-desc_bytes d in
      field_in at i 4 v (desc_bytes d) l (omega arith) (omega arith) e f.fits

  pub desc-back : DescFits d → desc_at at (store at (desc_bytes d) l) ≡ d
  unfolding desc_at desc_bytes laid le
  desc-back fits = λ i. record {
    length = back length_at d.length (omega arith) refl fits.length i;
    actual_length = back desc_actual_length_at d.actual_length (omega arith) refl fits.actual_length i;
    status = back desc_status_at d.status (omega arith) refl fits.status i;
  }

  pub desc-read-back : DescFits d → desc_read at (store at (desc_bytes d) l) ≡ Ok d
  unfolding desc_read
  desc-read-back fits =
      let e : length (store at (desc_bytes d) l) ≡ length l = length-store at (desc_bytes d) l in
      rw (le-leb (at + desc_size) (length (store at (desc_bytes d) l)) (omega arith)) (ap Ok (desc-back fits))
