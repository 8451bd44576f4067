-- `opening::header_of` meets its contract: the payload's place added to the base is the buffer's address, and capacity and packet count
-- are below 2^31, so that as signed numbers they are themselves. Assumes nothing.
use Prim.Native.Nat.{ℕ, ◌+◌, ◌*◌}
use mathlib.Core.Path.{◌≡◌, sym, ◌∙◌}
use native.Mathlib.Nat.{add_assoc}
use native.Mathlib.Omega.{arith}
use mir.Syntax.{w32}
use mir.Val.{to_z}
use mir.ValLaws.{to_z_pos}
use lib.IntN.{pos}
use Rattle.layout.specs.declared.Places.{Places}
use Rattle.layout.specs.declared.Setup.{Setup}
use Rattle.layout.specs.Opening.{layout_for}
use Rattle.layout.specs.Places.{Placed, places_of}
use Rattle.sys.specs.Header.{slot_header}
use Rattle.opening.specs.Open.{opened_header}
use Rattle.opening.proofs.header_of.Goals as goal

-- the header made from a slot's places
made : (s : Setup) (i : ℕ) (r : Places) → Placed s i r → slot_header s.endpoint (s.base + r.payload) (to_z w32 r.capacity) (to_z w32 r.packets) i ≡ opened_header s i
unfolding opened_header places_of
made s i r p =
    let bytes = to_z_pos w32 r.capacity (omega arith) in
    let packets = to_z_pos w32 r.packets (omega arith) in
    let place = sym (add_assoc s.base (layout_for s).data_base (i * (layout_for s).data_stride)) in
    (λ k. slot_header s.endpoint (s.base + r.payload) (bytes k) (packets k) i)
    ∙ (λ k. slot_header s.endpoint (s.base + (p.is k).payload) (pos (p.is k).capacity) (pos (p.is k).packets) i)
    ∙ (λ k. slot_header s.endpoint (place k) (pos (layout_for s).slot_capacity) (pos (layout_for s).packets_per_urb) i)

pub returns : goal.returns
returns c = c.new.ensures ∙ made _ _ _ c.places-places.ensures
