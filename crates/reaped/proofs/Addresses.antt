-- The slot that an address names is one of the ring's: its offset is below n × stride, and the stride is not 0.
-- By the tests of the definition. Assumes nothing.
use Rattle.std.specs.Prelude.{Some}
use Rattle.std.proofs.Common.{◌≡◌, ℕ, ◌-◌, ◌*◌, ◌/◌, ◌%◌, ◌<◌, true, not, eqb, ltb, leb, List, refl, div-lt_iff_lt-mul, arith, leb-false}
use Rattle.layout.specs.declared.Setup.{Setup}
use Rattle.layout.specs.Opening.{admissible, layout_for, masked_of}
use Rattle.ledger.specs.Notice.{cookie_of, slot_at, slot_of_urb}
use Rattle.ledger.proofs.Found.{found-past, found_at}
use Rattle.notice.proofs.Offsets.{strided}

offset-below : (s : Setup) → admissible s ≡ true → (offset : ℕ) (block : List ℕ) (i : ℕ) → slot_at s offset block ≡ Some i → i < s.slots
unfolding slot_at
offset-below s ok offset block i e =
    let stride = (layout_for s).slot_stride in
    let within = found-past (leb (s.slots * stride) offset) _ i e in
    let whole = found-past (not (eqb (offset % stride) 0)) _ i within.1 in
    let named = found_at (eqb (cookie_of s (offset / stride) block) (offset / stride)) (offset / stride) i whole.1 in
    let some : 0 < stride = omega (arith, (strided s (layout_for s) refl ok).holds) in
    rw (← named) ((div-lt_iff_lt-mul some).1 (leb-false (s.slots * stride) offset within.0))

pub named-below : (s : Setup) → admissible s ≡ true → (address : ℕ) (block : List ℕ) (i : ℕ) → slot_of_urb s address block ≡ Some i → i < s.slots
unfolding slot_of_urb
named-below s ok address block i e =
    let base = masked_of s.tagged s.base in
    let at = masked_of s.tagged address in
    offset-below s ok (at - base) block i (found-past (ltb at base) _ i e).1
