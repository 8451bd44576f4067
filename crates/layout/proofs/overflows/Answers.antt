-- Each test asks whether what n slots need is above the room, by a quotient where a product could wrap, and above the room the total is
-- above the largest usize.
use Rattle.std.proofs.Common.{◌≡◌, ℕ, ◌+◌, ◌/◌, ◌<◌, Bool, true, false, ltb, sym, ◌∙◌, refl, arith, ltb-true, ltb-false, lt-ltb, le-ltb}
use native.Mathlib.Nat.{div-lt_iff_lt-mul, le-div_iff_mul-le, le-mul_of_pos_right, mul_comm}
use Rattle.layout.specs.Layout.{largest, slot_stride, data_stride, total, overflowing, Sized}
use Rattle.layout.proofs.Strides.{stride, whole, room, steps, total-over, total-within, overflowing-total}
use Rattle.layout.proofs.overflows.Goals as goal

-- What n slots need is above the room: 4.
over : (n p b : ℕ) → Sized n p b → room < whole n p b → true ≡ overflowing n p b
over n p b s h = sym (overflowing-total n p b s ∙ lt-ltb _ _ (total-over n p b (omega arith) h))

-- One payload alone is above the room.
payload-over : (n p b : ℕ) → Sized n p b → room / p < b → true ≡ overflowing n p b
payload-over n p b s h =
    over n p b s
    (omega (arith, (div-lt_iff_lt-mul s.packets).0 h, mul_comm p b, steps n p b (omega arith)))

-- One slot alone is above the room.
slot-over : (n p b : ℕ) → Sized n p b → room < slot_stride p + data_stride p b → true ≡ overflowing n p b
slot-over n p b s h =
    let one = slot_stride p + data_stride p b in
    over n p b s (omega (arith, mul_comm one n, le-mul_of_pos_right {m = n} one (omega arith)))

-- The last test decides: more slots than the room holds.
decided : (n p b one : ℕ) (t : Bool) → Sized n p b → one ≡ slot_stride p + data_stride p b → 0 < one → ltb (room / one) n ≡ t → ltb (room / one) n ≡ overflowing n p b
decided n p b one true s e h q =
    q ∙ over n p b s (rw (sym e) (omega (arith, (div-lt_iff_lt-mul h).0 (ltb-true (room / one) n q))))
decided n p b one false s e h q =
    q
    ∙ sym
    (overflowing-total n p b s
    ∙ le-ltb largest (total n p b) (omega (arith, total-within n p b (rw (sym e) ((le-div_iff_mul-le h).0 (ltb-false (room / one) n q))))))

pub returns-then-packet_bytes-most_bytes : goal.returns-then-packet_bytes-most_bytes
returns-then-packet_bytes-most_bytes c =
    payload-over c.args.slots c.args.packets_per_urb c.args.packet_bytes c.requires (omega arith)

pub overflow_sub-room-3 : goal.overflow_sub-room-3
overflow_sub-room-3 c = omega (arith, stride c.args.packets_per_urb)

pub returns-then-payload-room : goal.returns-then-payload-room
returns-then-payload-room c = slot-over c.args.slots c.args.packets_per_urb c.args.packet_bytes c.requires (omega arith)

pub nonzero_div-most_slots : goal.nonzero_div-most_slots
nonzero_div-most_slots c = omega (arith, stride c.args.packets_per_urb)

pub returns : goal.returns
returns c =
    decided c.args.slots c.args.packets_per_urb c.args.packet_bytes _ _ c.requires (omega arith)
    (omega (arith, stride c.args.packets_per_urb)) refl
