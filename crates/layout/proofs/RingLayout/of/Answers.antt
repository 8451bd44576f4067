-- No step is above the total, which fits, and each value is its definition.
use Rattle.std.proofs.Common.{◌≡◌, ℕ, ◌*◌, ap, ◌∙◌, arith}
use Rattle.layout.specs.Layout.{raised, slot_stride, data_base, total, layout_of}
use Rattle.layout.proofs.Strides.{steps}
use Rattle.layout.proofs.Frames.{capacity-below}
use Rattle.layout.proofs.RingLayout.of.Goals as goal

based : (n p stride base : ℕ) → stride ≡ slot_stride p → base ≡ raised 64 (n * stride) → base ≡ data_base n p
unfolding data_base
based n p stride base e h = h ∙ ap (λ (s : ℕ). raised 64 (n * s)) e

pub overflow_mul-slots : goal.overflow_mul-slots
overflow_mul-slots c =
    rw c.header_stride-slot_stride.ensures (omega (arith, steps c.args.slots c.args.packets_per_urb c.args.packet_bytes (omega arith)))

pub align_up-data_base-requires : goal.align_up-data_base-requires
align_up-data_base-requires c =
    rw c.header_stride-slot_stride.ensures (omega (arith, steps c.args.slots c.args.packets_per_urb c.args.packet_bytes (omega arith)))

pub payload_stride-data_stride-requires : goal.payload_stride-data_stride-requires
payload_stride-data_stride-requires c = omega (arith, steps c.args.slots c.args.packets_per_urb c.args.packet_bytes (omega arith))

pub overflow_mul-result : goal.overflow_mul-result
overflow_mul-result c =
    rw c.payload_stride-data_stride.ensures (omega (arith, steps c.args.slots c.args.packets_per_urb c.args.packet_bytes (omega arith)))

pub overflow_add-result : goal.overflow_add-result
overflow_add-result c =
    rw (based c.args.slots c.args.packets_per_urb _ _ c.header_stride-slot_stride.ensures c.align_up-data_base.ensures, c.payload_stride-data_stride.ensures)
    (omega (arith, steps c.args.slots c.args.packets_per_urb c.args.packet_bytes (omega arith)))

pub overflow_mul-result-2 : goal.overflow_mul-result-2
overflow_mul-result-2 c =
    rw c.whole_frames-fill.ensures
    (omega (
      arith,
      steps c.args.slots c.args.packets_per_urb c.args.packet_bytes (omega arith),
      capacity-below c.args.packets_per_urb c.args.packet_bytes c.args.frame_bytes,
    ))

pub returns : goal.returns
unfolding layout_of total
returns c =
    rw (
      based c.args.slots c.args.packets_per_urb _ _ c.header_stride-slot_stride.ensures c.align_up-data_base.ensures,
      c.payload_stride-data_stride.ensures,
      c.header_stride-slot_stride.ensures,
      c.whole_frames-fill.ensures,
    )
