-- The paper's section Layout, over unbounded numbers: n slots, p packets per URB, b bytes per packet, and (request 2026-04) frames of f
-- bytes.
use Rattle.std.specs.Prelude.{ℕ, ◌+◌, ◌-◌, ◌*◌, ◌/◌, ◌^◌, ◌≤◌, ◌<◌, Bool, false, ◌||◌, List, [], ◌∷◌, ◌++◌, ltb, eqb, Result, Ok, Err}
use Rattle.std.proofs.Math.Option.{Option, none, some}
use Rattle.error.specs.declared.Error.{Error}
use Rattle.error.specs.declared.Error.TheVariants.{TooFewSlots, ZeroSize, TooManyPackets, LayoutOverflow, FrameSize}
use Rattle.layout.specs.declared.RingLayout.{RingLayout}
use Rattle.layout.specs.Tests.{Test, first}

-- The largest usize.
abbrev pub largest : ℕ
largest = 2 ^ 64 - 1

-- v raised to a multiple of a.
unfoldable pub raised : ℕ → ℕ → ℕ
raised a v = (v + (a - 1)) / a * a

-- Header stride: 56 + 12p raised to a multiple of 8.
unfoldable pub slot_stride : ℕ → ℕ
slot_stride p = raised 8 (56 + 12 * p)

-- Data base: n × stride raised to 64.
unfoldable pub data_base : ℕ → ℕ → ℕ
data_base n p = raised 64 (n * slot_stride p)

-- Data stride: p × b raised to 64.
unfoldable pub data_stride : ℕ → ℕ → ℕ
data_stride p b = raised 64 (p * b)

-- Total: data base + n × data stride.
unfoldable pub total : ℕ → ℕ → ℕ → ℕ
total n p b = data_base n p + n * data_stride p b

-- What commit fills a packet up to: the largest multiple of f not above b.
unfoldable pub whole_frames : ℕ → ℕ → ℕ
whole_frames b f = b / f * f

-- Capacity: p times that.
abbrev pub capacity : ℕ → ℕ → ℕ → ℕ
capacity p b f = p * whole_frames b f

-- The layout; alignment 64.
unfoldable pub layout_of : ℕ → ℕ → ℕ → ℕ → RingLayout
layout_of n p b f =
    record {
      slots = n;
      slot_stride = slot_stride p;
      data_base = data_base n p;
      data_stride = data_stride p b;
      packet_bytes = b;
      packets_per_urb = p;
      total_bytes = total n p b;
      align = 64;
      slot_capacity = capacity p b f;
    }

-- Refusals 1, 2 and 3: n below 2; p or b zero; p above 128.
unfoldable pub sizes : ℕ → ℕ → ℕ → List Test
sizes n p b =
    (ltb n 2, TooFewSlots)
    ∷ (eqb p 0 || eqb b 0, ZeroSize)
    ∷ (ltb 128 p, TooManyPackets)
    ∷ []

-- One of the numbers is above `most`.
unfoldable pub any_above : ℕ → List ℕ → Bool
any_above most [] = false
any_above most (v ∷ vs) = ltb most v || any_above most vs

-- Refusal 4's test: any product, sum or raising above 2^64 - 1.
unfoldable pub overflowing : ℕ → ℕ → ℕ → Bool
overflowing n p b =
    any_above largest
    ((12 * p)
    ∷ (56 + 12 * p)
    ∷ slot_stride p
    ∷ (n * slot_stride p)
    ∷ data_base n p
    ∷ (p * b)
    ∷ data_stride p b
    ∷ (n * data_stride p b)
    ∷ total n p b
    ∷ [])

-- Refusal 33's test: f zero or above b.
unfoldable pub bad_frame : ℕ → ℕ → Bool
bad_frame b f = eqb f 0 || ltb b f

-- The layout, or its refusal.
unfoldable pub laid : Option Error → RingLayout → Result RingLayout Error
laid none l = Ok l
laid (some e) l = Err e

-- What RingLayout::new answers: refused in the order 1, 2, 3, 4, 33.
unfoldable pub laid_out : ℕ → ℕ → ℕ → ℕ → Result RingLayout Error
laid_out n p b f =
    laid (first (sizes n p b ++ (overflowing n p b, LayoutOverflow) ∷ (bad_frame b f, FrameSize) ∷ [])) (layout_of n p b f)

-- What refusals 1, 2 and 3 leave.
pub record Sized (n p b : ℕ) : Type 0 where
  pub slots : 2 ≤ n
  pub packets : 0 < p
  pub bytes : 0 < b
  pub few : p ≤ 128
