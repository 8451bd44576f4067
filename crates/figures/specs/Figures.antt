-- What C is told beside the calls: layout, image size, schedules. Nothing is written where they refuse.
use Rattle.layout.specs.declared.RingLayout.{RingLayout}
use Rattle.error.specs.declared.Error.{Error}
use Rattle.schedule.specs.declared.Schedule.{Schedule}
use Rattle.std.specs.Prelude.{ℕ, cond, ◌||◌, List, [], ◌∷◌, ◌≡◌, ltb, eqb, ℤ, Result, Ok, Err, Some}
use Rattle.error.specs.Number.{number_of}
use Rattle.layout.specs.Layout.{laid_out}
use Rattle.schedule.specs.declared.Depth.{Depth}
use Rattle.schedule.specs.declared.descriptor.Endpoint.{Endpoint}
use Rattle.schedule.specs.Speed.{from_raw}
use Rattle.schedule.specs.Derive.{derived, planned}
use Rattle.encoding.specs.Words.{written}
use Rattle.image.specs.Reading.{image_size}

-- The returned number and the slice for the numbers.
pub record Figures : Type 0 where
  pub returned : ℕ
  pub out : List ℕ

pub record Figured (f : Figures) (r : ℕ) (numbers : List ℕ) : Type 0 where
  pub returned : r ≡ f.returned
  pub out : numbers ≡ f.out

-- A refusal's number, and nothing is written; else 0, and the numbers.
abbrev pub told : Result (List ℕ) Error → List ℕ → Figures
told (Err e) out = record { returned = number_of e; out = out }
told (Ok numbers) out = record { returned = 0; out = written numbers out }

-- The layout's six numbers: header stride, data base, data stride, total, alignment, capacity.
abbrev pub layout_numbers : RingLayout → List ℕ
layout_numbers l = l.slot_stride ∷ l.data_base ∷ l.data_stride ∷ l.total_bytes ∷ l.align ∷ l.slot_capacity ∷ []

unfoldable pub layout_figures : Result RingLayout Error → List ℕ → Figures
layout_figures (Err e) out = told (Err e) out
layout_figures (Ok l) out = told (Ok (layout_numbers l)) out

unfoldable pub layout_from_c : ℕ → ℕ → ℕ → ℕ → List ℕ → Figures
layout_from_c n p b f out = layout_figures (laid_out n p b f) out

-- The bytes of an image of n slots; 0 where no ring has so many.
unfoldable pub size_from_c : ℕ → ℕ
size_from_c n = cond (ltb n 2 || ltb 256 n) 0 (image_size n)

-- A schedule's four numbers: packet interval in µs, packets a URB, URBs, packet bytes.
abbrev pub schedule_numbers : Schedule → List ℕ
schedule_numbers s = s.packet_interval_us ∷ s.packets_per_urb ∷ s.urbs ∷ s.packet_bytes ∷ []

unfoldable pub schedule_figures : Result Schedule Error → List ℕ → Figures
schedule_figures (Err e) out = told (Err e) out
schedule_figures (Ok s) out = told (Ok (schedule_numbers s)) out

-- The depth: a count of URBs or, where that is 0, microseconds.
unfoldable pub depth_from : ℕ → ℕ → Depth
depth_from urbs us = cond (eqb urbs 0) (Depth.Micros us) (Depth.Urbs urbs)

unfoldable pub derive_from_c : ℤ → ℕ → ℕ → ℕ → ℕ → ℕ → List ℕ → Figures
derive_from_c speed b_interval bytes urbs us packets out =
    schedule_figures (derived (from_raw speed) b_interval bytes (depth_from urbs us) (Some packets)) out

-- plan looks at an endpoint's attributes, wMaxPacketSize and bInterval, not at its address.
unfoldable pub plan_from_c : ℤ → ℕ → ℕ → ℕ → ℕ → ℕ → ℕ → List ℕ → Figures
plan_from_c speed attributes size b_interval urbs us packets out =
    let endpoint : Endpoint = record { address = 0; attributes = attributes; max_packet_size = size; interval = b_interval } in
    schedule_figures (planned (from_raw speed) endpoint (depth_from urbs us) (Some packets)) out
