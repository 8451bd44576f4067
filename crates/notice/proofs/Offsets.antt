-- The slot that an offset names, by the tests in the paper's order, over a stride that is the layout's.
-- Each law goes by the tests' values. Assumes nothing.
use Rattle.std.specs.Prelude.{Some, None}
use mathlib.Core.Path.{◌≡◌, refl, sym, ap, ◌∙◌}
use mathlib.Core.Bool.{Bool, true, false, cond}
use mathlib.Core.List.{List}
use Prim.Native.Nat.{ℕ, ◌+◌, ◌*◌, ◌/◌, ◌%◌, ◌≤◌, ◌<◌}
use native.Mathlib.Nat.{add-mul, mul-le-mul_right, div-lt_iff_lt-mul}
use native.Mathlib.Omega.{arith}
use borrow.Author.Tests.{le-leb, lt-leb, eq-eqb, ne_eqb}
use Rattle.sys.specs.Header.{header_at, header_size}
use Rattle.layout.specs.declared.Setup.{Setup}
use Rattle.layout.specs.Opening.{admissible, layout_for, total_of}
use Rattle.layout.specs.Places.{places_of}
use Rattle.layout.proofs.Admission.{admits}
use Rattle.layout.proofs.Limits.{bounds}
use Rattle.ledger.specs.Notice.{cookie_of, slot_at}
use Rattle.urb_view.specs.declared.UrbFields.{UrbFields}
use Rattle.urb_view.specs.Viewed.{fields_of}
use Rattle.layout.specs.declared.RingLayout.{RingLayout}
use Rattle.std.specs.Bool.{then_some}
use lib.Dec.{eqb}

-- What a slot's stride keeps to in an admissible setup.
pub record Strided (s : Setup) (stride : ℕ) : Type 0 where
  pub holds : header_size ≤ stride
  pub headers : s.slots * stride ≤ total_of s
  pub small : total_of s ≤ 1611020288

-- a test's slot, or none
then-is : (b : Bool) (i : ℕ) → then_some b i ≡ cond b (Some i) None
then-is true i = refl
then-is false i = refl

-- The slot that an offset below n × stride gives is one of the n, so its header ends within them.
header-within : (n offset stride : ℕ) → 0 < stride → offset < n * stride → offset / stride * stride + stride ≤ n * stride
header-within n offset stride some h =
    let below : offset / stride < n = (div-lt_iff_lt-mul some).1 h in
    let next : offset / stride + 1 ≤ n = omega arith in
    omega (arith, mul-le-mul_right stride next, add-mul (offset / stride) 1 stride)

module _ (s : Setup) (l : RingLayout) (e : l ≡ layout_for s) where
  stride-is : (layout_for s).slot_stride ≡ l.slot_stride
  stride-is = sym (ap (λ (x : RingLayout). x.slot_stride) e)

  pub strided : admissible s ≡ true → Strided s l.slot_stride
  strided h =
      let b = bounds s (admits s h).limits in
      rw (← stride-is) (record { holds = omega arith; headers = omega arith; small = omega arith })

  module _ (offset : ℕ) where
    -- the header that the offset names ends within the block
    pub room : admissible s ≡ true → offset < s.slots * l.slot_stride → offset / l.slot_stride * l.slot_stride + header_size ≤ total_of s
    room ok h =
        let known = strided ok in
        omega (arith, header-within s.slots offset l.slot_stride (omega arith) h)

    module _ (block : List ℕ) where
      -- at or past n × stride
      pub past : s.slots * l.slot_stride ≤ offset → None ≡ slot_at s offset block
      unfolding slot_at
      past h = rw (stride-is, le-leb (s.slots * l.slot_stride) offset h)

      module _ (h : offset < s.slots * l.slot_stride) where
        -- not a multiple of the stride
        pub between : (offset % l.slot_stride ≡ 0 → ⊥) → None ≡ slot_at s offset block
        unfolding slot_at
        between k = rw (stride-is, lt-leb (s.slots * l.slot_stride) offset h, ne_eqb (offset % l.slot_stride) 0 k)

        module _ (u : UrbFields) (read : u ≡ fields_of (header_at (offset / l.slot_stride * l.slot_stride) block)) where
          same : cookie_of s (offset / l.slot_stride) block ≡ u.usercontext
          unfolding cookie_of places_of fields_of
          same =
              ap (λ (n : ℕ). (header_at (offset / l.slot_stride * n) block).usercontext) stride-is
              ∙ sym (ap (λ (f : UrbFields). f.usercontext) read)

          -- the slot, where its cookie is that index
          pub named : offset % l.slot_stride ≡ 0
              → then_some (eqb u.usercontext (offset / l.slot_stride)) (offset / l.slot_stride) ≡ slot_at s offset block
          unfolding slot_at
          named k = rw (stride-is, lt-leb (s.slots * l.slot_stride) offset h, eq-eqb (offset % l.slot_stride) 0 k, same) (then-is _ _)
