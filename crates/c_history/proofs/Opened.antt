-- What opening from C leaves where it returns 0: admissible values, and the image of the opened ledger at the front of the buffer. Assumes nothing.
use Rattle.std.specs.Prelude.{Result, Ok, Err}
use Rattle.layout.specs.declared.RingLayout.{RingLayout}
use Rattle.error.specs.declared.Error.{Error}
use Prim.Native.Nat.{ℕ, ◌+◌, ◌^◌, ◌≤◌, ◌<◌}
use native.Mathlib.Omega.{arith}
use mathlib.Core.Path.{◌≡◌, refl, ap, ◌∙◌}
use mathlib.Core.Bool.{Bool, true, false, cond}
use mathlib.Core.List.{List}
use lib.Dec.{ltb}
use lib.ListN.{length, take, drop, get_or}
use lib.Seq.{take_at}
use borrow.Author.Tests.{ltb-false}
use Rattle.error.proofs.Numbers.{never-0}
use Rattle.sys.specs.Bytes.{store}
use Rattle.sys.proofs.Store.{store-eq}
use Rattle.layout.specs.declared.Setup.{Setup}
use Rattle.layout.specs.Numbers.{setup_from}
use Rattle.layout.specs.Opening.{admissible}
use Rattle.stream.specs.Numbers.{numbers_of}
use Rattle.opening.specs.Refusals.{opens}
use Rattle.opening.proofs.Refusals.{opened-layout}
use Rattle.ledger.specs.Ledger.{opened_ledger}
use Rattle.image.specs.Image.{ledger_image}
use Rattle.image.specs.Reading.{image_size}
use Rattle.image.proofs.Sizes.{ledger-image-long}
use Rattle.from_c.specs.Told.{FromC, told}
use Rattle.from_c.specs.FromC.{not_an_image}
use Rattle.c_open.specs.Open.{names_none, opened_from_c, open_from_c}

-- What opening leaves where it returns 0.
record Opens (s : Setup) (buffer : List ℕ) (f : FromC) : Type 0 where
  ok : admissible s ≡ true
  room : image_size s.slots ≤ length buffer
  image : f.image ≡ store 0 (ledger_image s (opened_ledger s.slots)) buffer

-- 31 is not 0
not-31 : (bytes lent out : List ℕ) → (not_an_image bytes lent out).returned ≡ 0 → ⊥
unfolding not_an_image told numbers_of
not-31 bytes lent out e = omega arith

by-room : (s : Setup) (block buffer out : List ℕ) → admissible s ≡ true → (short : Bool) → ltb (length buffer) (image_size s.slots) ≡ short
    → (done : FromC) → done.image ≡ store 0 (ledger_image s (opened_ledger s.slots)) buffer
    → (cond short (not_an_image buffer block out) done).returned ≡ 0 → Opens s buffer (cond short (not_an_image buffer block out) done)
by-room s block buffer out ok true e done is z = absurd (not-31 buffer block out z)
by-room s block buffer out ok false e done is z = record { ok = ok; room = ltb-false (length buffer) (image_size s.slots) e; image = is }

by_layout : (s : Setup) (block buffer out : List ℕ) (o : Result RingLayout Error) → opens s (length block) ≡ o → (opened_from_c o s block buffer out).returned ≡ 0 → Opens s buffer (opened_from_c o s block buffer out)
unfolding opened_from_c told numbers_of
by_layout s block buffer out (Err e) is z = absurd (never-0 e z)
by_layout s block buffer out (Ok layout) is z =
    by-room s block buffer out (opened-layout s (length block) layout is).admissible _ refl _ refl z

opened-image : (numbers block buffer out : List ℕ) → (open_from_c numbers block buffer out).returned ≡ 0 → Opens (setup_from numbers) buffer (open_from_c numbers block buffer out)
unfolding open_from_c
opened-image numbers block buffer out = by (names_none numbers)
  where
    s : Setup
    s = setup_from numbers

    rest : FromC
    rest = opened_from_c (opens s (length block)) s block buffer out

    by : (none : Bool) → (cond none (not_an_image buffer block out) rest).returned ≡ 0 → Opens s buffer (cond none (not_an_image buffer block out) rest)
    by true z = absurd (not-31 buffer block out z)
    by false z = by_layout s block buffer out (opens s (length block)) refl z

-- the first image is the opened ledger's
first-image : (s : Setup) (buffer : List ℕ) (f : FromC) → Opens s buffer f → take (image_size s.slots) f.image ≡ ledger_image s (opened_ledger s.slots)
first-image s buffer f o =
    let image = ledger_image s (opened_ledger s.slots) in
    let long = ledger-image-long s (opened_ledger s.slots) in
    ap (take (image_size s.slots)) (o.image ∙ store-eq 0 image buffer (omega (arith, o.room)))
    ∙ take_at image (drop (0 + length image) buffer) (image_size s.slots) long

-- A list of calls from C begins with the image `first`, on a ring opened with the values s, which fit the image.
pub record Begins (s : Setup) (first : List ℕ) : Type 0 where
  pub ok : admissible s ≡ true
  pub endpoint : s.endpoint < 256
  pub silence : s.silence_byte < 256
  pub base : s.base < 2 ^ 64
  pub image : first ≡ ledger_image s (opened_ledger s.slots)

pub begins :
    (numbers block buffer out : List ℕ) → get_or numbers 6 0 < 2 ^ 64 → (open_from_c numbers block buffer out).returned ≡ 0 →
    Begins (setup_from numbers) (take (image_size (setup_from numbers).slots) (open_from_c numbers block buffer out).image)
unfolding setup_from
begins numbers block buffer out base done =
    let o = opened-image numbers block buffer out done in
    record {
      ok = o.ok;
      endpoint = omega arith;
      silence = omega arith;
      base = base;
      image = first-image (setup_from numbers) buffer (open_from_c numbers block buffer out) o;
    }
