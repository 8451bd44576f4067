-- The laws of images, over records: one image for each sound record and one for no two, reading it back whatever stands behind it, and which bytes
-- are an image. A sound record has the image of the ledger that it shows, so each is the round trip. Assumes nothing.
use Prim.Native.Nat.{ℕ, zero, suc, ◌+◌, ◌*◌, ◌^◌, ◌<◌}
use native.Mathlib.Nat.{pow-suc}
use native.Mathlib.Omega.{arith}
use mathlib.Core.Path.{◌≡◌, sym, ap, subst, ◌∙◌}
use mathlib.Core.Bool.{true}
use mathlib.Core.List.{List, [], ◌∷◌, ◌++◌}
use lib.ListN.{length, take, drop, get_or}
use lib.Seq.{get_or-drop}
use Rattle.sys.specs.Bytes.{of_le, field}
use Rattle.sys.proofs.Fields.{below_suc}
use Rattle.layout.specs.Numbers.{setup_from}
use Rattle.ring.proofs.Numbers.{table_at}
use Rattle.ring.proofs.Truth.{second}
use Rattle.ring.proofs.Wide.{Wide}
use Rattle.stream.specs.declared.Stream.{Stream}
use Rattle.stream.specs.Sound.{sound}
use Rattle.stream.proofs.Soundness.{setup-admissible, ring-sound}
use Rattle.ledger.specs.Record.{view}
use Rattle.ledger.proofs.Shown.{view-shown}
use Rattle.ledger.proofs.Valid.{Valid, sound-valid}
use Rattle.encoding.specs.Words.{numbers_at, begins}
use Rattle.image.specs.Image.{image_of, image, ledger_image}
use Rattle.image.specs.Reading.{setup_at, counters_at, stats_from, setup_in, record_in, matches, is_image}
use Rattle.encoding.proofs.Laid.{Bytes}
use Rattle.encoding.proofs.Bytes.{begins-split}
use Rattle.image.proofs.Matches.{record-wide}
use Rattle.image.proofs.ReadBack.{Fits, record_of, record-in}
use Rattle.image.proofs.RoundTrip.{Reads, round_trip, image-sound}

-- A sound record; its arrays have their places, and its numbers fit, as their types say.
pub record Good (r : Stream) : Type 0 where
  pub ok : sound r ≡ true
  pub wide : Wide r.ring
  pub fits : Fits r.setup r.stats

-- the image of a sound record is that of the ledger that it shows
pub image-shown : (r : Stream) → sound r ≡ true → Wide r.ring → image r ≡ ledger_image r.setup (view r)
unfolding image ledger_image
image-shown r ok wide = ap (image_of r.setup) (view-shown r ok wide)

module _ (r : Stream) (good : Good r) where
  fitting : Fits r.setup (view r).totals
  unfolding view
  fitting = good.fits

  valid : Valid r.setup.slots (view r)
  valid = sound-valid r good.ok good.wide

  -- Reading back, whatever stands behind the image.
  pub read_back : (rest : List ℕ) → Reads r.setup (view r) (image r ++ rest)
  read_back rest =
      subst (λ (b : List ℕ). Reads r.setup (view r) (b ++ rest)) (sym (image-shown r good.ok good.wide))
      (round_trip r.setup (view r) (setup-admissible r good.ok) valid fitting rest)

  -- What is read is decided by the image.
  whole : (rest : List ℕ) → record_in (image r ++ rest) ≡ record_of r.setup (view r)
  whole rest =
      ap (λ (b : List ℕ). record_in (b ++ rest)) (image-shown r good.ok good.wide)
      ∙ record-in r.setup (view r) (setup-admissible r good.ok) valid fitting rest

  -- What stands behind an image is not read.
  pub rest-unread : (a b : List ℕ) → (is_image (image r ++ a) ≡ is_image (image r ++ b)) × (record_in (image r ++ a) ≡ record_in (image r ++ b))
  rest-unread a b = ((read_back a).is ∙ sym (read_back b).is, whole a ∙ sym (whole b))

-- Two records with the same image have the same opening's values and show the same.
pub one-image : (a b : Stream) → Good a → Good b → image a ≡ image b → (a.setup ≡ b.setup) × (view a ≡ view b)
one-image a b good-a good-b same =
    let shown = subst (λ (i : List ℕ). Reads a.setup (view a) (i ++ [])) same (read_back a good-a []) in
    let back = read_back b good-b [] in
    (sym shown.setup ∙ back.setup, sym shown.ledger ∙ back.ledger)

-- a number of k bytes
bytes_below : (k : ℕ) (l : List ℕ) → Bytes l → of_le (take k l) < 256 ^ k
unfolding of_le
bytes_below zero l below = omega arith
bytes_below (suc k) [] below = rw pow-suc (omega (arith, bytes_below k [] below))
bytes_below (suc k) (b ∷ l) below = below_suc k (of_le (take k l)) b (bytes_below k l (λ i. below (suc i))) (below 0)

module _ (bytes : List ℕ) (below : Bytes bytes) where
  number-below : (k at i : ℕ) → i < k → get_or (numbers_at 8 k at bytes) i 0 < 2 ^ 64
  unfolding numbers_at
  number-below k at i h =
      rw (table_at (λ j. field (at + 8 * j) 8 bytes) 0 k i h)
      (bytes_below 8 (drop (at + 8 * i) bytes) (λ j. rw (get_or-drop (at + 8 * i) bytes j 0) (below (at + 8 * i + j))))

  -- what is read fits
  read_fits : Fits (record_in bytes).setup (record_in bytes).stats
  unfolding record_in setup_in setup_from stats_from
  read_fits =
      let counter = number-below 8 (counters_at (setup_in bytes).slots) in
      record {
        endpoint = omega arith;
        silence = omega arith;
        base = number-below 9 setup_at 6 (omega arith);
        submitted = counter 0 (omega arith);
        completed = counter 1 (omega arith);
        bytes-submitted = counter 2 (omega arith);
        bytes-transferred = counter 3 (omega arith);
        short-bytes = counter 4 (omega arith);
        packet-errors = counter 5 (omega arith);
        urb-errors = counter 6 (omega arith);
        underruns = counter 7 (omega arith);
      }

  read-good : is_image bytes ≡ true → Good (record_in bytes)
  unfolding record_in
  read-good is =
      let ok = image-sound bytes is in
      record { ok = ok; wide = record-wide bytes (ring-sound (record_in bytes) ok).few; fits = read_fits }

-- The bytes begin with the image of a sound record.
pub record Holds (bytes : List ℕ) : Type 0 where
  pub of : Stream
  pub good : Good of
  pub begin : begins (image of) bytes ≡ true

-- Bytes are an image exactly when they begin with that of a sound record: 31 is given for all others.
pub an-image : (bytes : List ℕ) → Bytes bytes → (is_image bytes ≡ true → Holds bytes) × (Holds bytes → is_image bytes ≡ true)
unfolding is_image matches
an-image bytes below = (
  λ is. record { of = record_in bytes; good = read-good bytes below is; begin = second (sound (record_in bytes)) (matches bytes) is },
  λ h. ap is_image (begins-split (image h.of) bytes h.begin) ∙ (read_back h.of h.good (drop (length (image h.of)) bytes)).is,
)
