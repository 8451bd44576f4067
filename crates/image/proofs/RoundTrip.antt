-- The round trip: the record that is read from a valid ledger's image stores that ledger, so it is sound, shows the ledger, and has that image.
-- Assumes nothing.
use Prim.Native.Nat.{ℕ, ◌-◌, ◌≤◌, ◌<◌}
use native.Mathlib.Omega.{arith}
use mathlib.Core.Path.{◌≡◌, sym, ap, subst, ◌∙◌}
use mathlib.Core.Bool.{true}
use mathlib.Core.List.{List, ◌++◌}
use lib.ListN.{length, take, get_or, replicate, length-append, length-replicate}
use lib.Seq.{length-take-le, take-append-le, get_or-take, ext_get_or}
use Rattle.layout.specs.declared.Setup.{Setup}
use Rattle.layout.specs.Opening.{admissible}
use Rattle.ring.specs.declared.Ring.{Ring}
use Rattle.ring.proofs.Numbers.{table_at}
use Rattle.ring.proofs.Restored.{made-len, made-out, with_none, with-queue, with-state, with-tabled, with-wide}
use Rattle.ring.proofs.Truth.{both, first}
use Rattle.ring.proofs.Wide.{Wide}
use Rattle.stream.specs.declared.Stream.{Stream}
use Rattle.stream.specs.Parts.{with_state}
use Rattle.stream.specs.Sound.{sound}
use Rattle.ledger.specs.Ledger.{Ledger, state_in}
use Rattle.ledger.specs.Record.{view, stored}
use Rattle.ledger.specs.Shown.{shown_by}
use Rattle.ledger.proofs.Shown.{stored-shown, ring-stores}
use Rattle.ledger.proofs.Valid.{Valid, queue-fits, stored-sound, view-stored}
use Rattle.encoding.specs.Words.{places, begins}
use Rattle.image.specs.Image.{image_of, image, ledger_image}
use Rattle.image.specs.Reading.{record_in, matches, is_image}
use Rattle.encoding.proofs.Bytes.{begins-same}
use Rattle.image.proofs.Sizes.{places-long}
use Rattle.image.proofs.ReadBack.{Fits, record_of, record-in}

-- the used ones of a queue's places
places-used : (n : ℕ) (queue zeros : List ℕ) → length queue ≤ n → take (length queue) (places n queue ++ zeros) ≡ queue
unfolding places
places-used n queue zeros short =
    let long : length queue ≤ length (places n queue) = rw (places-long n queue) short in
    take-append-le (length queue) (places n queue) zeros long
    ∙ ext_get_or 0 _ queue (length-take-le (length queue) (places n queue) long)
    (λ i h.
    let below : i < length queue = rw (length-take-le (length queue) (places n queue) long) at h in
    get_or-take (length queue) (places n queue) i 0 below ∙ table_at (λ j. get_or queue j 0) 0 n i (omega arith))

-- the record with a valid ledger's parts
module _ (s : Setup) (l : Ledger) (v : Valid s.slots l) where
  free : List ℕ
  free = places s.slots l.queue ++ replicate (256 - s.slots) 0

  record_of-wide : Wide (record_of s l).ring
  unfolding record_of free
  record_of-wide =
      with-wide s.slots (state_in l) free (length l.queue)
      (rw (length-append, places-long s.slots l.queue, length-replicate) (omega (arith, v.few)))

  record_of-stored : stored (record_of s l) l ≡ record_of s l
  unfolding stored with_state record_of free
  record_of-stored =
      let n = s.slots in
      let used = length l.queue in
      let short = queue-fits l n v in
      ap (λ (r : Ring). with_state (record_of s l) r l.hand (record { started = l.started; armed = l.armed }) l.totals)
      (ring-stores l n v (record_of s l).ring record_of-wide (with-tabled n (state_in l) free used) (with_none n (state_in l) free used)
      (rw (made-len n (state_in l) free used) (omega (arith, short, v.few)))
      (with-queue n (state_in l) free used ∙ places-used n l.queue (replicate (256 - n) 0) short)
      (with-state n (state_in l) free used v.few)
      (made-out n (state_in l) free used v.few))

  module _ (ok : admissible s ≡ true) where
    record_of-sound : sound (record_of s l) ≡ true
    unfolding record_of
    record_of-sound = subst (λ (x : Stream). sound x ≡ true) record_of-stored (stored-sound (record_of s l) l v ok record_of-wide)

    record_of-view : view (record_of s l) ≡ l
    unfolding record_of
    record_of-view = ap view (sym record_of-stored) ∙ view-stored (record_of s l) l v ok record_of-wide

    record_of-image : image (record_of s l) ≡ ledger_image s l
    unfolding image ledger_image record_of
    record_of-image = ap (image_of s) (ap shown_by (sym record_of-stored) ∙ stored-shown (record_of s l) l v ok record_of-wide)

-- The bytes are an image, and what stands in them are opening's values s and a record that shows l.
pub record Reads (s : Setup) (l : Ledger) (bytes : List ℕ) : Type 0 where
  pub is : is_image bytes ≡ true
  pub setup : (record_in bytes).setup ≡ s
  pub ledger : view (record_in bytes) ≡ l
  pub wide : Wide (record_in bytes).ring

module _ (s : Setup) (l : Ledger) (ok : admissible s ≡ true) (v : Valid s.slots l) (f : Fits s l.totals) (rest : List ℕ) where
  pub round_trip : Reads s l (ledger_image s l ++ rest)
  unfolding is_image matches record_of
  round_trip =
      let bytes = ledger_image s l ++ rest in
      let read = record-in s l ok v f rest in
      record {
        is =
            both (sound (record_in bytes)) (begins (image (record_in bytes)) bytes)
            (ap sound read ∙ record_of-sound s l v ok)
            (ap (λ (r : Stream). begins (image r) bytes) read
            ∙ ap (λ (b : List ℕ). begins b bytes) (record_of-image s l v ok)
            ∙ begins-same (ledger_image s l) rest);
        setup = ap (λ (r : Stream). r.setup) read;
        ledger = ap view read ∙ record_of-view s l v ok;
        wide = subst (λ (r : Stream). Wide r.ring) (sym read) (record_of-wide s l v);
      }

-- a record that stands in an image is sound
pub image-sound : (bytes : List ℕ) → is_image bytes ≡ true → sound (record_in bytes) ≡ true
unfolding is_image
image-sound bytes is = first (sound (record_in bytes)) (matches bytes) is
