-- The record that stands in the bytes of an image, and which bytes are one. A number that no image has is read as anything: the bytes are
-- compared with the image of what was read.
use Rattle.std.specs.Prelude.{ℕ, ◌+◌, ◌-◌, ◌*◌, ◌%◌, ◌≤◌, min, ◌≡◌, Bool, cond, ◌&&◌}
use Rattle.std.specs.Prelude.{List, [], ◌∷◌, ◌++◌, map, eqb, length, get_or, replicate}
use Rattle.sys.specs.Bytes.{part, field}
use Rattle.layout.specs.declared.Setup.{Setup}
use Rattle.layout.specs.Numbers.{setup_from}
use Rattle.ring.specs.declared.Hand.{Hand}
use Rattle.ring.specs.declared.Ring.{Ring}
use Rattle.encoding.specs.Codes.{state_from}
use Rattle.ring.specs.Parts.{ring_with}
use Rattle.stream.specs.declared.Flags.{Flags}
use Rattle.stream.specs.declared.IsoStats.{IsoStats}
use Rattle.stream.specs.declared.Stream.{Stream}
use Rattle.stream.specs.Sound.{sound}
use Rattle.encoding.specs.Words.{numbers_at, begins}
use Rattle.image.specs.Image.{image}

-- Where the parts start, for n slots, each behind the one before it; and the image's size.
abbrev pub setup_at : ℕ
setup_at = 24

abbrev pub hand_at : ℕ
hand_at = setup_at + 8 * 9

abbrev pub flags_at : ℕ
flags_at = hand_at + 8 * 3

abbrev pub states_at : ℕ
states_at = flags_at + 8 * 2

abbrev pub queue_at : ℕ → ℕ
queue_at n = states_at + n

abbrev pub counters_at : ℕ → ℕ
counters_at n = queue_at n + 4 * n

abbrev pub image_size : ℕ → ℕ
image_size n = counters_at n + 8 * 8

-- The header's numbers, for a queue of that length.
unfoldable pub header_for : ℕ → ℕ → List ℕ
header_for n used = n ∷ used ∷ setup_at ∷ states_at ∷ queue_at n ∷ counters_at n ∷ []

unfoldable pub hand_from : ℕ → ℕ → ℕ → Hand
hand_from kind slot left =
    cond (eqb kind 0) Hand.Idle
    (cond (eqb kind 1) (Hand.Held slot)
    (cond (eqb kind 2) (Hand.Sending slot) (Hand.Silent slot left)))

unfoldable pub stats_from : List ℕ → IsoStats
stats_from numbers =
    record {
      urbs_submitted = get_or numbers 0 0;
      urbs_completed = get_or numbers 1 0;
      bytes_submitted = get_or numbers 2 0;
      bytes_transferred = get_or numbers 3 0;
      short_bytes = get_or numbers 4 0;
      packet_errors = get_or numbers 5 0;
      urb_errors = get_or numbers 6 0;
      underruns = get_or numbers 7 0;
    }

unfoldable pub setup_in : List ℕ → Setup
setup_in bytes = setup_from (numbers_at 8 9 setup_at bytes)

unfoldable pub hand_in : List ℕ → Hand
hand_in bytes = hand_from (field hand_at 8 bytes) (field (hand_at + 8) 8 bytes) (field (hand_at + 16) 8 bytes)

unfoldable pub flags_in : List ℕ → Flags
flags_in bytes = record { started = eqb (field flags_at 8 bytes) 1; armed = eqb (field (flags_at + 8) 8 bytes) 1 }

-- The queue's 256 places: n as they stand there, a byte of each, and zeros.
unfoldable pub queue_in : ℕ → List ℕ → List ℕ
queue_in n bytes = map (λ v. v % 256) (numbers_at 4 n (queue_at n) bytes) ++ replicate (256 - n) 0

-- The header's second number says how many places are used.
unfoldable pub ring_in : ℕ → List ℕ → Ring
ring_in n bytes =
    ring_with n (λ i. state_from (get_or (part states_at n bytes) i 0)) (queue_in n bytes) (min (field 4 4 bytes) n)

unfoldable pub record_in : List ℕ → Stream
record_in bytes =
    let s = setup_in bytes in
    record {
      setup = s;
      ring = ring_in s.slots bytes;
      hand = hand_in bytes;
      flags = flags_in bytes;
      stats = stats_from (numbers_at 8 8 (counters_at s.slots) bytes);
    }

-- The bytes begin with the image of the record that stands in them.
unfoldable pub matches : List ℕ → Bool
matches bytes = begins (image (record_in bytes)) bytes

-- The bytes begin with the image of a sound record.
unfoldable pub is_image : List ℕ → Bool
is_image bytes = sound (record_in bytes) && matches bytes

-- Bytes whose setup has n slots, at most 256, and which are long enough for an image of n. Only internal functions ask for it.
pub record Roomy (n : ℕ) (bytes : List ℕ) : Type 0 where
  pub slots : n ≡ (setup_in bytes).slots
  pub few : n ≤ 256
  pub long : image_size n ≤ length bytes
