-- The image: what a C host holds of a record, as bytes. A header, then setup, states, queue and counters.
use Rattle.std.specs.Prelude.{ℕ, Bool, List, [], ◌∷◌, ◌++◌, map, length}
use Rattle.layout.specs.declared.Setup.{Setup}
use Rattle.layout.specs.Numbers.{setup_numbers}
use Rattle.ring.specs.declared.Hand.{Hand}
use Rattle.encoding.specs.Codes.{state_number}
use Rattle.ring.specs.Slots.{one}
use Rattle.stream.specs.declared.IsoStats.{IsoStats}
use Rattle.stream.specs.declared.Stream.{Stream}
use Rattle.ledger.specs.Ledger.{Ledger}
use Rattle.ledger.specs.Shown.{Shown, shown_by, shown_in}
use Rattle.encoding.specs.Words.{places}
use Rattle.image.specs.Parts.{Part, bytes_of, starts}

-- The hand: kind 0 to 3 as listed, slot, left, unused ones zero.
unfoldable pub hand_numbers : Hand → List ℕ
hand_numbers Hand.Idle = 0 ∷ 0 ∷ 0 ∷ []
hand_numbers (Hand.Held i) = 1 ∷ i ∷ 0 ∷ []
hand_numbers (Hand.Sending i) = 2 ∷ i ∷ 0 ∷ []
hand_numbers (Hand.Silent i left) = 3 ∷ i ∷ left ∷ []

-- The counters in IsoStats order.
unfoldable pub counter_numbers : IsoStats → List ℕ
counter_numbers t =
    t.urbs_submitted
    ∷ t.urbs_completed
    ∷ t.bytes_submitted
    ∷ t.bytes_transferred
    ∷ t.short_bytes
    ∷ t.packet_errors
    ∷ t.urb_errors
    ∷ t.underruns
    ∷ []

-- Setup: opening's values but the block in their order, the hand, started, armed, 8 bytes each.
unfoldable pub setup_for : Setup → Hand → Bool → Bool → List ℕ
setup_for s hand started armed = setup_numbers s ++ (hand_numbers hand ++ (one started ∷ one armed ∷ []))

unfoldable pub setup_part : Setup → Shown → Part
setup_part s x = record { width = 8; numbers = setup_for s x.hand x.started x.armed }

-- States take 1 byte.
unfoldable pub states_part : Shown → Part
states_part x = record { width = 1; numbers = map state_number x.states }

-- The queue starts with the front slot and always has n places of 4 bytes, the unused ones zero.
unfoldable pub queue_part : Setup → Shown → Part
queue_part s x = record { width = 4; numbers = places s.slots x.queue }

-- Counters take 8 bytes.
unfoldable pub counters_part : Shown → Part
counters_part x = record { width = 8; numbers = counter_numbers x.counters }

-- The parts behind the header.
unfoldable pub parts_of : Setup → Shown → List Part
parts_of s x = setup_part s x ∷ states_part x ∷ queue_part s x ∷ counters_part x ∷ []

-- The header: slots, queue length, offsets of setup, states, queue and counters, 4 bytes each, so 24 in all.
unfoldable pub header_part : Setup → Shown → Part
header_part s x = record { width = 4; numbers = s.slots ∷ length x.queue ∷ starts 24 (parts_of s x) }

-- The image of a ring opened with these values that shows this.
unfoldable pub image_of : Setup → Shown → List ℕ
image_of s x = bytes_of (header_part s x ∷ parts_of s x)

-- The image of a record, and of a ledger.
unfoldable pub image : Stream → List ℕ
image r = image_of r.setup (shown_by r)

unfoldable pub ledger_image : Setup → Ledger → List ℕ
ledger_image s l = image_of s (shown_in s l)
