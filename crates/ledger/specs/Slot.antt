-- What the calls write into the block for a slot: a commit's lengths, and silence.
use Rattle.std.specs.Prelude.{ℕ, zero, suc, ◌+◌, ◌-◌, min, List, [], ◌∷◌, ◌++◌, replicate}
use Rattle.sys.specs.Bytes.{le, store}
use Rattle.sys.specs.Header.{status_at, buffer_length_at, actual_length_at, error_count_at}
use Rattle.sys.specs.Descriptor.{desc_bytes, packet_of}
use Rattle.layout.specs.declared.Setup.{Setup}
use Rattle.layout.specs.Layout.{whole_frames}
use Rattle.layout.specs.Opening.{capacity_of}
use Rattle.layout.specs.Places.{places_of}

-- The sum of a list.
unfoldable pub sum : List ℕ → ℕ
sum [] = 0
sum (x ∷ xs) = x + sum xs

-- commit gives each of p packets min(rest, most).
unfoldable pub shares : ℕ → ℕ → ℕ → List ℕ
shares zero most rest = []
shares (suc p) most rest = min rest most ∷ shares p most (rest - most)

-- The lengths that commit gives the packets of a slot for that many bytes: each is filled up to the largest multiple of f not above b.
abbrev pub lengths_of : Setup → ℕ → List ℕ
lengths_of s bytes = shares s.packets_per_urb (whole_frames s.packet_bytes s.frame_bytes) bytes

-- Each descriptor gets length, actual 0, status 0.
unfoldable pub descriptors : List ℕ → List ℕ
descriptors [] = []
descriptors (b ∷ rest) = desc_bytes (packet_of b) ++ descriptors rest

-- The header at an offset: buffer length = total; actual length, status, error count 0.
unfoldable pub headed : ℕ → ℕ → List ℕ → List ℕ
headed at total block =
    store (at + error_count_at) (le 4 0)
    (store (at + actual_length_at) (le 4 0)
    (store (at + buffer_length_at) (le 4 total)
    (store (at + status_at) (le 4 0) block)))

-- A commit of slot i with these packet lengths: its header, then its descriptors.
unfoldable pub committed : Setup → ℕ → List ℕ → List ℕ → List ℕ
committed s i lengths block =
    let at = places_of s i in
    store at.descs (descriptors lengths) (headed at.header (sum lengths) block)

-- Slot i's capacity filled with the silence byte.
unfoldable pub silenced : Setup → ℕ → List ℕ → List ℕ
silenced s i block = store (places_of s i).payload (replicate (capacity_of s) s.silence_byte) block
