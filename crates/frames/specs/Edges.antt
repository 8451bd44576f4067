-- Cases of request 2026-04 that compute: R, and R with frames of 6 bytes, of a whole packet, and of no bytes or one more than a packet's.
use Rattle.std.specs.Prelude.{ℕ, List, [], ◌∷◌, ◌++◌, ◌≡◌, pos, replicate, Ok, Err}
use Rattle.error.specs.declared.Error.{Error}
use Rattle.sys.specs.Bytes.{part}
use Rattle.layout.specs.declared.Setup.{Setup}
use Rattle.layout.specs.Layout.{whole_frames, laid_out}
use Rattle.layout.specs.Numbers.{setup_from}
use Rattle.layout.specs.Opening.{total_of}
use Rattle.layout.specs.Places.{places_of}
use Rattle.stream.specs.declared.Answer.{Answer}
use Rattle.opening.specs.Opened.{opened_stream}
use Rattle.opening.specs.Open.{opened_header, opened_block}
use Rattle.opening.specs.Refusals.{opens}
use Rattle.ledger.specs.Slot.{silenced}
use Rattle.ledger.specs.Calls.{turn, commit_packets, submitted, made}
use Rattle.history.specs.History.{record_after}
use Rattle.proved_edges.specs.Edges.{Refuses, Commits, committed_on}

-- R with n slots and frames of f bytes: n, p, b, endpoint, policy, silence byte, base, tag, f.
abbrev pub framed : ℕ → ℕ → Setup
framed n f = setup_from (n ∷ 8 ∷ 100 ∷ 1 ∷ 0 ∷ 9 ∷ 65536 ∷ 0 ∷ f ∷ [])

-- Frames of 6 bytes.
abbrev pub sixes : Setup
sixes = framed 4 6

-- Slot 0, which the first turn gave, committed with these lengths.
abbrev pub packets_on : List ℕ → Answer
packets_on lengths =
    (made (commit_packets lengths (opened_block sixes)) (record_after (opened_stream sixes) (turn (opened_block sixes) ∷ []))).answer

-- A full slot that the kernel has no memory for.
abbrev pub memory_on : Answer
memory_on =
    (made (submitted (Err 12) (committed_on sixes 768).lent) (committed_on sixes 768).stream).answer

pub record FrameEdges : Type 0 where
  -- b 100, f 6, p 8: 96 a packet, capacity 768; total and data stride keep p × b.
  pub whole-96 : whole_frames 100 6 ≡ 96
  pub layout-6 :
      laid_out 4 8 100 6
      ≡ Ok
      (record {
        slots = 4;
        slot_stride = 152;
        data_base = 640;
        data_stride = 832;
        packet_bytes = 100;
        packets_per_urb = 8;
        total_bytes = 3968;
        align = 64;
        slot_capacity = 768;
      })
  -- Opening's buffer length.
  pub header-768 : (opened_header sixes 3).buffer_length ≡ pos 768
  -- commit 250: 96, 96, 58, five 0; 768: all 96; 769: 10.
  pub commit-250 : Commits sixes 250 (96 ∷ 96 ∷ 58 ∷ 0 ∷ 0 ∷ 0 ∷ 0 ∷ 0 ∷ [])
  pub commit-768 : Commits sixes 768 (96 ∷ 96 ∷ 96 ∷ 96 ∷ 96 ∷ 96 ∷ 96 ∷ 96 ∷ [])
  pub commit-769 : Refuses Answer.Refused (committed_on sixes 769).answer 10
  -- commit_packets keeps b, and has no 10: 800 bytes in all; 12 from 101 on.
  pub packets-100 : packets_on (replicate 8 100) ≡ Answer.Submit 0
  pub packets-101 : Refuses Answer.Refused (packets_on (101 ∷ replicate 7 0)) 12
  -- Silence fills the capacity, and the payload's rest stays.
  pub silence-768 :
      part (places_of sixes 2).payload 832 (silenced sixes 2 (replicate (total_of sixes) 7)) ≡ replicate 768 9 ++ replicate 64 7
  -- 14 with n × p × b.
  pub memory-3200 : memory_on ≡ Answer.Refused (Error.UsbfsMemory 3200)
  -- f = b: the whole packet. f one above b, and zero: 33, though the block has the wrong length; but 5 before it.
  pub commit-250-whole : Commits (framed 4 100) 250 (100 ∷ 100 ∷ 50 ∷ 0 ∷ 0 ∷ 0 ∷ 0 ∷ 0 ∷ [])
  pub frame-101 : Refuses Err (opens (framed 4 101) 3968) 33
  pub frame-0 : Refuses Err (opens (framed 4 0) 0) 33
  pub frame-0-slots-257 : Refuses Err (opens (framed 257 0) 0) 5
