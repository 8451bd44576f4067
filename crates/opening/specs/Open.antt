-- The paper's section Opening: the block that opening makes, and its whole outcome.
use Rattle.layout.specs.declared.RingLayout.{RingLayout}
use Rattle.error.specs.declared.Error.{Error}
use Rattle.std.specs.Prelude.{ℕ, zero, suc, ◌+◌, ◌*◌, List, pos, length, replicate, Result, Ok, Err}
use Rattle.layout.specs.declared.Setup.{Setup}
use Rattle.layout.specs.Opening.{layout_for, total_of}
use Rattle.stream.specs.declared.Answer.{Answer}
use Rattle.stream.specs.declared.Stream.{Stream}
use Rattle.sys.specs.declared.header.Urb.{Urb}
use Rattle.sys.specs.Bytes.{store}
use Rattle.sys.specs.Header.{header_bytes, slot_header}
use Rattle.opening.specs.Opened.{opened_stream, no_stream}
use Rattle.opening.specs.Refusals.{opens}

-- Header i: type 0, the endpoint, flags 2, buffer address base + data base + i × data stride, buffer length = capacity,
-- packet count p, cookie i.
unfoldable pub opened_header : Setup → ℕ → Urb
opened_header s i =
    slot_header s.endpoint
    (s.base + (layout_for s).data_base + i * (layout_for s).data_stride)
    (pos (layout_for s).slot_capacity)
    (pos (layout_for s).packets_per_urb) i

-- A block with the headers 0 to k-1 stored, header i at i × stride.
unfoldable pub with_headers : Setup → ℕ → List ℕ → List ℕ
with_headers s zero block = block
with_headers s (suc i) block =
    store (i * (layout_for s).slot_stride) (header_bytes (opened_header s i)) (with_headers s i block)

-- The block becomes zero, then each header is stored.
unfoldable pub opened_block : Setup → List ℕ
opened_block s = with_headers s s.slots (replicate (total_of s) 0)

-- All that a call of opening gives: its answer, the record and the block.
pub record OpenResult : Type 0 where
  pub answer : Answer
  pub stream : Stream
  pub block : List ℕ

-- Refused: the record of no slots, block untouched. Else the opened record and the opened block.
unfoldable pub opened_or : Result RingLayout Error → Setup → List ℕ → OpenResult
opened_or (Err e) s block = record { answer = Answer.Refused e; stream = no_stream; block = block }
opened_or (Ok layout) s block = record { answer = Answer.Done; stream = opened_stream s; block = opened_block s }

-- What opening does with these values and a block.
unfoldable pub open_outcome : Setup → List ℕ → OpenResult
open_outcome s block = opened_or (opens s (length block)) s block
