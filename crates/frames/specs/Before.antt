-- The definitions that request 2026-04 changed, as they stood before it: capacity p × b, each packet min(rest, b), no 33. With f = 1 those
-- of today are equal to them, for layout, opening, 8, commit and silence.
use Rattle.std.specs.Prelude.{ℕ, zero, suc, ◌+◌, ◌*◌, Bool, cond, ◌||◌, List, [], ◌∷◌, ◌++◌, ◌≡◌, ltb, pos}
use Rattle.std.specs.Prelude.{length, replicate, Result, Ok, Err}
use Rattle.error.specs.declared.Error.{Error}
use Rattle.sys.specs.declared.header.Urb.{Urb}
use Rattle.sys.specs.Bytes.{store}
use Rattle.sys.specs.Header.{header_bytes, slot_header}
use Rattle.layout.specs.declared.RingLayout.{RingLayout}
use Rattle.layout.specs.declared.Setup.{Setup}
use Rattle.layout.specs.Layout.{slot_stride, data_base, data_stride, total, sizes, overflowing, laid, laid_out}
use Rattle.layout.specs.Opening.{total_of, base_address, admissible}
use Rattle.layout.specs.Places.{places_of}
use Rattle.layout.specs.Tests.{Test, first, passed}
use Rattle.ring.specs.declared.Hand.{Hand}
use Rattle.stream.specs.declared.Answer.{Answer}
use Rattle.opening.specs.Opened.{opened_stream, no_stream}
use Rattle.opening.specs.Open.{OpenResult, open_outcome}
use Rattle.opening.specs.Refusals.{block_length}
use Rattle.ledger.specs.Ledger.{Ledger, with_hand, with_queue}
use Rattle.ledger.specs.Slot.{shares, committed}
use Rattle.ledger.specs.Step.{Next, Rule, on_block, when_held, put_back}
use Rattle.ledger.specs.Turn.{take_front, silence_front}
use Rattle.ledger.specs.Commit.{send, commit, commit_full}

unfoldable pub layout_before : ℕ → ℕ → ℕ → RingLayout
layout_before n p b =
    record {
      slots = n;
      slot_stride = slot_stride p;
      data_base = data_base n p;
      data_stride = data_stride p b;
      packet_bytes = b;
      packets_per_urb = p;
      total_bytes = total n p b;
      align = 64;
      slot_capacity = p * b;
    }

unfoldable pub laid_out_before : ℕ → ℕ → ℕ → Result RingLayout Error
laid_out_before n p b = laid (first (sizes n p b ++ (overflowing n p b, Error.LayoutOverflow) ∷ [])) (layout_before n p b)

abbrev pub layout_for_before : Setup → RingLayout
layout_for_before s = layout_before s.slots s.packets_per_urb s.packet_bytes

abbrev pub capacity_before : Setup → ℕ
capacity_before s = s.packets_per_urb * s.packet_bytes

unfoldable pub limits_before : Setup → List Test
limits_before s =
    sizes s.slots s.packets_per_urb s.packet_bytes
    ++ (ltb 256 s.slots || ltb 49152 s.packet_bytes, Error.TooLarge) ∷ []

unfoldable pub admissible_before : Setup → Bool
admissible_before s = passed (first (limits_before s ++ base_address s))

unfoldable pub opens_before : Setup → ℕ → Result RingLayout Error
opens_before s len = laid (first (limits_before s ++ (block_length s len ++ base_address s))) (layout_for_before s)

unfoldable pub header_before : Setup → ℕ → Urb
header_before s i =
    slot_header s.endpoint
    (s.base + (layout_for_before s).data_base + i * (layout_for_before s).data_stride)
    (pos (layout_for_before s).slot_capacity)
    (pos (layout_for_before s).packets_per_urb) i

unfoldable pub with_headers_before : Setup → ℕ → List ℕ → List ℕ
with_headers_before s zero block = block
with_headers_before s (suc i) block =
    store (i * (layout_for_before s).slot_stride) (header_bytes (header_before s i)) (with_headers_before s i block)

unfoldable pub opened_or_before : Result RingLayout Error → Setup → List ℕ → OpenResult
opened_or_before (Err e) s block = record { answer = Answer.Refused e; stream = no_stream; block = block }
opened_or_before (Ok layout) s block =
    record { answer = Answer.Done; stream = opened_stream s; block = with_headers_before s s.slots (replicate (total_of s) 0) }

unfoldable pub open_outcome_before : Setup → List ℕ → OpenResult
open_outcome_before s block = opened_or_before (opens_before s (length block)) s block

abbrev pub lengths_before : Setup → ℕ → List ℕ
lengths_before s bytes = shares s.packets_per_urb s.packet_bytes bytes

unfoldable pub commit_held_before : ℕ → ℕ → Rule
commit_held_before bytes i s l block =
    cond (ltb (capacity_before s) bytes) (put_back i (Answer.Refused Error.CommitTooLong) l block)
    (send s i (lengths_before s bytes) l block)

unfoldable pub commit_before : ℕ → Rule
commit_before bytes = on_block (when_held (commit_held_before bytes))

unfoldable pub commit_full_before : Rule
commit_full_before s = commit_before (capacity_before s) s

unfoldable pub silenced_before : Setup → ℕ → List ℕ → List ℕ
silenced_before s i block = store (places_of s i).payload (replicate (capacity_before s) s.silence_byte) block

unfoldable pub silence_front_before : Setup → ℕ → List ℕ → Ledger → List ℕ → Next
silence_front_before s left [] l block = take_front [] l block
silence_front_before s left (i ∷ rest) l block =
    record {
      ledger = with_hand (Hand.Silent i left) (with_queue rest l);
      answer = Answer.Submit i;
      lent = committed s i (lengths_before s (capacity_before s)) (silenced_before s i block);
    }

-- With these values layout, opening, 8, commit and silence are as they were before.
pub record AsBefore (s : Setup) : Type 0 where
  pub layout :
      laid_out s.slots s.packets_per_urb s.packet_bytes s.frame_bytes
      ≡ laid_out_before s.slots s.packets_per_urb s.packet_bytes
  pub opening : (block : List ℕ) → open_outcome s block ≡ open_outcome_before s block
  pub record-8 : admissible s ≡ admissible_before s
  pub commits : (bytes : ℕ) (l : Ledger) (block : List ℕ) → commit bytes s l block ≡ commit_before bytes s l block
  pub commits-full : (l : Ledger) (block : List ℕ) → commit_full s l block ≡ commit_full_before s l block
  pub silence :
      (left : ℕ) (queue : List ℕ) (l : Ledger) (block : List ℕ)
      → silence_front s left queue l block ≡ silence_front_before s left queue l block
