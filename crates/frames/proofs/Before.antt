-- With f = 1 the largest multiple of f not above b is b, and 33 refuses nothing that 2 has not refused: so each definition is the one of
-- before. Assumes nothing.
use Rattle.std.specs.Prelude.{Result, Ok, Err}
use Prim.Native.Nat.{ℕ, zero, suc, ◌+◌, ◌*◌}
use native.Mathlib.Omega.{arith}
use mathlib.Core.Bool.{Bool, true, false, cond}
use mathlib.Core.List.{List, [], ◌∷◌, ◌++◌, append_assoc, append-nil}
use mathlib.Core.Option.{none}
use mathlib.Core.Path.{◌≡◌, refl, sym, ap, ap₂, ◌∙◌}
use lib.Dec.{ltb, eqb}
use lib.IntN.{pos}
use lib.ListN.{length, replicate}
use Rattle.error.specs.declared.Error.{Error}
use Rattle.sys.specs.Bytes.{store}
use Rattle.sys.specs.Header.{header_bytes, slot_header}
use Rattle.layout.specs.declared.RingLayout.{RingLayout}
use Rattle.layout.specs.declared.Setup.{Setup}
use Rattle.layout.specs.Layout.{whole_frames, layout_of, sizes, overflowing, bad_frame, laid, laid_out}
use Rattle.layout.specs.Opening.{layout_for, total_of, capacity_of, limits, base_address, admissible}
use Rattle.layout.specs.Places.{places_of}
use Rattle.layout.specs.Tests.{Test, first, passed}
use Rattle.layout.proofs.Frames.{frames-of-one, frame-passes}
use Rattle.layout.proofs.Refusals.{none-front, sized}
use Rattle.ring.specs.declared.Hand.{Hand}
use Rattle.stream.specs.declared.Answer.{Answer}
use Rattle.opening.specs.Open.{opened_header, with_headers, opened_block, opened_or, open_outcome}
use Rattle.opening.specs.Opened.{opened_stream}
use Rattle.opening.specs.Refusals.{block_length, refusal_of, opens}
use Rattle.ledger.specs.Ledger.{Ledger, with_hand, with_queue}
use Rattle.ledger.specs.Slot.{shares, lengths_of, committed, silenced}
use Rattle.ledger.specs.Step.{refused, on_block, by_held, when_held, put_back}
use Rattle.ledger.specs.Turn.{silence_front}
use Rattle.ledger.specs.Commit.{send, commit_held, commit, commit_full}
use Rattle.frames.specs.Before.{AsBefore, layout_before, laid_out_before, layout_for_before, limits_before, admissible_before, opens_before, header_before, with_headers_before, opened_or_before, open_outcome_before, lengths_before, capacity_before, commit_held_before, commit_before, commit_full_before, silenced_before, silence_front_before}
use Rattle.frames.proofs.Refused.{last-limit}

-- a test that fails where those before it pass decides nothing
skipped : (ts : List Test) (t : Bool) (e : Error) (rest : List Test) → (first ts ≡ none → t ≡ false) → first (ts ++ (t, e) ∷ rest) ≡ first (ts ++ rest)
unfolding first
skipped [] t e rest h = rw (h refl)
skipped ((true, e') ∷ ts) t e rest h = refl
skipped ((false, e') ∷ ts) t e rest h = skipped ts t e rest h

-- past 2, b is above zero, and 33 lets f = 1 pass
one_passes : (n p b : ℕ) → first (sizes n p b) ≡ none → bad_frame b 1 ≡ false
one_passes n p b h = frame-passes b 1 (omega arith) (sized n p b h).bytes

-- layout
layout-of-one : (n p b : ℕ) → layout_of n p b 1 ≡ layout_before n p b
unfolding layout_of layout_before
layout-of-one n p b = rw (frames-of-one b)

laid-of-one : (n p b : ℕ) → laid_out n p b 1 ≡ laid_out_before n p b
unfolding laid_out laid_out_before
laid-of-one n p b =
    let four = sizes n p b ++ (overflowing n p b, Error.LayoutOverflow) ∷ [] in
    ap₂ laid
    (ap first (sym (append_assoc (sizes n p b) ((overflowing n p b, Error.LayoutOverflow) ∷ []) ((bad_frame b 1, Error.FrameSize) ∷ [])))
    ∙ skipped four (bad_frame b 1) Error.FrameSize [] (λ h. one_passes n p b (none-front (sizes n p b) _ h))
    ∙ ap first (append-nil four))
    (layout-of-one n p b)

module _ (s : Setup) (one : s.frame_bytes ≡ 1) where
  whole : whole_frames s.packet_bytes s.frame_bytes ≡ s.packet_bytes
  whole = ap (whole_frames s.packet_bytes) one ∙ frames-of-one s.packet_bytes

  capacity : capacity_of s ≡ capacity_before s
  capacity = ap (λ (k : ℕ). s.packets_per_urb * k) whole

  lengths : (bytes : ℕ) → lengths_of s bytes ≡ lengths_before s bytes
  lengths bytes = ap (λ (k : ℕ). shares s.packets_per_urb k bytes) whole

  layout-for : layout_for s ≡ layout_for_before s
  unfolding layout_for
  layout-for = ap (layout_of s.slots s.packets_per_urb s.packet_bytes) one ∙ layout-of-one _ _ _

  -- opening and 8
  front : first (limits_before s) ≡ none → bad_frame s.packet_bytes s.frame_bytes ≡ false
  unfolding limits_before
  front h = ap (bad_frame s.packet_bytes) one ∙ one_passes _ _ _ (none-front (sizes s.slots s.packets_per_urb s.packet_bytes) _ h)

  passes : (rest : List Test) → first (limits s ++ rest) ≡ first (limits_before s ++ rest)
  passes rest =
      ap (λ (ts : List Test). first (ts ++ rest)) (last-limit s)
      ∙ ap first (append_assoc (limits_before s) _ rest)
      ∙ skipped (limits_before s) _ Error.FrameSize rest front

  admissible-before : admissible s ≡ admissible_before s
  unfolding admissible admissible_before
  admissible-before = ap passed (passes (base_address s))

  opens-before : (len : ℕ) → opens s len ≡ opens_before s len
  unfolding opens refusal_of opens_before
  opens-before len = ap₂ laid (passes (block_length s len ++ base_address s)) layout-for

  header-before : (i : ℕ) → opened_header s i ≡ header_before s i
  unfolding opened_header header_before
  header-before i =
      ap (λ (l : RingLayout). slot_header s.endpoint (s.base + l.data_base + i * l.data_stride) (pos l.slot_capacity) (pos l.packets_per_urb) i) layout-for

  headers : (k : ℕ) (block : List ℕ) → with_headers s k block ≡ with_headers_before s k block
  unfolding with_headers with_headers_before
  headers zero block = refl
  headers (suc i) block = λ j. store (i * (layout-for j).slot_stride) (header_bytes (header-before i j)) (headers i block j)

  opened : (o : Result RingLayout Error) (block : List ℕ) → opened_or o s block ≡ opened_or_before o s block
  unfolding opened_or opened_or_before opened_block
  opened (Err e) block = refl
  opened (Ok layout) block =
      λ j. record { answer = Answer.Done; stream = opened_stream s; block = headers s.slots (replicate (total_of s) 0) j }

  outcome : (block : List ℕ) → open_outcome s block ≡ open_outcome_before s block
  unfolding open_outcome open_outcome_before
  outcome block = ap (λ (o : Result RingLayout Error). opened_or o s block) (opens-before (length block)) ∙ opened _ block

  -- commit
  held : (bytes i : ℕ) (l : Ledger) (block : List ℕ) → commit_held bytes i s l block ≡ commit_held_before bytes i s l block
  unfolding commit_held commit_held_before
  held bytes i l block =
      λ k. cond (ltb (capacity k) bytes) (put_back i (Answer.Refused Error.CommitTooLong) l block) (send s i (lengths bytes k) l block)

  commit-before : (bytes : ℕ) (l : Ledger) (block : List ℕ) → commit bytes s l block ≡ commit_before bytes s l block
  unfolding commit commit_before on_block when_held
  commit-before bytes l block =
      λ k.
      cond (eqb (length block) (total_of s)) (by_held l.hand (λ i. held bytes i l block k) (refused Error.WrongHand l block))
      (refused Error.BlockLength l block)

  full-before : (l : Ledger) (block : List ℕ) → commit_full s l block ≡ commit_full_before s l block
  unfolding commit_full commit_full_before
  full-before l block = ap (λ (bytes : ℕ). commit bytes s l block) capacity ∙ commit-before (capacity_before s) l block

  -- silence
  silence-before : (left : ℕ) (queue : List ℕ) (l : Ledger) (block : List ℕ) → silence_front s left queue l block ≡ silence_front_before s left queue l block
  unfolding silence_front silence_front_before silenced silenced_before
  silence-before left [] l block = refl
  silence-before left (i ∷ rest) l block =
      λ k.
      record {
        ledger = with_hand (Hand.Silent i left) (with_queue rest l);
        answer = Answer.Submit i;
        lent = committed s i (shares s.packets_per_urb (whole k) (capacity k)) (store (places_of s i).payload (replicate (capacity k) s.silence_byte) block);
      }

  pub as_before : AsBefore s
  as_before =
      record {
        layout = ap (laid_out s.slots s.packets_per_urb s.packet_bytes) one ∙ laid-of-one _ _ _;
        opening = outcome;
        record-8 = admissible-before;
        commits = commit-before;
        commits-full = full-before;
        silence = silence-before;
      }
