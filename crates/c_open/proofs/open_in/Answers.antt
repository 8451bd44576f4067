-- `c_open::open_in` meets its contract: what opens refuses is told; for the others the buffer is judged, and then block and image are written, the
-- image being that of the opened ledger. Assumes nothing.
use Rattle.std.specs.Prelude.{Result, Ok}
use Rattle.std.proofs.Common.{rules}
use Prim.Native.Nat.{ℕ, ◌≤◌}
use mathlib.Core.Path.{◌≡◌, sym, ap, ◌∙◌}
use mathlib.Core.Bool.{true}
use mathlib.Core.List.{List, []}
use borrow.Author.Tests.{le-ltb}
use lib.ListN.{length}
use Rattle.error.specs.declared.Error.{Error}
use Rattle.layout.specs.declared.RingLayout.{RingLayout}
use Rattle.layout.specs.declared.Setup.{Setup}
use Rattle.layout.specs.Opening.{admissible}
use Rattle.layout.proofs.Admission.{admits}
use Rattle.sys.specs.Bytes.{store}
use Rattle.stream.specs.declared.Answer.{Answer}
use Rattle.stream.specs.declared.Reply.{Reply}
use Rattle.stream.specs.Numbers.{numbers_of}
use Rattle.opening.specs.Refusals.{opens}
use Rattle.opening.specs.Opened.{opened_stream}
use Rattle.opening.specs.Open.{OpenResult, opened_block, open_outcome}
use Rattle.opening.proofs.Fresh.{opened-sound}
use Rattle.opening.proofs.Refusals.{opened-layout}
use Rattle.opening.proofs.Outcome.{admissible-done}
use Rattle.ledger.specs.Ledger.{opened_ledger}
use Rattle.history.proofs.Runs.{opened-in-step}
use Rattle.history.proofs.Logs.{in-step-shown}
use Rattle.image.specs.Image.{image, image_of, ledger_image}
use Rattle.image.specs.Reading.{image_size}
use Rattle.from_c.specs.Told.{FromC, told, Returned}
use Rattle.from_c.specs.FromC.{answered_by, not_an_image, Writable}
use Rattle.c_open.specs.Open.{opened_from_c}
use Rattle.c_open.proofs.open_in.Goals as goal

module _ (s : Setup) (block buffer out : List ℕ) (o : Result RingLayout Error) (l : RingLayout) (is : o ≡ opens s (length block)) (laid : o ≡ Ok l) where
  passed : opens s (length block) ≡ Ok l
  passed = sym is ∙ laid

  ok : admissible s ≡ true
  ok = (opened-layout s (length block) l passed).admissible

  few : s.slots ≤ 256
  few = (admits s ok).limits.slots

  done : open_outcome s block ≡ record { answer = Answer.Done; stream = opened_stream s; block = opened_block s }
  done = admissible-done s block ok (opened-layout s (length block) l passed).length

  module _ (r : Reply) (answer : r.answer ≡ (open_outcome s block).answer) (stream : r.stream ≡ (open_outcome s block).stream) where
    opened : r.stream ≡ opened_stream s
    opened = stream ∙ ap (λ (x : OpenResult). x.stream) done

    -- what telling the reply asks for
    ready : (size : ℕ) → size ≡ image_size s.slots → size ≤ length buffer → Writable r buffer
    unfolding opened_stream
    ready size p h = record { sound = λ any. rw opened (opened-sound s ok); room = λ any. rw opened (rw (← p) h) }

    shows : image r.stream ≡ ledger_image s (opened_ledger s.slots)
    unfolding image ledger_image opened_stream
    shows = ap image opened ∙ ap (image_of s) (in-step-shown s (opened_stream s) (opened_ledger s.slots) (opened-in-step s ok))

    -- the reply is Done, so the image is stored
    stores : answered_by r buffer out ≡ told Answer.Done (store 0 (ledger_image s (opened_ledger s.slots)) buffer) [] out
    unfolding answered_by numbers_of
    stores =
        rw (answer ∙ ap (λ (x : OpenResult). x.answer) done)
        (ap (λ (x : List ℕ). told Answer.Done (store 0 x buffer) [] out) shows)

    written : (size n : ℕ) (block' buffer' out' : List ℕ) → size ≡ image_size s.slots → size ≤ length buffer → block' ≡ (open_outcome s block).block
        → Returned (answered_by r buffer out) n buffer' [] out' → Returned (opened_from_c (opens s (length block)) s block buffer out) n buffer' block' out'
    unfolding opened_from_c told
    written size n block' buffer' out' p h b t =
        let on : image_size s.slots ≤ length buffer = rw (← p) h in
        rw (passed, le-ltb (length buffer) (image_size s.slots) on)
        (record {
          returned = t.returned ∙ ap (λ (x : FromC). x.returned) stores;
          image = t.image ∙ ap (λ (x : FromC). x.image) stores;
          lent = b ∙ ap (λ (x : OpenResult). x.block) done;
          out = t.out ∙ ap (λ (x : FromC). x.out) stores;
        })

pub size-requires : goal.size-requires
size-requires c =
    few c.args.setup c.args.block.now c.args.image.now c.args.out.now _ _ c.opens.ensures c.in_default.is

pub answered-requires : goal.answered-requires
answered-requires c =
    ready c.args.setup c.args.block.now c.args.image.now c.args.out.now _ _ c.opens.ensures c.in_default.is
    _ c.open.ensures.0 c.open.ensures.1 _ c.size.ensures c.if-image-size.false

pub returns : goal.returns
returns c =
    written c.args.setup c.args.block.now c.args.image.now c.args.out.now _ _ c.opens.ensures c.in_default.is
    _ c.open.ensures.0 c.open.ensures.1 _ _ _ _ _ c.size.ensures c.if-image-size.false c.open.ensures.2 c.answered.ensures

pub returns-in-Err : goal.returns-in-Err
unfolding opened_from_c not_an_image told
returns-in-Err c = search rules

pub returns-then-image-size : goal.returns-then-image-size
unfolding opened_from_c not_an_image told
returns-then-image-size c = search rules
