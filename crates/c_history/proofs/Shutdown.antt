-- Request 2026-12 for calls from C: the records that the images show are in step with the ledger (AfterC), of which history proves it; and C is told
-- the ledger's answer. Assumes nothing.
use Prim.Native.Nat.{ℕ, ◌^◌, ◌<◌}
use mathlib.Core.Path.{◌≡◌, sym, ap, ◌∙◌}
use mathlib.Core.Bool.{true}
use mathlib.Core.List.{List, [], ◌∷◌, ◌++◌, map-append}
use lib.ListN.{take, get_or}
use Rattle.layout.specs.declared.Setup.{Setup}
use Rattle.layout.specs.Numbers.{setup_from}
use Rattle.stream.specs.declared.Answer.{Answer}
use Rattle.stream.specs.Numbers.{numbers_of}
use Rattle.ledger.specs.Step.{Next}
use Rattle.ledger.specs.Calls.{Call, stop, finish, rule, lent_to, step_of}
use Rattle.history.specs.History.{ledger_after}
use Rattle.history.specs.Words.{said}
use Rattle.history.specs.Shutdown.{only_reaped_and_finish, finish_says}
use Rattle.history.proofs.Runs.{InStep}
use Rattle.history.proofs.Idle.{stop-done}
use Rattle.history.proofs.Shutdown.{shut-down-after, finish-next}
use Rattle.encoding.specs.Words.{list_in}
use Rattle.image.specs.Image.{ledger_image}
use Rattle.image.specs.Reading.{image_size, record_in}
use Rattle.from_c.specs.Told.{FromC, told}
use Rattle.from_c.specs.Calls.{rule_from_c, made_from_c}
use Rattle.c_open.specs.Open.{open_from_c}
use Rattle.c_history.specs.Calls.{CCall, in_numbers, calls_of, image_after}
use Rattle.c_history.specs.Shutdown.{ShutDownFromC}
use Rattle.c_history.proofs.Opened.{Begins, begins}
use Rattle.c_history.proofs.AfterC.{says, rule-in-numbers, call-is, image-after, in-step-image}

module _ (s : Setup) (first : List ℕ) (b : Begins s first) (before : List CCall) (list rest out : List ℕ) (done : (made_from_c (stop list) (image_after first before ++ rest) out).returned ≡ 0) (since : List CCall) (only : only_reaped_and_finish (calls_of since) ≡ true) where
  abbrev stopped : List CCall
  stopped = record { call = stop list; rest = rest; out = out } ∷ before

  -- what a call tells C
  called : (h : List CCall) (c : CCall) → made_from_c c.call (image_after first h ++ c.rest) c.out ≡ says s (ledger_after s (calls_of h)) c.call c.rest c.out
  called h = call-is s first b h (image-after s first b h)

  -- stop returned the number of the ledger's answer
  gave-done : (said (step_of s (stop (list_in list)) (ledger_after s (calls_of before))).answer).stopped ≡ true
  unfolding told in_numbers step_of rule lent_to
  gave-done =
      let l = ledger_after s (calls_of before) in
      stop-done s l (list_in list)
      (ap (λ (a : Answer). (numbers_of a).number) (sym (rule-in-numbers (stop list) s l).answer) ∙
      sym (ap (λ (x : FromC). x.returned) (called before (record { call = stop list; rest = rest; out = out }))) ∙
      done)

  joined : calls_of (since ++ stopped) ≡ calls_of since ++ calls_of stopped
  unfolding calls_of
  joined = map-append _ since stopped

  now : InStep s (record_in (image_after first (since ++ stopped))) (ledger_after s (calls_of since ++ calls_of stopped))
  now = rw joined at (in-step-image s first b (since ++ stopped))

  pub shut-down-images : ShutDownFromC s first stopped since
  unfolding calls_of in_numbers rule_from_c step_of lent_to
  shut-down-images =
      record {
        after = shut-down-after s b.ok (calls_of before) (list_in list) gave-done (calls_of since) only _ now (record_in (image_after first stopped)) (in-step-image s first b stopped);
        tells =
            λ more eight.
            called (since ++ stopped) (record { call = finish; rest = more; out = eight }) ∙
            ap (λ (x : Next). told x.answer (ledger_image s x.ledger ++ more) x.lent eight)
            (ap (λ (h : List Call). step_of s finish (ledger_after s h)) joined ∙ finish-next s b.ok (calls_of before) (list_in list) gave-done (calls_of since) only _ now) ∙
            ap (λ (image : List ℕ). told (finish_says s (calls_of stopped) (calls_of since)) (image ++ more) [] eight)
            (sym (image-after s first b (since ++ stopped) ∙ ap (λ (h : List Call). ledger_image s (ledger_after s h)) joined));
      }

-- THE THEOREM: wherever opening from C returns 0, for every list of calls that ends in a stop that returned 0, and every list of reaped and
-- finish after it.
pub shut-down-from-c :
    (numbers block buffer out : List ℕ) → get_or numbers 6 0 < 2 ^ 64 → (open_from_c numbers block buffer out).returned ≡ 0 →
    let first = take (image_size (setup_from numbers).slots) (open_from_c numbers block buffer out).image in
    (before : List CCall) (list rest eight : List ℕ) → (made_from_c (stop list) (image_after first before ++ rest) eight).returned ≡ 0 →
    (since : List CCall) → only_reaped_and_finish (calls_of since) ≡ true →
    ShutDownFromC (setup_from numbers) first (record { call = stop list; rest = rest; out = eight } ∷ before) since
shut-down-from-c numbers block buffer out base opens before list rest eight done since only =
    shut-down-images (setup_from numbers) _ (begins numbers block buffer out base opens) before list rest eight done since only
