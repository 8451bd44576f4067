-- The image after a list of calls from C is that of the ledger after the list, and C is told what the ledger says: by induction, since the image is
-- read back as the ledger, the rule gives the next one, and its image takes the old one's place. Assumes nothing.
use Prim.Native.Nat.{ℕ, ◌+◌}
use native.Mathlib.Omega.{arith}
use mathlib.Core.Path.{◌≡◌, refl, sym, ap, ap₂, subst, ◌∙◌}
use mathlib.Core.List.{List, [], ◌∷◌, ◌++◌, append-nil}
use lib.ListN.{length, take, length-append}
use lib.Seq.{take_at, drop_at}
use Rattle.sys.specs.Bytes.{store}
use Rattle.sys.proofs.Store.{store-eq}
use Rattle.layout.specs.declared.Setup.{Setup}
use Rattle.ledger.specs.Ledger.{Ledger}
use Rattle.ledger.specs.Step.{Next}
use Rattle.ledger.specs.Calls.{Call, turn, commit, commit_full, commit_packets, submitted, reaped, give_back, start, stop, finish, rule, lent_to, step_of}
use Rattle.history.specs.History.{ledger_after}
use Rattle.history.proofs.Lists.{list_counted}
use Rattle.history.proofs.Runs.{InStep, valid-after}
use Rattle.image.specs.Image.{ledger_image}
use Rattle.image.specs.Reading.{record_in}
use Rattle.image.proofs.ReadBack.{Fits}
use Rattle.image.proofs.RoundTrip.{Reads, round_trip, image-sound}
use Rattle.image.proofs.Sizes.{ledger-image-long}
use Rattle.from_c.specs.Told.{FromC, told}
use Rattle.from_c.specs.FromC.{from_c}
use Rattle.from_c.specs.Calls.{on_list, rule_from_c, made_from_c}
use Rattle.c_history.specs.Calls.{CCall, in_numbers, calls_of, image_after, c_log, ledger_clog}
use Rattle.c_history.proofs.Opened.{Begins}

-- A rule from C gives the ledger and the answer of its call in numbers.
pub record SameRule (a b : Next) : Type 0 where
  pub ledger : a.ledger ≡ b.ledger
  pub answer : a.answer ≡ b.answer

pub rule-in-numbers : (c : Call) (s : Setup) (l : Ledger) → SameRule (rule_from_c c s l (lent_to c)) (step_of s (in_numbers c) l)
unfolding rule_from_c in_numbers step_of rule lent_to on_list
rule-in-numbers (turn block) s l = record { ledger = refl; answer = refl }
rule-in-numbers (commit bytes block) s l = record { ledger = refl; answer = refl }
rule-in-numbers (commit_full block) s l = record { ledger = refl; answer = refl }
rule-in-numbers (commit_packets lengths block) s l = record { ledger = refl; answer = refl }
rule-in-numbers (submitted reply block) s l = record { ledger = refl; answer = refl }
rule-in-numbers (reaped reply block) s l = record { ledger = refl; answer = refl }
rule-in-numbers give_back s l = record { ledger = refl; answer = refl }
rule-in-numbers start s l = record { ledger = refl; answer = refl }
rule-in-numbers (stop list) s l = record { ledger = refl; answer = refl }
rule-in-numbers finish s l = record { ledger = refl; answer = refl }

-- bytes stored over the front of as many others
store-front : (us vs rest : List ℕ) → length us ≡ length vs → store 0 us (vs ++ rest) ≡ us ++ rest
store-front us vs rest e =
    store-eq 0 us (vs ++ rest) (rw length-append (omega arith))
    ∙ ap (λ (r : List ℕ). us ++ r) (drop_at vs rest (0 + length us) (omega arith))

-- what C is told by a call on the ledger l, with this behind the image
abbrev pub says : Setup → Ledger → Call → List ℕ → List ℕ → FromC
says s l c rest out =
    let next = rule_from_c c s l (lent_to c) in
    told next.answer (ledger_image s next.ledger ++ rest) next.lent out

-- one call on bytes that are read as a ledger
pub made-is : (s : Setup) (l : Ledger) (rest : List ℕ) → Reads s l (ledger_image s l ++ rest) → (c : Call) (out : List ℕ) → made_from_c c (ledger_image s l ++ rest) out ≡ says s l c rest out
unfolding made_from_c from_c
made-is s l rest reads c out =
    let next = rule_from_c c s l (lent_to c) in
    rw reads.is
    (ap₂
    (λ (x : Setup) (y : Ledger).
    let n = rule_from_c c x y (lent_to c) in
    told n.answer (store 0 (ledger_image x n.ledger) (ledger_image s l ++ rest)) n.lent out)
    reads.setup reads.ledger
    ∙ ap (λ (b : List ℕ). told next.answer b next.lent out)
    (store-front (ledger_image s next.ledger) (ledger_image s l) rest (ledger-image-long s next.ledger ∙ sym (ledger-image-long s l))))

-- the whole list
module _ (s : Setup) (first : List ℕ) (b : Begins s first) where
  -- the counters are sums modulo 2^64
  fits_after : (h : List Call) → Fits s (ledger_after s h).totals
  fits_after h =
      let k = list_counted s (valid-after s b.ok) h in
      record {
        endpoint = b.endpoint;
        silence = b.silence;
        base = b.base;
        submitted = omega (arith, k.submitted);
        completed = omega (arith, k.completed);
        bytes-submitted = omega (arith, k.bytes-submitted);
        bytes-transferred = omega (arith, k.bytes-transferred);
        short-bytes = omega (arith, k.short-bytes);
        packet-errors = omega (arith, k.packet-errors);
        urb-errors = omega (arith, k.urb-errors);
        underruns = omega (arith, k.underruns);
      }

  reads-after : (h : List Call) (rest : List ℕ) → Reads s (ledger_after s h) (ledger_image s (ledger_after s h) ++ rest)
  reads-after h rest = round_trip s (ledger_after s h) b.ok (valid-after s b.ok h) (fits_after h) rest

  -- the image after a list, read
  in-step-after : (h : List Call) → InStep s (record_in (ledger_image s (ledger_after s h))) (ledger_after s h)
  in-step-after h =
      subst (λ (bytes : List ℕ). InStep s (record_in bytes) (ledger_after s h)) (append-nil (ledger_image s (ledger_after s h)))
      (record { setup = reads.setup; ok = image-sound _ reads.is; wide = reads.wide; shown = reads.ledger })
    where
      reads : Reads s (ledger_after s h) (ledger_image s (ledger_after s h) ++ [])
      reads = reads-after h []

  -- a call on the image as the list left it
  pub call-is : (h : List CCall) → image_after first h ≡ ledger_image s (ledger_after s (calls_of h)) → (c : CCall) → made_from_c c.call (image_after first h ++ c.rest) c.out ≡ says s (ledger_after s (calls_of h)) c.call c.rest c.out
  call-is h image c =
      ap (λ (bytes : List ℕ). made_from_c c.call (bytes ++ c.rest) c.out) image
      ∙ made-is s (ledger_after s (calls_of h)) c.rest (reads-after (calls_of h) c.rest) c.call c.out

  pub image-after : (h : List CCall) → image_after first h ≡ ledger_image s (ledger_after s (calls_of h))
  unfolding image_after ledger_after calls_of told
  image-after [] = b.image
  image-after (c ∷ h) =
      let l = ledger_after s (calls_of h) in
      let n = rule_from_c c.call s l (lent_to c.call) in
      let long : length (ledger_image s n.ledger) ≡ length (image_after first h) =
      ledger-image-long s n.ledger ∙ sym (ledger-image-long s l) ∙ ap length (sym (image-after h)) in
      ap (λ (x : FromC). take (length (image_after first h)) x.image) (call-is h (image-after h) c)
      ∙ take_at (ledger_image s n.ledger) c.rest (length (image_after first h)) long
      ∙ ap (ledger_image s) (rule-in-numbers c.call s l).ledger

  -- the record that it shows is in step with the ledger
  pub in-step-image : (h : List CCall) → InStep s (record_in (image_after first h)) (ledger_after s (calls_of h))
  in-step-image h = rw (image-after h) (in-step-after (calls_of h))

  pub logs-from-c : (h : List CCall) → c_log first h ≡ ledger_clog s h
  unfolding c_log ledger_clog
  logs-from-c [] = refl
  logs-from-c (c ∷ h) = ap₂ (λ (x : FromC) (before : List FromC). x ∷ before) (call-is h (image-after h) c) (logs-from-c h)
