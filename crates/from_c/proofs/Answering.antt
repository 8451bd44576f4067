-- What a call from C has to show, once for every call: 31 where the bytes are not the image of a sound record, since
-- the call by value gave 8 on what was read; else the rule's outcome, since no rule answers 8 and the record that is stored shows the rule's ledger. Assumes nothing.
use Prim.Native.Nat.{ℕ, ◌≤◌}
use native.Mathlib.Omega.{arith}
use mathlib.Core.Path.{◌≡◌, refl, sym, ap, ap₂, ◌∙◌}
use mathlib.Core.Bool.{Bool, true, false, cond, ◌&&◌, false≢true}
use mathlib.Core.List.{List, [], ◌∷◌, map}
use borrow.Author.Tests.{le-leb, eq-eqb, ne_eqb}
use lib.Dec.{leb}
use lib.ListN.{length}
use Rattle.layout.specs.declared.Setup.{Setup}
use Rattle.ring.proofs.Truth.{both, first, second, refuted}
use Rattle.ring.proofs.Wide.{Wide}
use Rattle.sys.specs.Bytes.{store}
use Rattle.stream.specs.declared.Answer.{Answer}
use Rattle.stream.specs.declared.Reply.{Reply}
use Rattle.stream.specs.declared.Stream.{Stream}
use Rattle.stream.specs.Numbers.{Numbers, numbers_of}
use Rattle.stream.specs.Sound.{sound}
use Rattle.stream.proofs.Soundness.{ring-sound, setup-admissible}
use Rattle.opening.specs.Opened.{no_stream}
use Rattle.opening.proofs.Fresh.{no-stream-unsound}
use Rattle.ledger.specs.Ledger.{Ledger}
use Rattle.ledger.specs.Step.{Next, Rule}
use Rattle.ledger.specs.Record.{view, stored, call}
use Rattle.ledger.specs.Calls.{Call, turn, commit, commit_full, commit_packets, submitted, reaped, give_back, start, stop, finish, rule, lent_to, step_of, made}
use Rattle.ledger.specs.Told.{Told}
use Rattle.ledger.proofs.Calls.{stored-setup}
use Rattle.ledger.proofs.Numbered.{never-8}
use Rattle.ledger.proofs.Shown.{stored-shown}
use Rattle.ledger.proofs.Steps.{step-valid}
use Rattle.ledger.proofs.Valid.{Valid, sound-valid, stored-sound}
use Rattle.encoding.specs.Words.{places, written, list_in}
use Rattle.image.specs.Image.{image, image_of, ledger_image}
use Rattle.image.specs.Reading.{image_size, setup_in, record_in, matches, is_image}
use Rattle.encoding.proofs.Bytes.{begins-long}
use Rattle.image.proofs.Matches.{record-wide}
use Rattle.image.proofs.Sizes.{record-image-long}
use Rattle.from_c.specs.Told.{FromC, unsigned64, eight_of, told, Returned}
use Rattle.from_c.specs.FromC.{from_c, not_an_image, answered_by, Writable, Called}
use Rattle.from_c.specs.Calls.{on_list, rule_from_c, made_from_c}

-- C is told the same of answers with the same numbers
pub same-told : (a b : Answer) (image lent out : List ℕ) → numbers_of a ≡ numbers_of b → told a image lent out ≡ told b image lent out
unfolding told eight_of
same-told a b image lent out e =
    λ i. record { returned = (e i).number; image = image; lent = lent; out = written (places 8 ((e i).kind ∷ map unsigned64 (e i).values)) out }

-- the rules of calls from C keep ledgers valid and don't answer 8
pub kept : (c : Call) (n : ℕ) (s : Setup) (l : Ledger) → Valid n l → Valid n (rule_from_c c s l (lent_to c)).ledger
unfolding rule_from_c on_list lent_to step_of rule
kept (turn block) n s l v = step-valid n s (turn block) l v
kept (commit bytes block) n s l v = step-valid n s (commit bytes block) l v
kept (commit_full block) n s l v = step-valid n s (commit_full block) l v
kept (commit_packets lengths block) n s l v = step-valid n s (commit_packets (list_in lengths) block) l v
kept (submitted reply block) n s l v = step-valid n s (submitted reply block) l v
kept (reaped reply block) n s l v = step-valid n s (reaped reply block) l v
kept give_back n s l v = step-valid n s give_back l v
kept start n s l v = step-valid n s start l v
kept (stop list) n s l v = step-valid n s (stop (list_in list)) l v
kept finish n s l v = step-valid n s finish l v

never : (c : Call) (s : Setup) (l : Ledger) → (numbers_of (rule_from_c c s l (lent_to c)).answer).number ≡ 8 → ⊥
unfolding rule_from_c on_list lent_to step_of rule
never (turn block) s l = never-8 s (turn block) l
never (commit bytes block) s l = never-8 s (commit bytes block) l
never (commit_full block) s l = never-8 s (commit_full block) l
never (commit_packets lengths block) s l = never-8 s (commit_packets (list_in lengths) block) l
never (submitted reply block) s l = never-8 s (submitted reply block) l
never (reaped reply block) s l = never-8 s (reaped reply block) l
never give_back s l = never-8 s give_back l
never start s l = never-8 s start l
never (stop list) s l = never-8 s (stop (list_in list)) l
never finish s l = never-8 s finish l

-- a call whose row C has as it is
told-called : (c : Call) → rule_from_c c ≡ rule c → (s : Stream) (r : Reply) (left : List ℕ) → Told c s r.answer r.stream left → Called (rule_from_c c) s (lent_to c) r left
unfolding made
told-called c e s r left t =
    record {
      answer = t.answer ∙ ap (λ (x : Rule). numbers_of (call x s (lent_to c)).answer) (sym e);
      stream = t.stream ∙ ap (λ (x : Rule). (call x s (lent_to c)).stream) (sym e);
      lent = t.lent ∙ ap (λ (x : Rule). (call x s (lent_to c)).lent) (sym e);
    }

-- what reading gave
abbrev pub Given : List ℕ → Stream → Type 0
Given bytes s = s ≡ cond (leb (setup_in bytes).slots 256 && matches bytes) (record_in bytes) no_stream

-- a record that is not sound was read where the bytes are no image of a sound one
unread : (bytes : List ℕ) (s : Stream) → Given bytes s → is_image bytes ≡ false → sound s ≡ false
unfolding is_image
unread bytes s is off = refuted (sound s) (λ ok. go ok (leb (setup_in bytes).slots 256) (matches bytes) refl refl)
  where
    clash : (b : Bool) → b ≡ false → b ≡ true → ⊥
    clash b p q = false≢true (sym p ∙ q)

    go : sound s ≡ true → (few match : Bool) → leb (setup_in bytes).slots 256 ≡ few → matches bytes ≡ match → ⊥
    go ok true true e m = clash (is_image bytes) off (both _ _ (ap sound (sym (is ∙ rw (e, m))) ∙ ok) m)
    go ok true false e m = clash (sound no_stream) no-stream-unsound (ap sound (sym (is ∙ rw (e, m))) ∙ ok)
    go ok false match e m = clash (sound no_stream) no-stream-unsound (ap sound (sym (is ∙ rw e)) ∙ ok)

module _ (c : Call) (bytes : List ℕ) (s : Stream) (is : Given bytes s) (reply : Reply) (left : List ℕ) (called : Called (rule_from_c c) s (lent_to c) reply left) where
  -- no image: 8, and what was lent is as it was
  module _ (off : is_image bytes ≡ false) where
    eight : (numbers_of reply.answer).number ≡ 8
    unfolding call numbers_of
    eight = ap (λ (x : Numbers). x.number) called.answer ∙ rw (unread bytes s is off)

    kept-lent : left ≡ lent_to c
    unfolding call
    kept-lent = called.lent ∙ rw (unread bytes s is off)

  next : Next
  next = rule_from_c c (record_in bytes).setup (view (record_in bytes)) (lent_to c)

  -- an image: the rule's outcome
  module _ (on : is_image bytes ≡ true) where
    ok : sound (record_in bytes) ≡ true
    unfolding is_image
    ok = first (sound (record_in bytes)) (matches bytes) on

    match : matches bytes ≡ true
    unfolding is_image
    match = second (sound (record_in bytes)) (matches bytes) on

    few : (setup_in bytes).slots ≤ 256
    unfolding record_in
    few = (ring-sound (record_in bytes) ok).few

    wide : Wide (record_in bytes).ring
    wide = record-wide bytes few

    read : s ≡ record_in bytes
    read = is ∙ rw (le-leb (setup_in bytes).slots 256 few, match)

    valid : Valid (record_in bytes).setup.slots next.ledger
    unfolding next
    valid = kept c (record_in bytes).setup.slots (record_in bytes).setup (view (record_in bytes)) (sound-valid (record_in bytes) ok wide)

    answers : numbers_of reply.answer ≡ numbers_of next.answer
    unfolding call next
    answers = called.answer ∙ rw (read, ok)

    stores : reply.stream ≡ stored (record_in bytes) next.ledger
    unfolding call next
    stores = called.stream ∙ rw (read, ok)

    leaves : left ≡ next.lent
    unfolding call next
    leaves = called.lent ∙ rw (read, ok)

    not_eight : (numbers_of reply.answer).number ≡ 8 → ⊥
    unfolding next
    not_eight e = never c (record_in bytes).setup (view (record_in bytes)) (sym (ap (λ (x : Numbers). x.number) answers) ∙ e)

    still-sound : sound reply.stream ≡ true
    still-sound = rw stores (stored-sound (record_in bytes) next.ledger valid (setup-admissible (record_in bytes) ok) wide)

    room : image_size reply.stream.setup.slots ≤ length bytes
    unfolding matches
    room =
        rw (stores, stored-setup (record_in bytes) next.ledger)
        (omega (arith, begins-long (image (record_in bytes)) bytes match, record-image-long (record_in bytes)))

    shows : image reply.stream ≡ ledger_image (record_in bytes).setup next.ledger
    unfolding image ledger_image
    shows =
        ap image stores
        ∙ ap₂ image_of (stored-setup (record_in bytes) next.ledger) (stored-shown (record_in bytes) next.ledger valid (setup-admissible (record_in bytes) ok) wide)

  -- what telling the reply asks for
  pub writable : Writable reply bytes
  writable = record { sound = λ not-8. go-sound not-8 (is_image bytes) refl; room = λ not-8. go-room not-8 (is_image bytes) refl }
    where
      go-sound : ((numbers_of reply.answer).number ≡ 8 → ⊥) → (b : Bool) → is_image bytes ≡ b → sound reply.stream ≡ true
      go-sound not-8 true e = still-sound e
      go-sound not-8 false e = absurd (not-8 (eight e))

      go-room : ((numbers_of reply.answer).number ≡ 8 → ⊥) → (b : Bool) → is_image bytes ≡ b → image_size reply.stream.setup.slots ≤ length bytes
      go-room not-8 true e = room e
      go-room not-8 false e = absurd (not-8 (eight e))

  -- and what it gives
  module _ (out : List ℕ) where
    from-off : is_image bytes ≡ false → made_from_c c bytes out ≡ not_an_image bytes (lent_to c) out
    unfolding made_from_c from_c
    from-off off = rw off

    answered-off : is_image bytes ≡ false → answered_by reply bytes out ≡ not_an_image bytes [] out
    unfolding answered_by
    answered-off off = rw (eq-eqb _ 8 (eight off))

    from_on : is_image bytes ≡ true → made_from_c c bytes out ≡ told next.answer (store 0 (ledger_image (record_in bytes).setup next.ledger) bytes) next.lent out
    unfolding made_from_c from_c next
    from_on on = rw on

    answered-on : is_image bytes ≡ true → answered_by reply bytes out ≡ told next.answer (store 0 (ledger_image (record_in bytes).setup next.ledger) bytes) [] out
    unfolding answered_by
    answered-on on =
        rw (ne_eqb _ 8 (not_eight on))
        (ap (λ (b : List ℕ). told reply.answer (store 0 b bytes) [] out) (shows on)
        ∙ same-told reply.answer next.answer (store 0 (ledger_image (record_in bytes).setup next.ledger) bytes) [] out (answers on))

  -- the same, but for what was lent
  moved : (a : Answer) (i l out : List ℕ) (f g : FromC) (n : ℕ) (image' out' : List ℕ) → f ≡ told a i [] out → g ≡ told a i l out → left ≡ l
      → Returned f n image' [] out' → Returned g n image' left out'
  unfolding told
  moved a i l out f g n image' out' e p q t =
      record {
        returned = t.returned ∙ ap (λ (x : FromC). x.returned) (e ∙ sym (ap (λ (x : FromC). record { returned = x.returned; image = x.image; lent = []; out = x.out }) p));
        image = t.image ∙ ap (λ (x : FromC). x.image) (e ∙ sym (ap (λ (x : FromC). record { returned = x.returned; image = x.image; lent = []; out = x.out }) p));
        lent = q ∙ sym (ap (λ (x : FromC). x.lent) p);
        out = t.out ∙ ap (λ (x : FromC). x.out) (e ∙ sym (ap (λ (x : FromC). record { returned = x.returned; image = x.image; lent = []; out = x.out }) p));
      }

  pub finished : (out : List ℕ) (n : ℕ) (image' out' : List ℕ) → Returned (answered_by reply bytes out) n image' [] out' → Returned (made_from_c c bytes out) n image' left out'
  unfolding not_an_image
  finished out n image' out' t = go (is_image bytes) refl
    where
      go : (b : Bool) → is_image bytes ≡ b → Returned (made_from_c c bytes out) n image' left out'
      go true e = moved _ _ _ out _ _ n image' out' (answered-on out e) (from_on out e) (leaves e) t
      go false e = moved _ _ _ out _ _ n image' out' (answered-off out e) (from-off out e) (kept-lent e) t

-- both, of a call whose row C has as it is
pub writable_told : (c : Call) (bytes : List ℕ) (s : Stream) (r : Reply) (left : List ℕ)
    → Told c s r.answer r.stream left → Given bytes s → rule_from_c c ≡ rule c → Writable r bytes
writable_told c bytes s r left t is e = writable c bytes s is r left (told-called c e s r left t)

pub finished_told : (c : Call) (bytes : List ℕ) (s : Stream) (r : Reply) (left out : List ℕ) (n : ℕ) (image' out' : List ℕ)
    → Returned (answered_by r bytes out) n image' [] out' → Told c s r.answer r.stream left → Given bytes s → rule_from_c c ≡ rule c
    → Returned (made_from_c c bytes out) n image' left out'
finished_told c bytes s r left out n image' out' done t is e = finished c bytes s is r left (told-called c e s r left t) out n image' out' done
