-- What a call from C does, by its rule: the record is lent as the bytes of its image.
use Rattle.std.specs.Prelude.{ℕ, ◌≤◌, true, cond, List, [], ◌≡◌, eqb, length}
use Rattle.error.specs.declared.Error.{Error}
use Rattle.sys.specs.Bytes.{store}
use Rattle.stream.specs.declared.Answer.{Answer}
use Rattle.stream.specs.declared.Reply.{Reply}
use Rattle.stream.specs.declared.Stream.{Stream}
use Rattle.stream.specs.Numbers.{numbers_of}
use Rattle.stream.specs.Sound.{sound}
use Rattle.ledger.specs.Step.{Rule}
use Rattle.ledger.specs.Record.{view, call}
use Rattle.image.specs.Image.{image, ledger_image}
use Rattle.image.specs.Reading.{record_in, is_image, image_size}
use Rattle.from_c.specs.Told.{FromC, told}

-- 31: image and block untouched.
unfoldable pub not_an_image : List ℕ → List ℕ → List ℕ → FromC
not_an_image bytes lent out = told (Answer.Refused Error.NotAnImage) bytes lent out

-- 31 exactly when the bytes don't begin with the image of a sound record; else the rule decides, and the image of the ledger that it leaves
-- takes the old one's place.
unfoldable pub from_c : Rule → List ℕ → List ℕ → List ℕ → FromC
from_c rule bytes lent out =
    let r = record_in bytes in
    let next = rule r.setup (view r) lent in
    cond (is_image bytes)
    (told next.answer (store 0 (ledger_image r.setup next.ledger) bytes) next.lent out)
    (not_an_image bytes lent out)

-- What is made of a call's reply: a record that 8 refuses had no image. Only internal functions promise this.
unfoldable pub answered_by : Reply → List ℕ → List ℕ → FromC
answered_by r bytes out =
    cond (eqb (numbers_of r.answer).number 8) (not_an_image bytes [] out)
    (told r.answer (store 0 (image r.stream) bytes) [] out)

-- A reply that is not 8 has a sound record, whose image the buffer has room for. Only internal functions ask for it.
pub record Writable (r : Reply) (bytes : List ℕ) : Type 0 where
  pub sound : ((numbers_of r.answer).number ≡ 8 → ⊥) → sound r.stream ≡ true
  pub room : ((numbers_of r.answer).number ≡ 8 → ⊥) → image_size r.stream.setup.slots ≤ length bytes

-- What a call by this rule gives on a record, as Told has it of the table's rows. Only internal functions promise this.
pub record Called (rule : Rule) (s : Stream) (given : List ℕ) (r : Reply) (left : List ℕ) : Type 0 where
  pub answer : numbers_of r.answer ≡ numbers_of (call rule s given).answer
  pub stream : r.stream ≡ (call rule s given).stream
  pub lent : left ≡ (call rule s given).lent
