-- Opening from C.
use Rattle.layout.specs.declared.RingLayout.{RingLayout}
use Rattle.error.specs.declared.Error.{Error}
use Rattle.std.specs.Prelude.{ℕ, Bool, cond, ◌||◌, List, ltb, length, get_or, Result, Ok, Err}
use Rattle.sys.specs.Bytes.{store}
use Rattle.layout.specs.declared.Setup.{Setup}
use Rattle.layout.specs.Numbers.{setup_from}
use Rattle.opening.specs.Refusals.{opens}
use Rattle.opening.specs.Open.{opened_block}
use Rattle.stream.specs.declared.Answer.{Answer}
use Rattle.ledger.specs.Ledger.{opened_ledger}
use Rattle.image.specs.Image.{ledger_image}
use Rattle.image.specs.Reading.{image_size}
use Rattle.from_c.specs.Told.{FromC, told}
use Rattle.from_c.specs.FromC.{not_an_image}

-- Opening's values are nine numbers: n, p, b, endpoint, policy, silence byte, base, tag, f. Policy or tag names none.
unfoldable pub names_none : List ℕ → Bool
names_none numbers = ltb 2 (get_or numbers 4 0) || ltb 1 (get_or numbers 7 0)

-- Opening's own refusals; then 31 for a buffer too short; else Done, with block and image written.
unfoldable pub opened_from_c : Result RingLayout Error → Setup → List ℕ → List ℕ → List ℕ → FromC
opened_from_c (Err e) s block buffer out = told (Answer.Refused e) buffer block out
opened_from_c (Ok layout) s block buffer out =
    cond (ltb (length buffer) (image_size s.slots)) (not_an_image buffer block out)
    (told Answer.Done (store 0 (ledger_image s (opened_ledger s.slots)) buffer) (opened_block s) out)

-- 31 first for a policy or tag number that names none. Block and buffer are untouched by every refusal.
unfoldable pub open_from_c : List ℕ → List ℕ → List ℕ → List ℕ → FromC
open_from_c numbers block buffer out =
    let s = setup_from numbers in
    cond (names_none numbers) (not_an_image buffer block out) (opened_from_c (opens s (length block)) s block buffer out)
