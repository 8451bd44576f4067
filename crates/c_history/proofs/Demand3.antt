-- Demand 3 for calls from C, for every ring that C opened and every list of calls: opening leaves the image of the opened ledger (Opened), the calls
-- keep the image of the ledger (AfterC), and the record in it is in step with the ledger, of which history proves the rest. Assumes nothing.
use Prim.Native.Nat.{ℕ, ◌^◌, ◌<◌}
use mathlib.Core.Path.{◌≡◌}
use mathlib.Core.List.{List}
use lib.ListN.{take, get_or}
use Rattle.layout.specs.Numbers.{setup_from}
use Rattle.history.proofs.Holds.{holds_after}
use Rattle.image.specs.Reading.{image_size, record_in}
use Rattle.c_open.specs.Open.{open_from_c}
use Rattle.c_history.specs.Calls.{CCall, calls_of, image_after}
use Rattle.c_history.specs.Demand3.{Demand3FromC}
use Rattle.c_history.proofs.Opened.{begins}
use Rattle.c_history.proofs.AfterC.{in-step-image, logs-from-c}

-- THE THEOREM: demand 3 for calls from C, wherever opening from C returns 0, for every list of calls.
pub demand-3-from-c :
    (numbers block buffer out : List ℕ) → get_or numbers 6 0 < 2 ^ 64 → (open_from_c numbers block buffer out).returned ≡ 0 →
    (h : List CCall) → Demand3FromC (setup_from numbers) (take (image_size (setup_from numbers).slots) (open_from_c numbers block buffer out).image) h
demand-3-from-c numbers block buffer out base done h =
    let s = setup_from numbers in
    let first = take (image_size s.slots) (open_from_c numbers block buffer out).image in
    let b = begins numbers block buffer out base done in
    record {
      log = logs-from-c s first b h;
      after = holds_after s b.ok (calls_of h) (record_in (image_after first h)) (in-step-image s first b h);
    }
