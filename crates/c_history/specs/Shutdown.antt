-- Request 2026-12 for calls from C.
use Rattle.std.specs.Prelude.{ℕ, List, [], ◌++◌, ◌≡◌}
use Rattle.layout.specs.declared.Setup.{Setup}
use Rattle.ledger.specs.Calls.{finish}
use Rattle.history.specs.Shutdown.{finish_says, ShutDown}
use Rattle.image.specs.Reading.{record_in}
use Rattle.from_c.specs.Told.{told}
use Rattle.from_c.specs.Calls.{made_from_c}
use Rattle.c_history.specs.Calls.{CCall, calls_of, image_after}

-- The records that the images show are as the request says; and a finish made next, with anything behind the image and any slice for the
-- eight numbers, tells C that and leaves the image as it is.
pub record ShutDownFromC (s : Setup) (first : List ℕ) (stopped since : List CCall) : Type 0 where
  pub after :
      ShutDown s (calls_of stopped) (calls_of since)
      (record_in (image_after first stopped))
      (record_in (image_after first (since ++ stopped)))
  pub tells :
      (rest out : List ℕ) →
      made_from_c finish (image_after first (since ++ stopped) ++ rest) out
      ≡ told (finish_says s (calls_of stopped) (calls_of since)) (image_after first (since ++ stopped) ++ rest) [] out
