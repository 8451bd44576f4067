-- Demand 3 for calls from C: what holds of every list of them on a ring that C opened.
use Rattle.std.specs.Prelude.{ℕ, List, ◌≡◌}
use Rattle.layout.specs.declared.Setup.{Setup}
use Rattle.history.specs.Demand3.{HoldsAfter}
use Rattle.image.specs.Reading.{record_in}
use Rattle.c_history.specs.Calls.{CCall, calls_of, image_after, c_log, ledger_clog}

-- After each call returned number, image, block or list and the eight numbers are the ledger's, and what stands behind the image is as it
-- was; and the record that the last image shows is as the sentences about the list say.
pub record Demand3FromC (s : Setup) (first : List ℕ) (h : List CCall) : Type 0 where
  pub log : c_log first h ≡ ledger_clog s h
  pub after : HoldsAfter s (calls_of h) (record_in (image_after first h))
