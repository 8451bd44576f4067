-- Request 2026-04: 33, f zero or above b, at opening after 5 and before 6; and 8 also meets such an f.
use Rattle.std.specs.Prelude.{ℕ, Bool, true, false, ◌≡◌, Err}
use Rattle.std.proofs.Math.Option.{none}
use Rattle.error.specs.declared.Error.{Error}
use Rattle.layout.specs.declared.Setup.{Setup}
use Rattle.layout.specs.Layout.{bad_frame}
use Rattle.layout.specs.Tests.{first}
use Rattle.opening.specs.Refusals.{opens}
use Rattle.stream.specs.declared.Stream.{Stream}
use Rattle.stream.specs.Sound.{sound}
use Rattle.frames.specs.Before.{limits_before}

-- These values have such an f.
abbrev pub has_bad_frame : Setup → Bool
has_bad_frame s = bad_frame s.packet_bytes s.frame_bytes

pub record Refused33 : Type 0 where
  -- Opening refuses them where 1, 2, 3 and 5 don't, whatever the block's length and the base.
  pub opening : (s : Setup) (len : ℕ) → has_bad_frame s ≡ true → first (limits_before s) ≡ none → opens s len ≡ Err Error.FrameSize
  -- A record with them is met by 8, whatever else it holds.
  pub record-8 : (r : Stream) → has_bad_frame r.setup ≡ true → sound r ≡ false
