-- 33 stands last among the limits, so where those before it pass it refuses; and a setup within the limits has another f. Assumes nothing.
use mathlib.Core.Bool.{Bool, true, false, true≢false}
use mathlib.Core.List.{[], ◌∷◌, ◌++◌, append_assoc}
use mathlib.Core.Option.{none, some}
use mathlib.Core.Path.{◌≡◌, refl, sym, ◌∙◌}
use Rattle.error.specs.declared.Error.{Error}
use Rattle.layout.specs.declared.Setup.{Setup}
use Rattle.layout.specs.Layout.{sizes, bad_frame, laid}
use Rattle.layout.specs.Opening.{limits, admissible}
use Rattle.layout.specs.Tests.{first}
use Rattle.layout.proofs.Admission.{admits}
use Rattle.layout.proofs.Frames.{frame-passes}
use Rattle.layout.proofs.Refusals.{first-early, first-late}
use Rattle.opening.specs.Refusals.{refusal_of, opens}
use Rattle.stream.specs.Sound.{sound}
use Rattle.frames.specs.Before.{limits_before}
use Rattle.frames.specs.Refused.{has_bad_frame, Refused33}

-- 33 is the last of the limits
pub last-limit : (s : Setup) → limits s ≡ limits_before s ++ (bad_frame s.packet_bytes s.frame_bytes, Error.FrameSize) ∷ []
unfolding limits limits_before
last-limit s = sym (append_assoc (sizes s.slots s.packets_per_urb s.packet_bytes) _ _)

module _ (s : Setup) (bad : has_bad_frame s ≡ true) where
  refuses : first (limits_before s) ≡ none → first (limits s) ≡ some Error.FrameSize
  unfolding first
  refuses h = rw (last-limit s, first-late _ _ h, bad)

  never : admissible s ≡ true → admissible s ≡ false
  never a =
      let l = (admits s a).limits in
      absurd (true≢false (sym bad ∙ frame-passes s.packet_bytes s.frame_bytes l.some-frame l.frame))

  not-admissible : admissible s ≡ false
  not-admissible = by (admissible s) refl
    where
      by : (t : Bool) → admissible s ≡ t → admissible s ≡ false
      by true e = never e
      by false e = e

pub refused-33 : Refused33
unfolding opens refusal_of laid sound
refused-33 =
    record {
      opening = λ s len bad h. rw (first-early (limits s) _ _ (refuses s bad h));
      record-8 = λ r bad. rw (not-admissible r.setup bad);
    }
