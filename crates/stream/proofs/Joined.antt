-- Refusal 8's test of a record, made in pieces, is `sound`: the setup's, and the ring's (ring/proofs/Joined) where the setup is admissible.
-- What a test says that joins the pieces itself. Assumes nothing.
use mathlib.Core.Path.{◌≡◌, refl}
use mathlib.Core.Bool.{Bool, true, false, ◌&&◌}
use Rattle.std.specs.Prelude.{Option, length}
use Rattle.mask.specs.declared.Mask.{Mask}
use Rattle.layout.specs.Opening.{admissible}
use Rattle.layout.proofs.Admission.{admits}
use Rattle.ring.specs.Parts.{queue_of}
use Rattle.ring.specs.Sound.{sound_ring}
use Rattle.ring.specs.Tests.{hand_test, home_of, out_test, count_test}
use Rattle.ring.proofs.Joined as Ring
use Rattle.stream.specs.declared.Stream.{Stream}
use Rattle.stream.specs.Sound.{sound}

module _ (s : Stream) (places : length s.ring.free ≡ 256) (home : Option Mask) (is : home ≡ home_of s.setup.slots s.ring.states.filling s.ring.free_len (queue_of s.ring)) where
  whole : (ok : Bool) → admissible s.setup ≡ ok →
      (((ok && hand_test s.setup.slots s.ring s.hand) && out_test s.setup.slots s.ring home) && count_test s.setup.slots s.ring s.hand)
      ≡ (ok && sound_ring s.setup.slots s.ring s.hand)
  whole true e = Ring.joined s.setup.slots (admits s.setup e).limits.slots s.ring s.hand places home is
  whole false e = refl

  pub joined : {a h o c : Bool} → a ≡ admissible s.setup → h ≡ hand_test s.setup.slots s.ring s.hand → o ≡ out_test s.setup.slots s.ring home → c ≡ count_test s.setup.slots s.ring s.hand
      → (((a && h) && o) && c) ≡ sound s
  unfolding sound
  joined ea eh eo ec = rw (ea, eh, eo, ec) (whole (admissible s.setup) refl)
