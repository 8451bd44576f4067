-- What a sound record says of its setup and of its ring.
-- Assumes nothing.
use mathlib.Core.Path.{◌≡◌}
use mathlib.Core.Bool.{true}
use Rattle.layout.specs.Opening.{admissible}
use Rattle.ring.specs.Sound.{sound_ring}
use Rattle.ring.proofs.Truth.{first, second}
use Rattle.ring.proofs.Sound.{Sound, sound-facts}
use Rattle.stream.specs.declared.Stream.{Stream}
use Rattle.stream.specs.Sound.{sound}

module _ (s : Stream) (ok : sound s ≡ true) where
  pub setup-admissible : admissible s.setup ≡ true
  unfolding sound
  setup-admissible = first (admissible s.setup) (sound_ring s.setup.slots s.ring s.hand) ok

  pub ring-sound : Sound s.setup.slots s.ring s.hand
  unfolding sound
  ring-sound =
      sound-facts _ _ _ (second (admissible s.setup) (sound_ring s.setup.slots s.ring s.hand) ok)
