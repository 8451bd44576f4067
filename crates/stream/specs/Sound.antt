-- Refusal 8: what a record must not break.
use Rattle.std.specs.Prelude.{Bool, ◌&&◌}
use Rattle.stream.specs.declared.Stream.{Stream}
use Rattle.layout.specs.Opening.{admissible}
use Rattle.ring.specs.Sound.{sound_ring}

-- Opening's layout, limits and base; then queue, out count and hand.
unfoldable pub sound : Stream → Bool
sound s = admissible s.setup && sound_ring s.setup.slots s.ring s.hand
