-- The slot in hand, sent: Sending has the slot that Held had, so the ring is as it was. Assumes nothing.
use mathlib.Core.Path.{◌≡◌, refl, sym, ap}
use mathlib.Core.Bool.{true}
use Prim.Native.Nat.{ℕ}
use Rattle.ring.specs.declared.Hand.{Hand}
use Rattle.ring.specs.declared.Ring.{Ring}
use Rattle.ring.specs.Slots.{holds}
use Rattle.ring.proofs.Wide.{Wide}
use Rattle.stream.specs.declared.Stream.{Stream}
use Rattle.stream.specs.Parts.{with_state}
use Rattle.stream.specs.Sound.{sound}
use Rattle.ledger.specs.Ledger.{with_hand}
use Rattle.ledger.specs.Record.{view, stored}
use Rattle.ledger.proofs.Rings.{ring-kept}

pub sent : (s : Stream) → sound s ≡ true → Wide s.ring → (i : ℕ) → s.hand ≡ Hand.Held i → with_state s s.ring (Hand.Sending i) s.flags s.stats ≡ stored s (with_hand (Hand.Sending i) (view s))
unfolding stored with_hand view holds
sent s ok wide i held =
    ap (λ (r : Ring). with_state s r (Hand.Sending i) s.flags s.stats)
    (sym (ring-kept s ok wide (with_hand (Hand.Sending i) (view s)) (λ j. rw held) refl refl))
