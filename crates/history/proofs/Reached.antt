-- What calls that keep their promise reach is what the table's rows make: Told gives the record. Assumes nothing.
use mathlib.Core.Path.{◌≡◌, refl, ap, ◌∙◌}
use mathlib.Core.List.{List, [], ◌∷◌, ◌++◌}
use Rattle.stream.specs.declared.Stream.{Stream}
use Rattle.ledger.specs.Calls.{Call, made}
use Rattle.history.specs.History.{record_after}
use Rattle.history.specs.Reached.{Reached, none, next}

pub reached-is : {first r : Stream} {h : List Call} → Reached first h r → r ≡ record_after first h
unfolding record_after
reached-is none = refl
reached-is (next {c = c} p t) = t.stream ∙ ap (λ (x : Stream). (made c x).stream) (reached-is p)

-- a list of calls after another
pub after-append : (first : Stream) (since before : List Call) → record_after first (since ++ before) ≡ record_after (record_after first before) since
unfolding record_after
after-append first [] before = refl
after-append first (c ∷ since) before = ap (λ (x : Stream). (made c x).stream) (after-append first since before)
