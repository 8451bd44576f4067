-- `encoding::words::has_words` meets its contract. The loop's invariant: the bytes begin with the first i numbers; they begin with one more where it stands
-- in its place, and with no more where it does not. Assumes nothing.
use mathlib.Core.Path.{◌≡◌}
use mathlib.Core.Bool.{true}
use Prim.Native.Nat.{◌+◌, ◌*◌}
use lib.ListN.{drop}
use Rattle.ring.specs.Counts.{table}
use Rattle.encoding.specs.Words.{words, begins}
use Rattle.encoding.proofs.Laid.{entry}
use Rattle.encoding.proofs.words.has_words.Given as goal

abbrev pub invariant-loop-value : goal.invariant-loop-value
invariant-loop-value l =
    (l.next ≡ l.at + l.width * l.value-index)
    × (begins (words l.width (table (entry l.values) l.value-index)) (drop l.at l.bytes) ≡ true)
