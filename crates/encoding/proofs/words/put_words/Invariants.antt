-- `encoding::words::put_words` meets its contract. The loop's invariant: the first i numbers are stored, one store of them all; a number more is one store
-- more behind it. Assumes nothing.
use mathlib.Core.Path.{◌≡◌}
use Prim.Native.Nat.{◌+◌, ◌*◌}
use Rattle.sys.specs.Bytes.{store}
use Rattle.ring.specs.Counts.{table}
use Rattle.encoding.specs.Words.{words}
use Rattle.encoding.proofs.Laid.{entry}
use Rattle.encoding.proofs.words.put_words.Given as goal

abbrev pub invariant-loop-value : goal.invariant-loop-value
invariant-loop-value l =
    (l.next ≡ l.at + l.width * l.value-index)
    × (l.bytes ≡ store l.at (words l.width (table (entry l.values) l.value-index)) l.initial.bytes)
