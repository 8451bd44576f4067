-- `encoding::words::get_words` meets its contract. The loop's invariant: the first i places hold the first i numbers of the bytes, the others are as they were.
-- Assumes nothing.
use mathlib.Core.Path.{◌≡◌}
use mathlib.Core.List.{List, ◌++◌}
use Prim.Native.Nat.{ℕ, ◌+◌, ◌*◌}
use lib.ListN.{drop}
use Rattle.sys.specs.Bytes.{field}
use Rattle.ring.specs.Counts.{table}
use Rattle.encoding.proofs.words.get_words.Given as goal

unfoldable pub number : List ℕ → ℕ → ℕ
number bytes i = field (0 + 8 * i) 8 bytes

abbrev pub invariant-loop-i : goal.invariant-loop-i
invariant-loop-i l = l.values ≡ table (number l.bytes) l.i ++ drop l.i l.initial.values
