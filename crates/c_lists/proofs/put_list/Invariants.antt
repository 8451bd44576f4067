-- `put_list`: the loop's invariant: the first i numbers are stored, one store of them all.
use mathlib.Core.Path.{◌≡◌}
use Rattle.sys.specs.Bytes.{store}
use Rattle.ring.specs.Counts.{table}
use Rattle.encoding.specs.Words.{words}
use Rattle.encoding.proofs.Laid.{entry}
use Rattle.c_lists.proofs.put_list.Given as goal

abbrev pub invariant-loop-i : goal.invariant-loop-i
invariant-loop-i l = l.bytes ≡ store 0 (words 8 (table (entry l.values) l.i)) l.initial.bytes
