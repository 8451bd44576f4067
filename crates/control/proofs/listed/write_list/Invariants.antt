-- `control::listed::write_list` meets its contract. The loop's invariant: the first k numbers are written, and the list's rest is as it
-- was. Assumes nothing.
use mathlib.Core.Path.{◌≡◌}
use lib.Seq.{paste}
use Rattle.control.proofs.listed.write_list.Given as goal

abbrev pub invariant-loop-k : goal.invariant-loop-k
invariant-loop-k l = l.list ≡ paste l.initial.list 0 l.numbers l.k
