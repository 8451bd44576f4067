-- The loop's invariant: the headers 0 to i-1 are stored in the cleared block.
use mathlib.Core.Path.{◌≡◌}
use lib.ListN.{replicate}
use Rattle.layout.specs.Opening.{total_of}
use Rattle.opening.specs.Open.{with_headers}
use Rattle.opening.proofs.init_headers.Given as goal

abbrev pub invariant-loop-i : goal.invariant-loop-i
invariant-loop-i l = l.block ≡ with_headers l.setup l.i (replicate (total_of l.setup) 0)
