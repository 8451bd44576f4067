-- The loop of `image::write::put_queue`: the first i places are stored, one store of them all.
use mathlib.Core.Path.{◌≡◌}
use lib.ListN.{length, take}
use Rattle.sys.specs.Bytes.{store}
use Rattle.ring.specs.Counts.{table}
use Rattle.encoding.specs.Words.{words}
use Rattle.encoding.proofs.Laid.{entry}
use Rattle.image.proofs.write.put_queue.Given as goal

abbrev pub invariant-loop-i : goal.invariant-loop-i
invariant-loop-i l =
    (length l.image ≡ length l.initial.image) × (l.image ≡ store l.at (words 4 (table (entry (take l.used l.free)) l.i)) l.initial.image)
