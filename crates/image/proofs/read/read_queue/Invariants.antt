-- The loop of `image::read::read_queue`: the first i places are read, a byte of each number, and zeros stand behind them.
use mathlib.Core.Path.{◌≡◌}
use mathlib.Core.List.{◌++◌, map}
use Prim.Native.Nat.{◌-◌, ◌%◌}
use lib.ListN.{length, replicate}
use Rattle.encoding.specs.Words.{numbers_at}
use Rattle.image.specs.Reading.{queue_at}
use Rattle.image.proofs.read.read_queue.Given as goal

abbrev pub invariant-loop-i : goal.invariant-loop-i
invariant-loop-i l =
    (length l.place-items ≡ l.n)
    × (l.at ≡ queue_at l.n)
    × (l.place-items ≡ map (λ v. v % 256) (numbers_at 4 l.i (queue_at l.n) l.image) ++ replicate (l.n - l.i) 0)
