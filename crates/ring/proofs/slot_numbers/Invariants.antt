-- The places hold the queue 0..i-1, and zeros behind it.
use Rattle.std.proofs.Common.{◌≡◌, ◌-◌, ◌++◌, length, replicate}
use Rattle.ring.specs.Counts.{slot_numbers}
use Rattle.ring.proofs.slot_numbers.Given as goal

abbrev pub invariant-loop-i : goal.invariant-loop-i
invariant-loop-i l =
    (length l.place-items ≡ l.n) × (l.place-items ≡ slot_numbers l.i ++ replicate (l.n - l.i) 0)
