-- `slot::lengths::write_lengths` meets its contract. What holds at each iteration: storing the descriptors of the lengths left at the
-- place reached gives the block that the contract asks for. An iteration stores the first of them. Assumes nothing.
use mathlib.Core.Path.{◌≡◌}
use Prim.Native.Nat.{◌+◌, ◌*◌}
use lib.ListN.{length, drop}
use Rattle.sys.specs.Bytes.{store}
use Rattle.sys.specs.Descriptor.{desc_size}
use Rattle.ledger.specs.Slot.{descriptors}
use Rattle.slot.proofs.lengths.write_lengths.Given as goal

abbrev pub invariant-loop-k : goal.invariant-loop-k
invariant-loop-k l =
    (length l.block ≡ length l.initial.block) × (store (l.at + desc_size * l.k) (descriptors (drop l.k l.lengths)) l.block ≡ store l.at (descriptors l.lengths) l.initial.block)
