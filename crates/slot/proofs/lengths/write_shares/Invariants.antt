-- `slot::lengths::write_shares` meets its contract. What holds at each iteration: storing the descriptors that are left at the
-- place reached gives the block that the contract asks for. An iteration stores the first of them. Assumes nothing.
use mathlib.Core.Path.{◌≡◌}
use Prim.Native.Nat.{◌+◌, ◌-◌, ◌*◌, ◌≤◌}
use lib.ListN.{length}
use Rattle.sys.specs.Bytes.{store}
use Rattle.sys.specs.Descriptor.{desc_size}
use Rattle.ledger.specs.Slot.{shares, descriptors}
use Rattle.slot.proofs.lengths.write_shares.Given as goal

abbrev pub invariant-loop-k : goal.invariant-loop-k
invariant-loop-k l =
    (l.rest ≤ l.bytes)
    × (length l.block ≡ length l.initial.block)
    × (store (l.at + desc_size * l.k) (descriptors (shares (l.packets - l.k) l.most l.rest)) l.block ≡ store l.at (descriptors (shares l.packets l.most l.bytes)) l.initial.block)
