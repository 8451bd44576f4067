-- At each iteration, storing the numbers that are left at the place reached gives the slice that the contract asks for, with room.
use Rattle.std.proofs.Common.{◌≡◌, ◌+◌, ◌≤◌, drop, length}
use Rattle.sys.specs.Bytes.{laid_fields, store}
use Rattle.sys.proofs.field.lay.Given as goal

abbrev pub invariant-loop-width : goal.invariant-loop-width
invariant-loop-width l = record {
  room : l.next + length (laid_fields (drop l.width-index l.fields)) ≤ length l.s;
  to_store : store l.next (laid_fields (drop l.width-index l.fields)) l.s ≡ store l.at (laid_fields l.fields) l.fn.s;
}
