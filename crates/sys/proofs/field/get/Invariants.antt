-- At each iteration, the value is the number in the bytes from the place reached to the field's end.
use Rattle.std.proofs.Common.{◌≡◌, ◌+◌, ◌-◌, ◌<◌, ◌^◌}
use Rattle.sys.specs.Bytes.{field}
use Rattle.sys.proofs.field.get.Given as goal

abbrev pub invariant-loop-i : goal.invariant-loop-i
invariant-loop-i l = record {
  read : l.value ≡ field (l.at + l.i) (l.width - l.i) l.s;
  below : l.value < 256 ^ (l.width - l.i);
}
