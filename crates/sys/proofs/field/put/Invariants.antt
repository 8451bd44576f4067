-- At each iteration, the bytes written so far and what is left of the number are the field's bytes; those not reached are as they were.
use Rattle.std.proofs.Common.{◌≡◌, ◌-◌, ◌++◌, take}
use Rattle.sys.specs.Bytes.{le}
use Rattle.sys.proofs.field.put.Given as goal

abbrev pub invariant-loop-byte : goal.invariant-loop-byte
invariant-loop-byte l = take l.byte-index l.byte-items ++ le (l.width - l.byte-index) l.rest ≡ le l.width l.value
