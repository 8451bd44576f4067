-- A base that is no multiple of 64 is bad at once; else the block's last byte decides.
use Rattle.std.proofs.Common.{◌%◌, arith, ne_eqb}
use Rattle.layout.specs.Opening.{bad_base}
use Rattle.layout.proofs.Addresses.{masked_below, bad_last}
use Rattle.layout.proofs.bad_base.Goals as goal

pub returns-then-base-ne0 : goal.returns-then-base-ne0
unfolding bad_base
returns-then-base-ne0 c = rw (ne_eqb (c.args.base % 64) 0 (omega arith))

pub overflow_sub-result-2 : goal.overflow_sub-result-2
overflow_sub-result-2 c = omega (arith, masked_below c.args.tagged c.args.base (omega arith))

pub returns : goal.returns
returns c = rw (c.last_address.ensures, c.masked.ensures) (bad_last _ _ _ (omega arith) (omega arith) (omega arith))
