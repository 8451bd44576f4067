-- `ring::slot_numbers`: a round writes one number more.
use Rattle.std.proofs.Common.{◌≡◌, arith, rules, length-set, length-take-le}
use Rattle.ring.proofs.Numbers.{numbers-none, numbers-next, numbers-all}
use Rattle.ring.proofs.slot_numbers.Goals as goal

pub loop-i-init : goal.loop-i-init
loop-i-init c = (search (rules, length-take-le), numbers-none c.args.n 256 c.requires)

pub loop-i-preserved : goal.loop-i-preserved
loop-i-preserved c =
    let n = c.loop-i.invariant.0 in
    (simp length-set n, rw c.loop-i.invariant.1 (numbers-next c.loop-i.i c.args.n (omega (arith, n))))

pub returns : goal.returns
returns c =
    let e : c.loop-i.i ≡ c.args.n = omega (arith, c.loop-i.invariant.0) in
    rw (c.loop-i.invariant.1, e) (numbers-all c.args.n 256)
