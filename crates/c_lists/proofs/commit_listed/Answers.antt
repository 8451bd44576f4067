-- `commit_listed`: the numbers that are read are the front of the list, and commit_packets does with it what it does
-- with the list. Assumes nothing.
use mathlib.Core.Path.{refl}
use Prim.Native.Nat.{◌≤◌}
use native.Mathlib.Omega.{arith}
use lib.ListN.{replicate}
use Rattle.c_lists.proofs.Listed.{commit-listed, back_read}
use Rattle.c_lists.proofs.commit_listed.Goals as goal

pub returns : goal.returns
returns c =
    let k = c.min-count.result in
    let few : k ≤ 129 = omega arith in
    commit-listed c.args.s c.args.lengths.now c.args.block.now k c.min-count.ensures _
    (back_read 129 k few (replicate 129 0) refl c.get_words.new.values c.get_words.auto.values _ c.get_words.ensures)
    _ _ c.commit_packets.ensures
