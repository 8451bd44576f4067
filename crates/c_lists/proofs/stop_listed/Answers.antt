-- `stop_listed`: the numbers that are read are the front of the list, stop does with it what it does with the list, and the numbers
-- behind it stand in their bytes. Assumes nothing.
use mathlib.Core.Path.{◌≡◌, refl, ap, ◌∙◌}
use mathlib.Core.List.{List, ◌++◌}
use Prim.Native.Nat.{ℕ, ◌≤◌}
use native.Mathlib.Omega.{arith}
use borrow.Author.Rules.{rules}
use lib.ListN.{length, drop, replicate}
use Rattle.sys.specs.Bytes.{store}
use Rattle.stream.proofs.Arrays.{arrays}
use Rattle.encoding.specs.Words.{words}
use Rattle.c_lists.proofs.Listed.{stop-listed, front_long, back_long, back-front, back_read}
use Rattle.c_lists.proofs.stop_listed.Goals as goal

pub returns : goal.returns
returns c =
    let k = c.min-count.result in
    let none : List ℕ = replicate 256 0 in
    let read = c.get_words.new.values in
    let list = c.args.list.now in
    let left = c.stop-reply.new.list in
    let kept = c.stop-reply.auto.list in
    let few : k ≤ 256 = omega arith in
    let long : length none ≡ 256 = refl in
    let filled : List ℕ = read ++ drop k none in
    let filled-long : length filled ≡ 256 = back_long 256 k few none long read c.get_words.auto.values in
    let after : c.put_list.new.bytes ≡ store 0 (words 8 left) list =
    c.put_list.ensures ∙ ap (λ (vs : List ℕ). store 0 (words 8 vs) list) (back-front 256 k few filled filled-long left kept) in
    rw after
    (stop-listed c.args.s (arrays c.args.s c.well_formed.0) list (λ i. search rules) k c.min-count.ensures _
    (back_read 256 k few none long read c.get_words.auto.values _ c.get_words.ensures)
    _ left c.stop-reply.ensures (kept ∙ front_long 256 k few filled filled-long))
