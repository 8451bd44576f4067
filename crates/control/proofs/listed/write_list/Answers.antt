-- `control::listed::write_list` meets its contract. An iteration writes one number more. Assumes nothing.
use Prim.Native.Nat.{ℕ}
use mathlib.Core.Path.{sym, ap, ◌∙◌}
use native.Mathlib.Nat.{zero-add}
use native.Mathlib.Numerals.{add-one}
use native.Mathlib.Omega.{arith}
use lib.ListN.{get_or, set}
use lib.Seq.{paste, paste-suc}
use Rattle.control.proofs.listed.write_list.Goals as goal

pub loop-k-preserved : goal.loop-k-preserved
loop-k-preserved c =
    let k = c.loop-k.k in
    let numbers = c.args.numbers.now in
    let list = c.args.list.now in
    rw (add-one, c.loop-k.invariant, c.from.ensures)
    (ap (λ (at : ℕ). set (paste list 0 numbers k) at (get_or numbers k 0)) (sym (zero-add k))
    ∙ paste-suc list 0 numbers k 0 (omega arith) (omega arith))
