-- `put_list`: a number more is one store more behind those before it. Assumes nothing.
use mathlib.Core.Path.{◌≡◌, ap, ap₂, ◌∙◌}
use mathlib.Core.List.{List}
use Prim.Native.Nat.{ℕ}
use native.Mathlib.Omega.{arith}
use lib.ListN.{length}
use Rattle.sys.specs.Bytes.{le, store}
use Rattle.ring.specs.Counts.{table}
use Rattle.encoding.specs.Words.{words}
use Rattle.encoding.proofs.Laid.{entry, table-of, store-none, store-more}
use Rattle.c_lists.proofs.put_list.Goals as goal

pub loop-i-init : goal.loop-i-init
loop-i-init c = store-none _ _ _ _

pub returns : goal.returns
returns c =
    let at = c.loop-i in
    let all : at.i ≡ length c.args.values.now = omega arith in
    at.invariant
    ∙ ap (λ (vs : List ℕ). store 0 (words 8 vs) c.args.bytes.now)
    (ap (table (entry c.args.values.now)) all ∙ table-of c.args.values.now)

pub loop-i-preserved : goal.loop-i-preserved
loop-i-preserved c =
    let values = c.args.values.now in
    let i = c.loop-i.i in
    c.put.ensures
    ∙ ap₂ (λ (p : ℕ) (l : List ℕ). store p (le 8 (entry values i)) l) (omega arith) c.loop-i.invariant
    ∙ store-more 8 (entry values) 0 i c.args.bytes.now
