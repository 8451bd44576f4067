-- `encoding::words::get_words` meets its contract. The loop's invariant: the first i places hold the first i numbers of the bytes, the others are as they were.
-- Assumes nothing.
use mathlib.Core.Path.{◌≡◌, refl, sym, ap, ◌∙◌}
use Prim.Native.Nat.{ℕ, ◌*◌}
use native.Mathlib.Nat.{zero-add}
use native.Mathlib.Omega.{arith}
use Rattle.sys.specs.Bytes.{field}
use Rattle.ring.specs.Counts.{table}
use Rattle.ring.proofs.Numbers.{table-put, table-whole}
use Rattle.encoding.specs.Words.{numbers_at}
use Rattle.encoding.proofs.words.get_words.Invariants.{number}
use Rattle.encoding.proofs.words.get_words.Goals as goal

pub loop-i-preserved : goal.loop-i-preserved
unfolding number
loop-i-preserved c =
    let at = c.loop-i in
    let bytes = c.args.bytes.now in
    let read : c.get.result ≡ number bytes at.i = c.get.ensures.0 ∙ ap (λ (k : ℕ). field k 8 bytes) (sym (zero-add (8 * at.i))) in
    rw at.invariant (table-put (number bytes) c.args.values.now at.i c.get.result (omega arith) read)

pub loop-i-init : goal.loop-i-init
unfolding table
loop-i-init c = refl

pub returns : goal.returns
unfolding number numbers_at
returns c =
    let at = c.loop-i in
    at.invariant ∙ table-whole (number c.args.bytes.now) c.args.values.now at.i (omega arith)
