-- `image::read::read_queue` meets its contract: at the start the n places are zeros, as those behind them stay. Assumes nothing.
use mathlib.Core.Path.{◌≡◌, ap, ap₂, ◌∙◌}
use mathlib.Core.List.{List, ◌++◌, map, append-nil}
use Prim.Native.Nat.{ℕ, ◌+◌, ◌-◌, ◌*◌, ◌%◌, ◌≤◌}
use native.Mathlib.Omega.{arith}
use native.Mathlib.Nat.{sub_self, sub-zero}
use lib.ListN.{length, take, replicate, length-set, length-replicate}
use Rattle.std.proofs.lemmas.List.{take-replicate, drop-replicate}
use Rattle.sys.specs.Bytes.{field}
use Rattle.ring.specs.Counts.{table}
use Rattle.encoding.specs.Words.{numbers_at}
use Rattle.image.specs.Reading.{queue_at, queue_in}
use Rattle.encoding.proofs.Laid.{read_more}
use Rattle.image.proofs.read.read_queue.Goals as goal

cleared : (n : ℕ) → n ≤ 256 → take {A = ℕ} n (replicate 256 0) ≡ replicate (n - 0) 0
cleared n h = rw sub-zero (take-replicate n 256 0 h)

pub loop-i-init : goal.loop-i-init
unfolding numbers_at table
loop-i-init c =
    let zeros = cleared c.args.n (omega arith) in
    (ap length zeros ∙ length-replicate (c.args.n - 0) 0 ∙ omega arith, c.queue_at-at.ensures, zeros)

pub loop-i-preserved : goal.loop-i-preserved
loop-i-preserved c =
    let at = c.loop-i in
    let args = c.args in
    let image = args.image.now in
    let read = c.get_u32.ensures ∙ ap (λ (k : ℕ). field (k + 4 * at.i) 4 image) at.invariant.1 in (
      length-set _ _ _ ∙ at.invariant.0,
      at.invariant.1,
      rw at.invariant.2
          (read_more (λ v. v % 256) 0 4 (queue_at args.n) at.i args.n image (c.get_u32.result % 256) (omega arith)
          (ap (λ (v : ℕ). v % 256) read)),
    )

pub returns : goal.returns
unfolding queue_in
returns c =
    let args = c.args in
    let done : c.loop-i.i ≡ args.n = omega arith in
    let read : ℕ → List ℕ = λ k. map (λ v. v % 256) (numbers_at 4 k (queue_at args.n) args.image.now) ++ replicate (args.n - k) 0 in
    ap₂ (λ (l m : List ℕ). l ++ m) (c.loop-i.invariant.2 ∙ ap read done)
    (drop-replicate args.n 256 0)
    ∙ rw sub_self (ap (λ (l : List ℕ). l ++ replicate (256 - args.n) 0) (append-nil _))
