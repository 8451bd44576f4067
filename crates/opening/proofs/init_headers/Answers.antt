-- `opening::init_headers` meets its contract. Assumes nothing.
use Prim.Native.Nat.{ℕ}
use mathlib.Core.Path.{◌≡◌, sym, ap, ◌∙◌}
use native.Mathlib.Omega.{arith}
use lib.ListN.{replicate}
use Rattle.layout.specs.Opening.{total_of}
use Rattle.sys.specs.Bytes.{store}
use Rattle.sys.specs.Header.{header_bytes}
use Rattle.opening.specs.Open.{with_headers, opened_block}
use Rattle.opening.proofs.Block.{headers-next}
use Rattle.opening.proofs.init_headers.Goals as goal

pub loop-i-init : goal.loop-i-init
unfolding with_headers
loop-i-init c = c.fill.ensures.after (λ y is. is) ∙ ap (λ (n : ℕ). replicate n 0) c.requires.1

pub write-requires : goal.write-requires
write-requires c = let placed = c.places-places.ensures in omega arith

pub returns : goal.returns
unfolding opened_block
returns c =
    let s = c.args.setup in
    let e : c.loop-i.i ≡ s.slots = omega arith in
    c.loop-i.invariant ∙ ap (λ (k : ℕ). with_headers s k (replicate (total_of s) 0)) e

pub loop-i-preserved : goal.loop-i-preserved
loop-i-preserved c =
    let s = c.args.setup in
    c.write.ensures
    ∙ (λ k. store (c.places-places.ensures.is k).header (header_bytes (c.header_of-urb.ensures k)) (c.loop-i.invariant k))
    ∙ sym (headers-next s c.loop-i.i (replicate (total_of s) 0))
