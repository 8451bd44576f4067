-- `image::write::put_queue` meets its contract: a place within the queue holds its slot, one behind it 0. Assumes nothing.
use mathlib.Core.Path.{◌≡◌, refl, ap, ◌∙◌}
use Prim.Native.Nat.{ℕ, ◌+◌, ◌*◌}
use native.Mathlib.Omega.{arith}
use lib.ListN.{length, take}
use Rattle.sys.specs.Bytes.{le, store}
use Rattle.ring.specs.Counts.{table}
use Rattle.encoding.specs.Words.{words, places}
use Rattle.encoding.proofs.Laid.{entry, held_place, store-none, store-more}
use Rattle.image.proofs.write.put_queue.Goals as goal

pub loop-i-init : goal.loop-i-init
loop-i-init c = (refl, store-none _ _ _ _)

pub returns : goal.returns
unfolding places
returns c =
    let at = c.loop-i in
    let args = c.args in
    let done : at.i ≡ length args.free.now = omega arith in
    at.invariant.1 ∙ ap (λ (k : ℕ). store args.at (words 4 (table (entry (take args.used args.free.now)) k)) args.image.now) done

pub loop-i-preserved : goal.loop-i-preserved
loop-i-preserved c =
    let put = c.put_u32 in
    let at = c.loop-i in
    let args = c.args in
    let free = args.free.now in
    let place = args.at + 4 * at.i in (
      put.auto.s ∙ at.invariant.0,
      put.ensures
          ∙ ap (λ (v : ℕ). store place (le 4 v) at.image) (c.place.ensures ∙ held_place free args.used at.i)
          ∙ ap (store place (le 4 (entry (take args.used free) at.i))) at.invariant.1
          ∙ store-more 4 (entry (take args.used free)) args.at at.i args.image.now,
    )
