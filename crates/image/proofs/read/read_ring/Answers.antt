-- `image::read_ring` meets its contract: the states from their part of the bytes, the queue from its callee. Assumes nothing.
use mathlib.Core.Path.{◌≡◌, ◌∙◌}
use mathlib.Core.List.{List}
use Prim.Native.Nat.{ℕ, ◌+◌, ◌-◌, ◌≤◌, min}
use native.Mathlib.Nat.{min-eq_left}
use native.Mathlib.Omega.{arith}
use lib.ListN.{length, take, drop, get_or, length-take, length-drop}
use Rattle.sys.specs.Bytes.{field}
use Rattle.ring.specs.declared.Ring.{Ring}
use Rattle.encoding.specs.Codes.{state_from}
use Rattle.ring.specs.Parts.{ring_with}
use Rattle.image.specs.Reading.{states_at, image_size, queue_in, ring_in}
use Rattle.image.proofs.read.read_ring.Goals as goal

made : (bytes free : List ℕ) (n end used : ℕ) (r : Ring) → end ≡ states_at + n → image_size n ≤ length bytes → free ≡ queue_in n bytes → used ≡ min (field 4 4 bytes) n
    → r ≡ ring_with (length (take (end - states_at) (drop states_at bytes))) (λ i. state_from (get_or (take (end - states_at) (drop states_at bytes)) i 0)) free used
    → r ≡ ring_in n bytes
unfolding ring_in
made bytes free n end used r e room f u is =
    let count : end - states_at ≡ n = omega arith in
    let long : length (take n (drop states_at bytes)) ≡ n = rw (length-take, length-drop) (min-eq_left (omega arith)) in
    is ∙ rw (count, long, f, u)

pub returns : goal.returns
returns c =
    made c.args.image.now _ c.args.n _ _ _ c.queue_at.ensures c.requires.1
    c.read_queue.ensures c.requires.2 c.from_codes.ensures
