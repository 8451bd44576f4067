-- `image::write_ring` meets its contract: the states into their part of the bytes, then the queue behind them. Assumes nothing.
use mathlib.Core.Path.{◌≡◌, sym, ap, ◌∙◌}
use mathlib.Core.Bool.{cond}
use mathlib.Core.List.{List}
use Prim.Native.Nat.{ℕ, ◌+◌, ◌-◌, ◌≤◌}
use native.Mathlib.Nat.{min-eq_left}
use native.Mathlib.Omega.{arith}
use borrow.Author.Rules.{rules}
use lib.Dec.{ltb}
use lib.Seq.{get_or-take}
use lib.ListN.{length, take, drop, length-take, length-drop}
use borrow.Rule.Slice.PartMut.{put_mid}
use Rattle.sys.specs.Bytes.{store}
use Rattle.sys.proofs.Store.{put_back}
use Rattle.ring.specs.Counts.{table}
use Rattle.encoding.specs.Codes.{state_number}
use Rattle.ring.specs.Parts.{queue_of, state_of}
use Rattle.ring.proofs.Numbers.{table-long, table_same}
use Rattle.encoding.specs.Words.{words, places}
use Rattle.encoding.proofs.Laid.{entry, held_place}
use Rattle.image.specs.Reading.{states_at, queue_at, image_size}
use Rattle.image.proofs.write.write_ring.Goals as goal

-- the first n places of the queue, cut off before or behind its end
cut : (n used : ℕ) (free : List ℕ) → n ≤ length free → places (length (take n free)) (take used (take n free)) ≡ places n (take used free)
unfolding places
cut n used free h =
    let long : length (take n free) ≡ n = rw length-take (min-eq_left h) in
    rw long
    (table_same (entry (take used (take n free))) (entry (take used free)) n
    (λ i below.
    sym (held_place (take n free) used i)
    ∙ ap (λ (v : ℕ). cond (ltb i used) v 0) (get_or-take n free i 0 below)
    ∙ held_place free used i))

-- the states come home in their part, and the queue is stored behind them
written-ring : (n end used : ℕ) (f : ℕ → ℕ) (free codes l m : List ℕ) → n ≤ length free → end ≡ states_at + n → image_size n ≤ length l
    → codes ≡ table f (length (take (end - states_at) (drop states_at l)))
    → m ≡ store end (words 4 (places (length (take n free)) (take used (take n free)))) (put_mid states_at (end - states_at) l codes)
    → m ≡ store (queue_at n) (words 4 (places n (take used free))) (store states_at (table f n) l)
written-ring n end used f free codes l m many e room codes-are is =
    let count : end - states_at ≡ n = omega arith in
    let long : length (take n (drop states_at l)) ≡ n = rw (length-take, length-drop) (min-eq_left (omega arith)) in
    let all : codes ≡ table f n = codes-are ∙ rw (count, long) in
    is ∙ rw (cut n used free many, count, all, put_back states_at n (table f n) l (table-long f n) (omega arith), e)

pub returns : goal.returns
unfolding queue_of
returns c =
    let ring = c.args.ring.now in
    let long : length ring.free ≡ 256 = search rules in
    let few : c.args.n ≤ length ring.free = omega arith in
    written-ring c.args.n _ ring.free_len (λ i. state_number (state_of ring i)) ring.free _ c.args.image.now _ few
    c.queue_at-end.ensures c.requires.1 c.put_states.ensures c.put_queue.ensures
