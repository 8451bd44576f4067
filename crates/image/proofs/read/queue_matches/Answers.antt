-- `image::read::queue_matches` meets its contract, place by place: a place of the queue is the byte that was read there, one behind it 0.
-- Assumes nothing.
use mathlib.Core.Path.{◌≡◌, refl, sym, ap, ◌∙◌}
use mathlib.Core.Bool.{Bool, true, false, cond, ◌&&◌}
use mathlib.Core.List.{List, map}
use Prim.Native.Nat.{ℕ, zero, suc, ◌+◌, ◌-◌, ◌*◌, ◌%◌, ◌^◌, ◌≤◌, ◌<◌}
use native.Mathlib.Nat.{add-zero}
use native.Mathlib.Omega.{arith}
use borrow.Author.Rules.{rules}
use borrow.Author.Tests.{tests, eqb-true, eqb-false}
use lib.Dec.{eqb, ltb}
use lib.ListN.{length, take, drop, replicate, length-map, get_or-append, get_or-map}
use Rattle.std.specs.List.{list_all, range_with_len}
use Rattle.std.proofs.lemmas.Iterator.{YieldsList-from_range}
use Rattle.std.proofs.lemmas.Iterator.Search.{all_from_yields_List}
use Rattle.sys.specs.Bytes.{field}
use Rattle.ring.specs.Counts.{table}
use Rattle.ring.proofs.Numbers.{table-long, table_at}
use Rattle.encoding.specs.Words.{words, numbers_at, places, begins}
use Rattle.image.specs.Reading.{queue_at, image_size, queue_in}
use Rattle.encoding.proofs.Laid.{Bytes, entry, held_place, begins-none, begins-more, begins-not}
use Rattle.image.proofs.read.queue_matches.Goals as goal

-- what is compared: the number that stands in place i, and what is to stand there
abbrev test : ℕ → List ℕ → ℕ → ℕ → Bool
test used image at i = let number = field (at + 4 * i) 4 image in eqb number (cond (ltb i used) (number % 256) 0)

module _ (n used : ℕ) (image : List ℕ) where
  abbrev number : ℕ → ℕ
  number i = field (queue_at n + 4 * i) 4 image

  abbrev slot : ℕ → ℕ
  slot = entry (take used (queue_in n image))

  abbrev front : ℕ → Bool
  front i = begins (words 4 (table slot i)) (drop (queue_at n) image)

  -- place i as it was read
  queue-at : (i : ℕ) → i < n → entry (queue_in n image) i ≡ number i % 256
  unfolding queue_in numbers_at
  queue-at i h =
      let long : length (map (λ v. v % 256) (table number n)) ≡ n = length-map (table number n) (λ v. v % 256) ∙ table-long number n in
      get_or-append (map (λ v. v % 256) (table number n)) (replicate (256 - n) 0) 0 i (omega arith)
      ∙ get_or-map (λ v. v % 256) (table number n) i 0
      ∙ ap (λ (v : ℕ). v % 256) (table_at number 0 n i h)

  slot_is : (i : ℕ) → i < n → slot i ≡ cond (ltb i used) (number i % 256) 0
  slot_is i h = sym (held_place (queue_in n image) used i) ∙ ap (λ (v : ℕ). cond (ltb i used) v 0) (queue-at i h)

  slot-fits : (i : ℕ) → i < n → slot i < 256 ^ 4
  slot-fits i h = rw (slot_is i h) (go (ltb i used))
    where
      go : (b : Bool) → cond b (number i % 256) 0 < 256 ^ 4
      go true = omega arith
      go false = omega arith

  module _ (room : image_size n ≤ length image) (below : Bytes image) where
    -- the places from a on, behind a that match
    more : (a k : ℕ) (b : Bool) → a < n → a < k → test used image (queue_at n) a ≡ b → front a ≡ true
        → (rest : Bool) → (front (a + 1) ≡ true → rest ≡ front k) → (b && rest) ≡ front k
    more a k true inside h e on rest go =
        let there : number a ≡ slot a = eqb-true (number a) _ e ∙ sym (slot_is a inside) in
        go (begins-more 4 slot (queue_at n) a image (slot-fits a inside) (omega arith) below on there)
    more a k false inside h e on rest go =
        sym
        (begins-not 4 slot (queue_at n) a image (slot-fits a inside) (omega arith) below k h
        (λ same. eqb-false (number a) _ e (same ∙ slot_is a inside)))

    from : (a k : ℕ) → a + k ≤ n → front a ≡ true → list_all (test used image (queue_at n)) (range_with_len a k) ≡ front (a + k)
    from a zero h on = rw add-zero (sym on)
    from a (suc k) h on =
        let count : a + 1 + k ≡ a + suc k = omega arith in
        more a (a + suc k) (test used image (queue_at n) a) (omega arith) (omega arith) refl on _
        (λ next. from (a + 1) k (omega arith) next ∙ ap front count)

pub returns : goal.returns
unfolding places
returns c =
    let a = c.args in
    let image = a.image.now in
    let places = range_with_len 0 a.n in
    all_from_yields_List (test a.used image c.queue_at-at.result) _ _ _ c.all.ensures.ran
    (YieldsList-from_range 0 a.n a.n refl (omega arith))
    (λ x b q k. search (rules, tests))
    ∙ ap (λ (at : ℕ). list_all (test a.used image at) places) c.queue_at-at.ensures
    ∙ from a.n a.used image (omega arith) (λ k. search rules) 0 a.n (omega arith) (begins-none _ _ _)
    ∙ ap (front a.n a.used image) (omega arith)
