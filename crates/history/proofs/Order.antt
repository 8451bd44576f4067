-- The queue's order by the words: a slot that is taken from the front leaves it in order, and one that is returned comes last.
-- Assumes nothing.
use mathlib.Core.Path.{◌≡◌, refl, sym, ap, ap₂, ◌∙◌}
use mathlib.Core.Bool.{Bool, true, false, cond, not, ◌&&◌}
use mathlib.Core.List.{List, [], ◌∷◌, ◌++◌, map, map-append, append_assoc}
use Prim.Native.Nat.{ℕ, suc, ◌+◌, ◌≤◌}
use native.Mathlib.Omega.{arith}
use lib.Dec.{eqb}
use lib.ListN.{length}
use borrow.Author.Tests.{eq-eqb, ne_eqb}
use Rattle.layout.specs.declared.Setup.{Setup}
use Rattle.ring.specs.Counts.{slot_numbers, times}
use Rattle.ring.specs.Slots.{one}
use Rattle.ring.proofs.Counts.{times-append}
use Rattle.history.specs.Words.{Entry, is_slot, return, never_left, last_return}
use Rattle.history.specs.Demand3.{those, ascending, InOrder}
use Rattle.history.proofs.Filtered.{those-same, those-twice, those-without, those-none, those-append, those-tail, map-without, under-map, ascending-append, ascending-tail}

-- no slot was returned later than now
return-bound : (s : Setup) (i : ℕ) (log : List Entry) → last_return s i log ≤ length log
unfolding last_return
return-bound s i [] = omega arith
return-bound s i (e ∷ log) = step (is_slot (return s e log) i) (return-bound s i log)
  where
    step : (b : Bool) → last_return s i log ≤ length log → cond b (suc (length log)) (last_return s i log) ≤ suc (length log)
    step true h = omega arith
    step false h = omega arith

map_same : (f g : ℕ → ℕ) → ((i : ℕ) → f i ≡ g i) → (xs : List ℕ) → map f xs ≡ map g xs
map_same f g p [] = refl
map_same f g p (x ∷ xs) = rw (p x, map_same f g p xs)

module _ {s : Setup} (e : Entry) {log : List Entry} {queue : List ℕ} (o : InOrder s log queue) where
  -- nothing left the queue for the first time, and nothing was returned
  pub order-kept : ((i : ℕ) → never_left i (e ∷ log) ≡ never_left i log) → ((i : ℕ) → last_return s i (e ∷ log) ≡ last_return s i log) → InOrder s (e ∷ log) queue
  order-kept never same =
      record {
        rest = o.rest;
        split = o.split ∙ ap (λ (l : List ℕ). l ++ o.rest) (sym (those-same _ _ never (slot_numbers s.slots)));
        left = those-same _ _ never o.rest ∙ o.left;
        by-return = ap ascending (map_same _ _ same o.rest) ∙ o.by-return;
      }

  -- the front slot was taken
  module _ (j : ℕ) (more : List ℕ) (q : queue ≡ j ∷ more) (once : times j queue ≡ 1) (never : (i : ℕ) → never_left i (e ∷ log) ≡ (not (eqb j i) && never_left i log)) (same : (i : ℕ) → last_return s i (e ∷ log) ≡ last_return s i log) where
    -- those that never left, now: without j
    firsts : (xs : List ℕ) → those (λ i. never_left i (e ∷ log)) xs ≡ those (λ i. not (eqb j i)) (those (λ i. never_left i log) xs)
    firsts xs = those-same _ _ never xs ∙ those-twice (λ i. never_left i log) (λ i. not (eqb j i)) xs

    -- what had left the queue, still had
    left-still : (xs : List ℕ) → those (λ i. never_left i log) xs ≡ [] → those (λ i. never_left i (e ∷ log)) xs ≡ []
    left-still xs p = those-same _ _ never xs ∙ those-none (λ i. never_left i log) (λ i. not (eqb j i)) xs p

    -- all that never left were taken already
    took-returned : those (λ i. never_left i log) (slot_numbers s.slots) ≡ [] → InOrder s (e ∷ log) more
    unfolding those
    took-returned p =
        record {
          rest = more;
          split = sym (ap (λ (l : List ℕ). l ++ more) (firsts (slot_numbers s.slots) ∙ ap (those (λ i. not (eqb j i))) p));
          left = left-still more (those-tail (λ i. never_left i log) j more (ap (those (λ i. never_left i log)) whole ∙ o.left));
          by-return =
              ap ascending (map_same _ _ same more) ∙
              ascending-tail (last_return s j log) (map (λ i. last_return s i log) more)
              (ap (λ (l : List ℕ). ascending (map (λ i. last_return s i log) l)) whole ∙ o.by-return);
        }
      where
        whole : j ∷ more ≡ o.rest
        whole = sym q ∙ o.split ∙ ap (λ (l : List ℕ). l ++ o.rest) p

    -- the first of those that never left
    took-first : (k : ℕ) (ks : List ℕ) → those (λ i. never_left i log) (slot_numbers s.slots) ≡ k ∷ ks → InOrder s (e ∷ log) more
    unfolding those times one
    took-first k ks p =
        record {
          rest = o.rest;
          split = tail ∙ sym (ap (λ (l : List ℕ). l ++ o.rest) now-first);
          left = left-still o.rest o.left;
          by-return = ap ascending (map_same _ _ same o.rest) ∙ o.by-return;
        }
      where
        whole : j ∷ more ≡ k ∷ (ks ++ o.rest)
        whole = sym q ∙ o.split ∙ ap (λ (l : List ℕ). l ++ o.rest) p

        head : j ≡ k
        head = cc whole

        tail : more ≡ ks ++ o.rest
        tail = cc whole

        alone : times j ks ≡ 0
        alone =
            let t : times j (j ∷ more) ≡ 1 = ap (times j) (sym q) ∙ once in
            let u : times j (j ∷ more) ≡ 1 + times j more = rw (eq-eqb j j refl) in
            let v : times j more ≡ times j ks + times j o.rest = ap (times j) tail ∙ times-append j ks o.rest in
            omega arith

        now-first : those (λ i. never_left i (e ∷ log)) (slot_numbers s.slots) ≡ ks
        now-first =
            firsts (slot_numbers s.slots) ∙
            ap (those (λ i. not (eqb j i))) p ∙
            rw (eq-eqb j k head) (those-without j ks alone)

    pub order-took : InOrder s (e ∷ log) more
    order-took = pick (those (λ i. never_left i log) (slot_numbers s.slots)) refl
      where
        pick : (l : List ℕ) → those (λ i. never_left i log) (slot_numbers s.slots) ≡ l → InOrder s (e ∷ log) more
        pick [] p = took-returned p
        pick (k ∷ ks) p = took-first k ks p

  -- slot i, which had left the queue, came back
  module _ (i : ℕ) (gone : never_left i log ≡ false) (away : times i queue ≡ 0) (never : (k : ℕ) → never_left k (e ∷ log) ≡ never_left k log) (back : (k : ℕ) → last_return s k (e ∷ log) ≡ cond (eqb i k) (suc (length log)) (last_return s k log)) where
    pub order-back : InOrder s (e ∷ log) (queue ++ (i ∷ []))
    unfolding those
    order-back =
        record {
          rest = o.rest ++ (i ∷ []);
          split =
              ap (λ (l : List ℕ). l ++ (i ∷ [])) o.split ∙
              append_assoc (those (λ k. never_left k log) (slot_numbers s.slots)) o.rest (i ∷ []) ∙
              ap (λ (l : List ℕ). l ++ (o.rest ++ (i ∷ []))) (sym (those-same _ _ never (slot_numbers s.slots)));
          left =
              those-same _ _ never (o.rest ++ (i ∷ [])) ∙
              those-append (λ k. never_left k log) o.rest (i ∷ []) ∙
              rw (o.left, gone);
          by-return =
              ap ascending (map-append (λ k. last_return s k (e ∷ log)) o.rest (i ∷ []) ∙ ap₂ (λ (a b : List ℕ). a ++ b) others last) ∙
              ascending-append (suc (length log)) (map (λ k. last_return s k log) o.rest) o.by-return
              (under-map (λ k. last_return s k log) (suc (length log)) (λ k. omega (arith, return-bound s k log)) o.rest);
        }
      where
        alone : times i o.rest ≡ 0
        alone = omega (arith, ap (times i) (sym o.split) ∙ away, times-append i (those (λ k. never_left k log) (slot_numbers s.slots)) o.rest)

        others : map (λ k. last_return s k (e ∷ log)) o.rest ≡ map (λ k. last_return s k log) o.rest
        others = map-without _ _ i (λ k d. back k ∙ rw (ne_eqb i k (λ z. d (sym z)))) o.rest alone

        last : map (λ k. last_return s k (e ∷ log)) (i ∷ []) ≡ suc (length log) ∷ []
        last = ap (λ (n : ℕ). n ∷ []) (back i ∙ rw (eq-eqb i i refl))
