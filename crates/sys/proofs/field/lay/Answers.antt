-- An iteration stores the first of the numbers that are left.
use Rattle.std.proofs.Common.{◌≡◌, ℕ, ◌+◌, ◌≤◌, ◌<◌, List, ◌++◌, length, drop, get_or, sym, ap, ◌∙◌, arith, drop-cons, add-one, length-append}
use Rattle.std.proofs.lemmas.List.{drop_all}
use Rattle.sys.specs.Bytes.{le, laid, laid_fields, store}
use Rattle.sys.proofs.Store.{store-append}
use Rattle.sys.proofs.Fields.{length-le}
use Rattle.sys.proofs.field.lay.Goals as goal

-- the bytes of the numbers from index i on
abbrev left : List (ℕ × ℕ) → ℕ → List ℕ
left fields i = laid_fields (drop i fields)

module _ (fields : List (ℕ × ℕ)) (i : ℕ) (h : i < length fields) where
  abbrev width : ℕ
  width = (get_or fields i (0, 0)).0

  -- the bytes of the first of the numbers left
  abbrev bytes : List ℕ
  bytes = le width (get_or fields i (0, 0)).1

  -- the first of the numbers left, then the others
  left-cons : left fields i ≡ bytes ++ left fields (i + 1)
  unfolding laid
  left-cons = rw (drop-cons fields i (0, 0) h, add-one)

  left-length : length (left fields i) ≡ width + length (left fields (i + 1))
  left-length = rw (left-cons, length-append, length-le)

  turn : (next : ℕ) (s : List ℕ) → store (next + width) (left fields (i + 1)) (store next bytes s) ≡ store next (left fields i) s
  turn next s =
      ap (λ (n : ℕ). store (next + n) (left fields (i + 1)) (store next bytes s)) (sym (length-le width (get_or fields i (0, 0)).1))
      ∙ sym (store-append next bytes (left fields (i + 1)) s)
      ∙ ap (λ (r : List ℕ). store next r s) (sym left-cons)

-- nothing is left
done : (fields : List (ℕ × ℕ)) (i next : ℕ) (s : List ℕ) → length fields ≤ i → s ≡ store next (left fields i) s
unfolding laid store
done fields i next s h = rw (drop_all i fields h)

pub put-requires : goal.put-requires
put-requires c = omega (arith, left-length c.args.fields.now c.loop-width.width-index c.loop-width-test.true)

pub overflow_add-next : goal.overflow_add-next
overflow_add-next c = omega (arith, left-length c.args.fields.now c.loop-width.width-index c.loop-width-test.true)

pub loop-width-preserved : goal.loop-width-preserved
loop-width-preserved c =
    let fields = c.args.fields.now in
    let loop = c.loop-width in
    let i = loop.width-index in
    let h = c.loop-width-test.true in
    record {
      room = omega (arith, left-length fields i h);
      to_store =
          ap (λ (l : List ℕ). store (loop.next + width fields i h) (left fields (i + 1)) l) c.put.ensures
          ∙ turn fields i h loop.next loop.s ∙ loop.invariant.to_store;
    }

pub returns : goal.returns
returns c = done c.args.fields.now c.loop-width.width-index c.loop-width.next _ (omega arith) ∙ c.loop-width.invariant.to_store
