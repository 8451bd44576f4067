-- An iteration stores the lowest byte of what is left; at the end nothing is left.
use Rattle.std.proofs.Common.{◌≡◌, ℕ, suc, ◌+◌, ◌-◌, ◌/◌, ◌%◌, ◌≤◌, ◌<◌, List, ◌++◌, length, take, drop, slice_set, append_assoc, length-drop, ◌∙◌, ap, arith}
use Rattle.std.proofs.lemmas.List.{append-nil, length-take-le, take_all, take_more_set}
use Rattle.sys.specs.Bytes.{le, part, store}
use Rattle.sys.proofs.Store.{put_back}
use Rattle.sys.proofs.field.put.Goals as goal

-- the lowest byte of what is left, then the others
turn : (width i rest : ℕ) (s : List ℕ) → i < width → i < length s
    → take (i + 1) (slice_set s i (rest % 256)) ++ le (width - (i + 1)) (rest / 256) ≡ take i s ++ le (width - i) rest
unfolding le
turn width i rest s h inside =
    let left : width - i ≡ suc (width - (i + 1)) = omega arith in
    rw (left, take_more_set s i (rest % 256) inside, append_assoc)

-- nothing is left
done : (width i rest : ℕ) (s bytes : List ℕ) → width ≤ i → length s ≡ width → take i s ++ le (width - i) rest ≡ bytes → s ≡ bytes
unfolding le
done width i rest s bytes h e all =
    let none : width - i ≡ 0 = omega arith in
    let covered : length s ≤ i = omega arith in
    rw (none, append-nil, take_all i s covered) at all

-- the bytes lent are the field's
size : (at width : ℕ) (s : List ℕ) → at + width ≤ length s → length (part at (at + width - at) s) ≡ width
size at width s room =
    let e : at + width - at ≡ width = omega arith in
    let inside : width ≤ length (drop at s) = simp length-drop (omega arith) in
    rw e (length-take-le width (drop at s) inside)

pub loop-byte-preserved : goal.loop-byte-preserved
loop-byte-preserved c =
    let e = size c.args.at c.args.width c.args.s.now c.requires in
    turn _ c.loop-byte.byte-index c.loop-byte.rest c.loop-byte.byte-items (omega arith) (omega arith) ∙ c.loop-byte.invariant

pub returns : goal.returns
returns c =
    let at = c.args.at in
    let width = c.args.width in
    let e = size at width c.args.s.now c.requires in
    let same : at + width - at ≡ width = omega arith in
    let all = done width c.loop-byte.byte-index c.loop-byte.rest c.loop-byte.byte-items _ (omega arith) (omega arith) c.loop-byte.invariant in
    rw same
    (put_back at width c.loop-byte.byte-items c.args.s.now (omega arith) c.requires
    ∙ ap (λ (l : List ℕ). store at l c.args.s.now) all)
