-- `mask::Mask::list`: after each call the list holds the places in the words so far.
use Rattle.std.proofs.Common.{◌≡◌, replicate, refl, arith}
use Rattle.mask.specs.Bits.{places}
use Rattle.mask.specs.Masks.{word_at, member, list_of}
use Rattle.mask.specs.declared.Mask.{Mask}
use Rattle.mask.proofs.Lists.{word_room, word_more}
use Rattle.mask.proofs.Mask.list.Goals as goal

-- the empty list holds the places in no word
none : (m : Mask) → record { places = replicate 256 0; count = 0 } ≡ list_of (places 0 0 (member m))
unfolding list_of places
none m = refl

pub list_word-list-requires : goal.list_word-list-requires
unfolding word_at
list_word-list-requires c =
    let e = none c.args.self in
    (word_room c.args.self 0 (omega arith) _ e, omega arith)

pub list_word-list-requires-2 : goal.list_word-list-requires-2
unfolding word_at
list_word-list-requires-2 c =
    let e = none c.args.self in
    let one = word_more c.args.self 0 (omega arith) _ e _ c.list_word-list.ensures in
    (word_room c.args.self 1 (omega arith) _ one, omega arith)

pub list_word-list-requires-3 : goal.list_word-list-requires-3
unfolding word_at
list_word-list-requires-3 c =
    let e = none c.args.self in
    let one = word_more c.args.self 0 (omega arith) _ e _ c.list_word-list.ensures in
    let two = word_more c.args.self 1 (omega arith) _ one _ c.list_word-list-2.ensures in
    (word_room c.args.self 2 (omega arith) _ two, omega arith)

pub list_word-requires : goal.list_word-requires
unfolding word_at
list_word-requires c =
    let e = none c.args.self in
    let one = word_more c.args.self 0 (omega arith) _ e _ c.list_word-list.ensures in
    let two = word_more c.args.self 1 (omega arith) _ one _ c.list_word-list-2.ensures in
    let three = word_more c.args.self 2 (omega arith) _ two _ c.list_word-list-3.ensures in
    (word_room c.args.self 3 (omega arith) _ three, omega arith)

pub returns : goal.returns
unfolding word_at
returns c =
    let e = none c.args.self in
    let one = word_more c.args.self 0 (omega arith) _ e _ c.list_word-list.ensures in
    let two = word_more c.args.self 1 (omega arith) _ one _ c.list_word-list-2.ensures in
    let three = word_more c.args.self 2 (omega arith) _ two _ c.list_word-list-3.ensures in
    word_more c.args.self 3 (omega arith) _ three _ c.list_word.ensures
