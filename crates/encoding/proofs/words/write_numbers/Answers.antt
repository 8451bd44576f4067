-- `encoding::write_numbers` meets its contract: as many numbers as fit, or all of them. Assumes nothing.
use native.Mathlib.Omega.{arith}
use mathlib.Core.Path.{sym}
use lib.ListN.{length-take}
use lib.Seq.{length-take-le}
use Rattle.std.proofs.lemmas.List.{take_min}
use Rattle.encoding.specs.Words.{written}
use Rattle.encoding.proofs.Laid.{length-words}
use Rattle.encoding.proofs.words.write_numbers.Goals as goal

pub slice_bounds-put_words-end : goal.slice_bounds-put_words-end
slice_bounds-put_words-end c = sym (length-take-le _ _ (omega (arith, c.min-fit.ensures)))

pub put_words-requires : goal.put_words-requires
put_words-requires c = simp (length-words, length-take) (omega (arith, c.min-fit.ensures))

pub returns : goal.returns
unfolding written
returns c = rw (c.put_words.ensures, c.min-fit.ensures, take_min)
