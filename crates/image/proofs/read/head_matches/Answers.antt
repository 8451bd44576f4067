-- `image::head_matches` meets its contract: the header is compared, and then the setup, unless the header differs. Assumes nothing.
use mathlib.Core.Path.{◌≡◌, sym, ap, ◌∙◌}
use mathlib.Core.Bool.{Bool, true, false, ◌&&◌, false≢true}
use mathlib.Core.List.{List}
use Prim.Native.Nat.{ℕ, ◌^◌, ◌≤◌, ◌<◌}
use native.Mathlib.Omega.{arith}
use lib.ListN.{drop, get_or}
use Rattle.encoding.specs.Words.{words, begins}
use Rattle.image.specs.Reading.{header_for}
use Rattle.image.proofs.Head.{header-fits, header-room, setup-room}
use Rattle.image.proofs.read.head_matches.Goals as goal

-- the header's numbers stand for no more than their low four bytes
small : (n used : ℕ) (numbers : List ℕ) → numbers ≡ header_for n used → n ≤ 256 → used ≤ 256 → (i : ℕ) → get_or numbers i 0 < 2 ^ 64 → get_or numbers i 0 < 256 ^ 4
small n used numbers e few short i h = rw e (header-fits n used few short i)

-- the header differs
other : (a b h : Bool) → h ≡ a → h ≡ false → h ≡ (a && b)
other true b h e n = absurd (false≢true (sym n ∙ e))
other false b h e n = e

-- it doesn't
rest : (a b h r : Bool) → h ≡ a → h ≡ true → r ≡ b → r ≡ (a && b)
rest true b h r e n p = p
rest false b h r e n p = absurd (false≢true (sym e ∙ n))

-- numbers compared are those of the contract
same-words : (w at : ℕ) (bytes numbers expected : List ℕ) (r : Bool) → r ≡ begins (words w numbers) (drop at bytes) → numbers ≡ expected → r ≡ begins (words w expected) (drop at bytes)
same-words w at bytes numbers expected r e p = e ∙ ap (λ (l : List ℕ). begins (words w l) (drop at bytes)) p

pub has_words-requires : goal.has_words-requires
has_words-requires c =
    let numbers = c.header_numbers.ensures in
    record {
      width_bound = (omega arith, header-room _ _ _ _ numbers c.requires.2);
      by_index = small _ _ _ numbers c.requires.0 c.requires.1;
    }

pub returns-else-has_words : goal.returns-else-has_words
returns-else-has_words c =
    let header : c.has_words.result ≡ begins (words 4 (header_for c.args.setup.slots c.args.used)) c.args.image.now =
    same-words 4 0 _ _ _ _ c.has_words.ensures c.header_numbers.ensures in
    other _ _ _ header c.if-has_words.false

pub has_words-requires-then-has_words : goal.has_words-requires-then-has_words
has_words-requires-then-has_words c =
    record {
      width_bound = (omega arith, setup-room _ _ _ _ _ _ c.setup_numbers.ensures c.requires.2);
      by_index = λ i h. h;
    }

pub returns-then-has_words : goal.returns-then-has_words
returns-then-has_words c =
    let header : c.has_words.result ≡ begins (words 4 (header_for c.args.setup.slots c.args.used)) c.args.image.now =
    same-words 4 0 _ _ _ _ c.has_words.ensures c.header_numbers.ensures in
    rest _ _ _ _ header c.if-has_words.true
    (same-words 8 24 c.args.image.now _ _ _ c.has_words-then-has_words.ensures c.setup_numbers.ensures)
