-- `image::write_head` meets its contract: the header, then the setup behind it. Assumes nothing.
use mathlib.Core.Path.{◌≡◌, ap, ◌∙◌}
use mathlib.Core.List.{List}
use Prim.Native.Nat.{ℕ}
use Rattle.sys.specs.Bytes.{store}
use Rattle.encoding.specs.Words.{words}
use Rattle.image.proofs.Head.{header-room, setup-room}
use borrow.Author.Rules.{rules}
use Rattle.image.proofs.write.write_head.Goals as goal

-- one part behind the other
both : (at bt : ℕ) (us vs us' vs' first l m : List ℕ) → m ≡ store bt vs l → l ≡ store at us first → vs ≡ vs' → us ≡ us' → m ≡ store bt vs' (store at us' first)
both at bt us vs us' vs' first l m e d p q = e ∙ rw (d, p, q)

pub put_words-requires : goal.put_words-requires
put_words-requires c = header-room _ _ _ _ c.header_numbers.ensures c.requires.1

pub put_words-requires-2 : goal.put_words-requires-2
put_words-requires-2 c =
    setup-room _ _ _ _ _ _ c.setup_numbers.ensures (search rules)

pub returns : goal.returns
returns c =
    both 0 24 _ _ _ _ _ _ _ c.put_words-2.ensures c.put_words.ensures
    (ap (words 8) c.setup_numbers.ensures) (ap (words 4) c.header_numbers.ensures)
