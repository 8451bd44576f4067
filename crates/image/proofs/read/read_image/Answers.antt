-- `image::read_image` meets its contract: where the bytes have no room for an image they are none; for the others the parts decide. Assumes nothing.
use mathlib.Core.Path.{◌≡◌, ◌∙◌}
use mathlib.Core.Bool.{false, cond, ◌&&◌}
use mathlib.Core.List.{List}
use Prim.Native.Nat.{ℕ}
use borrow.Author.Tests.{le-leb}
use lib.Dec.{leb}
use Rattle.stream.specs.declared.Stream.{Stream}
use Rattle.opening.specs.Opened.{no_stream}
use Rattle.image.specs.Reading.{setup_in, record_in, matches, Roomy}
use Rattle.image.proofs.read.read_image.Goals as goal

abbrev Given : List ℕ → Stream → Type 0
Given bytes s = s ≡ cond (leb (setup_in bytes).slots 256 && matches bytes) (record_in bytes) no_stream

parts : (bytes : List ℕ) (n : ℕ) (s : Stream) → Roomy n bytes → s ≡ cond (matches bytes) (record_in bytes) no_stream → Given bytes s
parts bytes n s room e = e ∙ rw (le-leb (setup_in bytes).slots 256 (rw (← room.slots) room.few))

none : (bytes : List ℕ) (s : Stream) → s ≡ no_stream → (leb (setup_in bytes).slots 256 && matches bytes) ≡ false → Given bytes s
none bytes s e off = e ∙ rw off

pub returns : goal.returns
returns c = parts _ c.in-Some.n _ c.in-Some.ensures c.read_parts.ensures

pub returns-in_default : goal.returns-in_default
returns-in_default c = none _ _ c.no_stream.ensures c.in_default.ensures
