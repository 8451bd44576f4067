-- `notice::slot_of_urb` meets its contract: both addresses are masked, and below the base there is no slot; else `slot_at` decides.
-- Assumes nothing.
use Rattle.std.specs.Prelude.{None}
use Rattle.std.proofs.Common.{rules}
use mathlib.Core.Path.{◌≡◌, ◌∙◌, ap}
use mathlib.Core.List.{List}
use Prim.Native.Nat.{ℕ, ◌-◌, ◌≤◌, ◌<◌}
use borrow.Author.Tests.{lt-ltb, le-ltb}
use Rattle.layout.specs.declared.Setup.{Setup}
use Rattle.layout.specs.Opening.{masked_of}
use Rattle.ledger.specs.Notice.{slot_at, slot_of_urb}
use Rattle.notice.proofs.slot_of_urb.Goals as goal

module _ (s : Setup) (address : ℕ) (block : List ℕ) (base at : ℕ) (eb : base ≡ masked_of s.tagged s.base) (ea : at ≡ masked_of s.tagged address) where
  below : at < base → None ≡ slot_of_urb s address block
  unfolding slot_of_urb
  below h = rw (← eb, ← ea, lt-ltb at base h)

  above : base ≤ at → slot_at s (at - base) block ≡ slot_of_urb s address block
  unfolding slot_of_urb
  above h = rw (← eb, ← ea, le-ltb at base h)

pub returns-in_err-offset : goal.returns-in_err-offset
returns-in_err-offset c =
    let none : c.from_residual.result ≡ None = search rules in
    let less : c.masked-at.result < c.masked-base.result = search rules in
    none ∙ below c.args.setup c.args.address c.args.block.now _ _ c.masked-base.ensures c.masked-at.ensures less

pub returns : goal.returns
returns c =
    let least : c.masked-base.result ≤ c.masked-at.result = search rules in
    let offset : c.in_ok-offset.offset ≡ c.masked-at.result - c.masked-base.result = search rules in
    c.slot_at.ensures
    ∙ ap (λ (n : ℕ). slot_at c.args.setup n c.args.block.now) offset
    ∙ above c.args.setup c.args.address c.args.block.now _ _ c.masked-base.ensures c.masked-at.ensures least
