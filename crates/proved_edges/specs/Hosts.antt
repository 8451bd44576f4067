-- A host that makes calls on a ring it opened, each on the record and the block as the call before it left them.
use Rattle.std.specs.Prelude.{ℕ, List, [], ◌∷◌, ◌++◌}
use Rattle.sys.specs.Bytes.{store}
use Rattle.layout.specs.declared.Setup.{Setup}
use Rattle.stream.specs.declared.Answer.{Answer}
use Rattle.stream.specs.declared.Stream.{Stream}
use Rattle.opening.specs.Opened.{opened_stream}
use Rattle.opening.specs.Open.{opened_block}
use Rattle.ledger.specs.Calls.{Call, made}

-- The record, the answers so far, oldest first, and the block.
pub record Host : Type 0 where
  pub stream : Stream
  pub answers : List Answer
  pub block : List ℕ

-- No call yet: record and block are those that opening makes.
unfoldable pub opened : Setup → Host
opened s = record { stream = opened_stream s; answers = []; block = opened_block s }

-- It makes a call that is not lent the block.
unfoldable pub call_plain : Call → Host → Host
call_plain c h =
    let outcome = made c h.stream in
    record { stream = outcome.stream; answers = h.answers ++ (outcome.answer ∷ []); block = h.block }

-- It makes a call that is lent the block.
unfoldable pub call_lent : (List ℕ → Call) → Host → Host
call_lent c h =
    let outcome = made (c h.block) h.stream in
    record { stream = outcome.stream; answers = h.answers ++ (outcome.answer ∷ []); block = outcome.lent }

-- Meanwhile the kernel writes these bytes into the block.
unfoldable pub kernel_writes : ℕ → List ℕ → Host → Host
kernel_writes at bytes h = record { stream = h.stream; answers = h.answers; block = store at bytes h.block }
