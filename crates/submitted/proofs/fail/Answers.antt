-- `submitted::fail` meets its contract: the slot in hand is put back, and the refusal is the errno's. Assumes nothing.
use Rattle.std.proofs.Common.{ℕ, ap, ◌∙◌}
use Rattle.error.specs.declared.ErrnoContext.{ErrnoContext}
use Rattle.error.specs.Errno.{from_errno}
use Rattle.stream.proofs.Soundness.{setup-admissible}
use Rattle.submitted.proofs.Failing.{failed}
use Rattle.submitted.proofs.fail.Goals as goal

pub payload_bytes-bytes-requires : goal.payload_bytes-bytes-requires
payload_bytes-bytes-requires c = setup-admissible c.args.s c.requires.0

pub returns : goal.returns
returns c =
    failed c.args.s c.args.i c.args.errno _
    (c.from_errno-refusal.ensures ∙
    ap (λ (b : ℕ). from_errno c.args.errno (ErrnoContext.Submit b)) c.payload_bytes-bytes.ensures)
    _ c.put_back.ensures
