-- A refused submission: the slot is put back, and the refusal is the errno's. The payload bytes that it carries fit 64 bits within opening's
-- limits. Assumes nothing.
use Rattle.std.proofs.Common.{◌≡◌, ℕ, ◌*◌, ◌≤◌, List, [], subst, mul-le-mul}
use Rattle.error.specs.declared.Error.{Error}
use Rattle.error.specs.declared.ErrnoContext.{ErrnoContext}
use Rattle.error.specs.Errno.{from_errno}
use Rattle.layout.specs.declared.Setup.{Setup}
use Rattle.layout.specs.Opening.{Limited}
use Rattle.stream.specs.declared.Answer.{Answer}
use Rattle.stream.specs.declared.Reply.{Reply}
use Rattle.stream.specs.declared.Stream.{Stream}
use Rattle.ledger.specs.Record.{view}
use Rattle.ledger.specs.Step.{put_back}
use Rattle.ledger.specs.Submitted.{submit_failed}
use Rattle.ledger.specs.Gives.{Gives}
use Rattle.ledger.proofs.Calls.{back-lent}

pub payload-fits : (s : Setup) → Limited s → (s.slots * s.packets_per_urb ≤ 32768) × (s.slots * s.packets_per_urb * s.packet_bytes ≤ 1610612736)
payload-fits s limited =
    let packets : s.slots * s.packets_per_urb ≤ 256 * 128 = mul-le-mul limited.slots limited.sizes.few in
    (packets, mul-le-mul packets limited.bytes)

-- the refusal is the errno's
pub failed : (s : Stream) (i errno : ℕ) (e : Error) → e ≡ from_errno errno (ErrnoContext.Submit (s.setup.slots * s.setup.packets_per_urb * s.setup.packet_bytes)) → (r : Reply) → Gives s (put_back i (Answer.Refused e) (view s) []) r [] → Gives s (submit_failed s.setup i errno (view s) []) r []
unfolding submit_failed
failed s i errno e a r g = subst (λ (x : Error). Gives s (put_back i (Answer.Refused x) (view s) []) r []) a g

-- it leaves any block as it was
pub failed-lent : (s : Stream) (i errno : ℕ) (r : Reply) (block : List ℕ) → Gives s (submit_failed s.setup i errno (view s) []) r [] → Gives s (submit_failed s.setup i errno (view s) block) r block
unfolding submit_failed
failed-lent s i errno r block g = back-lent s i _ (view s) r block g
