-- Every call keeps a ledger valid: each of the ten rules does.
-- Assumes nothing.
use Prim.Native.Nat.{ℕ}
use Rattle.layout.specs.declared.Setup.{Setup}
use Rattle.layout.specs.Opening.{capacity_of}
use Rattle.ledger.specs.Ledger.{Ledger}
use Rattle.ledger.specs.Commit as Commit
use Rattle.ledger.specs.Calls.{Call, turn, commit, commit_full, commit_packets, submitted, reaped, give_back, start, stop, finish, rule, step_of}
use Rattle.ledger.proofs.Valid.{Valid}
use Rattle.ledger.proofs.Kept as Kept
use Rattle.ledger.proofs.KeptReplies as Replies
use Rattle.ledger.proofs.KeptControl as Control

pub step-valid : (n : ℕ) (s : Setup) (c : Call) (l : Ledger) → Valid n l → Valid n (step_of s c l).ledger
unfolding step_of rule Commit.commit_full
step-valid n s (turn block) l v = Kept.turn-valid n s l _ v
step-valid n s (commit bytes block) l v = Kept.commit-valid n bytes s l _ v
step-valid n s (commit_full block) l v = Kept.commit-valid n (capacity_of s) s l _ v
step-valid n s (commit_packets lengths block) l v = Kept.packets-valid n lengths s l _ v
step-valid n s (submitted reply block) l v = Replies.submitted-valid n reply s l _ v
step-valid n s (reaped reply block) l v = Replies.reaped-valid n reply s l _ v
step-valid n s give_back l v = Control.give-back-valid n s l _ v
step-valid n s start l v = Control.start-valid n s l _ v
step-valid n s (stop list) l v = Control.stop-valid n s l _ v
step-valid n s finish l v = Control.finish-valid n s l _ v
