-- The order of a rule's first tests: a block of the wrong length gives 6 whatever the hand is. By computing. Assumes nothing.
use mathlib.Core.Path.{◌≡◌}
use mathlib.Core.Bool.{Bool, true, false}
use lib.Dec.{eqb}
use lib.ListN.{length}
use Rattle.error.specs.declared.Error.{Error}
use Rattle.layout.specs.declared.Setup.{Setup}
use Rattle.layout.specs.Opening.{total_of}
use Rattle.ledger.specs.Ledger.{Ledger}
use Rattle.ledger.specs.Step.{refused, on_block, when_idle, when_held}
use Rattle.ledger.specs.Calls.{Call, turn, commit, commit_full, commit_packets, submitted, reaped, give_back, start, stop, finish}
use Rattle.ledger.specs.Calls.{rule, lent_to, step_of}
use Rattle.ledger.specs.Turn as Turn
use Rattle.ledger.specs.Commit as Commit
use Rattle.ledger.specs.Submitted as Submitted
use Rattle.ledger.specs.Reaped as Reaped

-- whether a call is lent a block
abbrev pub is_lent_block : Call → Bool
is_lent_block (turn block) = true
is_lent_block (commit bytes block) = true
is_lent_block (commit_full block) = true
is_lent_block (commit_packets lengths block) = true
is_lent_block (submitted reply block) = true
is_lent_block (reaped reply block) = true
is_lent_block give_back = false
is_lent_block start = false
is_lent_block (stop list) = false
is_lent_block finish = false

-- 6 before 9
pub six-before-nine : (s : Setup) (l : Ledger) (c : Call) → is_lent_block c ≡ true → eqb (length (lent_to c)) (total_of s) ≡ false → step_of s c l ≡ refused Error.BlockLength l (lent_to c)
unfolding step_of rule lent_to on_block when_idle when_held Turn.turn Commit.commit Commit.commit_full Commit.commit_packets Submitted.submitted Reaped.reaped
six-before-nine s l (turn block) b p = rw p
six-before-nine s l (commit bytes block) b p = rw p
six-before-nine s l (commit_full block) b p = rw p
six-before-nine s l (commit_packets lengths block) b p = rw p
six-before-nine s l (submitted reply block) b p = rw p
six-before-nine s l (reaped reply block) b p = rw p
six-before-nine s l give_back b p = cc
six-before-nine s l start b p = cc
six-before-nine s l (stop list) b p = cc
six-before-nine s l finish b p = cc
