-- `ring::Ring::sound`: more than 256 slots are refused, and else the pieces joined are the test.
use borrow.Author.Tests.{lt-leb}
use Rattle.ring.specs.Sound.{sound_ring}
use Rattle.ring.proofs.Joined.{joined}
use Rattle.ring.proofs.Ring.sound.Goals as goal

pub returns-then-n-gt256 : goal.returns-then-n-gt256
unfolding sound_ring
returns-then-n-gt256 c = rw (lt-leb _ _ c.if-n-gt256.true)

pub returns : goal.returns
returns c =
    rw (c.hand_sound.ensures, c.out_sound.ensures, c.count_sound.ensures)
    (joined c.args.n c.if-n-gt256.false c.args.self.now c.args.hand c.home-home.ensures.places _ c.home-home.ensures.slots)
