-- `Stream::sound` meets its contract: the setup's test and the ring's pieces, joined, are the test of 8. Assumes nothing.
use Rattle.stream.proofs.Joined.{joined}
use Rattle.stream.proofs.Stream.sound.Goals as goal

pub returns : goal.returns
returns c =
    joined c.args.self.now c.home-home.ensures.places _ c.home-home.ensures.slots c.admissible.ensures c.hand_sound.ensures c.out_sound.ensures
    c.count_sound.ensures
