-- `front::silence_taken` meets its contract: a silent hand's slot is filled, and any other hand leaves the block. Assumes nothing.
use mathlib.Core.Logic.{inl, inr}
use mathlib.Core.Path.{refl}
use borrow.Author.Tests.{eq-eqb}
use Rattle.ring.specs.Slots.{holds}
use Rattle.front.specs.Front.{after_silence}
use Rattle.front.proofs.silence_taken.Goals as goal

pub fill_silence-requires : goal.fill_silence-requires
unfolding holds
fill_silence-requires c =
    (c.requires.0, c.requires.1 _ (rw (c.in-Silent.is, eq-eqb _ _ refl)), c.requires.2)

pub returns-in-Idle : goal.returns-in-Idle
unfolding after_silence
returns-in-Idle c = elim c.in-Idle.is [ inl e ↦ rw e | inr other ↦ elim other [ inl e ↦ rw e.1 | inr e ↦ rw e.1 ] ]

pub returns-in-Silent : goal.returns-in-Silent
unfolding after_silence
returns-in-Silent c =
    rw c.in-Silent.is c.fill_silence.ensures
