-- `turn::on_underrun` meets its contract: each arm knows the policy, and what its callee gives on the record after the count is what the rule
-- says of the ledger after the count. Assumes nothing.
use Rattle.std.proofs.Common.{◌≡◌, ℕ, true, List, sym, ap, ◌∙◌, subst}
use Rattle.layout.specs.declared.Setup.{Setup}
use Rattle.ring.specs.declared.Hand.{Hand}
use Rattle.ring.proofs.Wide.{Wide}
use Rattle.stream.proofs.Arrays.{arrays}
use Rattle.stream.specs.declared.Reply.{Reply}
use Rattle.stream.specs.declared.Stream.{Stream}
use Rattle.stream.proofs.Soundness.{setup-admissible}
use Rattle.stream.specs.Sound.{sound}
use Rattle.ledger.specs.Ledger.{Ledger}
use Rattle.ledger.specs.Step.{Next}
use Rattle.ledger.specs.Turn.{take_front, silence_front, underrun, on_underrun}
use Rattle.ledger.specs.Record.{view, stored}
use Rattle.ledger.proofs.Kept.{underrun-valid}
use Rattle.ledger.proofs.Calls.{stored-setup}
use Rattle.ledger.proofs.Valid.{Valid, sound-valid, stored-wide}
use Rattle.ledger.specs.Gives.{Gives}
use Rattle.front.proofs.Again.{sound-again, hand-again, gives-again}
use Rattle.front.specs.Front.{after_silence}
use Rattle.front.proofs.Taking.{silent-below, silenced-front, take-lent}
use Rattle.turn.proofs.Underruns.{underrun-queue, underrun-hand, by-policy, told-underrun}
use Rattle.turn.proofs.on_underrun.Goals as goal

-- the record after the count
module _ (s to : Stream) (wide : Wide s.ring) (ok : sound s ≡ true) (e : to ≡ stored s (underrun (view s))) where
  -- the ledger after the count is valid
  valid : Valid s.setup.slots (underrun (view s))
  valid = underrun-valid _ _ (sound-valid s ok wide)

  to-sound : sound to ≡ true
  to-sound = sound-again s ok wide _ valid to e

  to-idle : s.hand ≡ Hand.Idle → to.hand ≡ Hand.Idle
  to-idle idle = hand-again s ok wide _ valid to e ∙ underrun-hand s ok wide ∙ idle

  -- a rule on it is the rule on the ledger after the count
  from-count : (rule : Setup → Ledger → Next) (r : Reply) (left : List ℕ) → Gives to (rule to.setup (view to)) r left → Gives s (rule s.setup (underrun (view s))) r left
  from-count = gives-again s ok wide _ valid to e (underrun-queue s ok wide)

  to-wide : Wide to.ring
  to-wide = subst (λ (x : Stream). Wide x.ring) (sym e) (stored-wide s _ valid (setup-admissible s ok) wide)

  to-setup : to.setup ≡ s.setup
  to-setup = ap (λ (x : Stream). x.setup) e ∙ stored-setup s _

pub take_front-requires : goal.take_front-requires
take_front-requires c =
    let s = c.args.s in
    let w = arrays s c.well_formed.0 in
    let e = c.count_underrun-counted.ensures in
    (to-sound s _ w c.requires.0 e, to-idle s _ w c.requires.0 e c.requires.1)

pub take_silent-done-requires : goal.take_silent-done-requires
take_silent-done-requires c =
    let s = c.args.s in
    let w = arrays s c.well_formed.0 in
    let e = c.count_underrun-counted.ensures in
    (to-sound s _ w c.requires.0 e, to-idle s _ w c.requires.0 e c.requires.1)

pub silence_taken-requires : goal.silence_taken-requires
silence_taken-requires c =
    let s = c.args.s in
    let w = arrays s c.well_formed.0 in
    let e = c.count_underrun-counted.ensures in
    let to = c.count_underrun-counted.result in (
      setup-admissible s c.requires.0,
      λ i held. rw (← to-setup s to w c.requires.0 e) (silent-below to (to-sound s to w c.requires.0 e) (to-wide s to w c.requires.0 e) 1 _ c.take_silent-done.ensures i held),
      c.requires.2,
    )

pub returns-in-Continue : goal.returns-in-Continue
unfolding on_underrun
returns-in-Continue c =
    let s = c.args.s in
    let to = c.count_underrun-counted.result in
    let block = c.args.block.now in
    by-policy s block _ _ _ _ c.in-Continue.is
    (from-count s to (arrays s c.well_formed.0) c.requires.0 c.count_underrun-counted.ensures (λ (st : Setup) (l : Ledger). take_front l.queue l block) _ _
    (take-lent to (view to).queue (view to) _ block c.take_front.ensures))

pub returns-in-FillSilence : goal.returns-in-FillSilence
unfolding on_underrun
returns-in-FillSilence c =
    let s = c.args.s in
    let w = arrays s c.well_formed.0 in
    let e = c.count_underrun-counted.ensures in
    let to = c.count_underrun-counted.result in
    let block = c.args.block.now in
    by-policy s block _ _ _ _ c.in-FillSilence.is
    (from-count s to w c.requires.0 e (λ (st : Setup) (l : Ledger). silence_front st 1 l.queue l block) _ _
    (silenced-front to (to-sound s to w c.requires.0 e) (to-wide s to w c.requires.0 e) 1 _ c.take_silent-done.ensures block _
    (c.silence_taken.ensures ∙ ap (λ (st : Setup). after_silence st c.take_silent-done.result.stream.hand block) (sym (to-setup s to w c.requires.0 e)))))

pub returns-in-Error : goal.returns-in-Error
returns-in-Error c =
    by-policy c.args.s c.args.block.now _ _ _ _ c.in-Error.is
    (rw c.refused.ensures
    (told-underrun c.args.s c.requires.0 (arrays c.args.s c.well_formed.0) _ c.count_underrun-counted.ensures c.args.block.now))
