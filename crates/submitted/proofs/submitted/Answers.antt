-- `submitted::submitted` meets its contract: refused by the gate; refused by the hand; else what `sent` or `silent` gives is the rule's outcome.
-- Assumes nothing.
use Rattle.std.specs.Prelude.{Ok, Some, Result}
use Rattle.std.proofs.Common.{◌≡◌, ℕ, true, List, length, sym, refl, ap, ◌∙◌, eq-eqb, inl, inr}
use Rattle.error.specs.declared.Error.{Error}
use Rattle.layout.specs.Opening.{total_of}
use Rattle.ring.specs.declared.Hand.{Hand}
use Rattle.ring.specs.Slots.{holds}
use Rattle.ring.proofs.Wide.{Wide}
use Rattle.stream.specs.declared.Answer.{Answer}
use Rattle.stream.specs.declared.Reply.{Reply}
use Rattle.stream.specs.declared.Stream.{Stream}
use Rattle.stream.specs.Sound.{sound}
use Rattle.stream.proofs.Arrays.{arrays}
use Rattle.ledger.specs.Calls.{submitted, rule, lent_to, step_of}
use Rattle.ledger.specs.Record.{view}
use Rattle.ledger.specs.Step.{refused}
use Rattle.ledger.specs.Submitted as Submitted
use Rattle.ledger.specs.Told.{Told}
use Rattle.ledger.proofs.Calls.{told-gives}
use Rattle.gate.specs.Gate.{block_gate}
use Rattle.gate.proofs.Gates.{block-open, block_refused, hand-refused, past-block}
use Rattle.submitted.proofs.submitted.Goals as goal

module _ (s : Stream) (reply : Result (Unit {0}) ℕ) (x : List ℕ) (is-open : block_gate s (Some (length x)) ≡ (Ok tt)) where
  passed : (sound s ≡ true) × (length x ≡ total_of s.setup)
  passed = block-open s (Some _) x refl is-open

  -- past the gate, by the hand
  by_hand : (h : Hand) → s.hand ≡ h → step_of s.setup (submitted reply x) (view s) ≡ Submitted.by_sending reply h s.setup (view s) x
  unfolding rule lent_to Submitted.submitted Submitted.submitted_hand view
  by_hand h e =
      past-block s (Some (length x)) (submitted reply x) (Submitted.submitted_hand reply) refl refl passed.1 ∙
      ap (λ (y : Hand). Submitted.by_sending reply y s.setup (view s) x) e

  -- refused by the hand
  wrong : Wide s.ring → (h : Hand) → s.hand ≡ h → Submitted.by_sending reply h s.setup (view s) x ≡ refused Error.WrongHand (view s) x → (r : Reply) → r ≡ record { stream = s; answer = Answer.Refused Error.WrongHand } → Told (submitted reply x) s r.answer r.stream x
  unfolding rule lent_to Submitted.submitted Submitted.submitted_hand view
  wrong w h e refuses r f =
      rw f
      (hand-refused s (Some (length x)) (submitted reply x) (Submitted.submitted_hand reply) refl refl w Error.WrongHand is-open refl
      (ap (λ (y : Hand). Submitted.by_sending reply y s.setup (view s) x) e ∙ refuses))

pub sent-requires : goal.sent-requires
unfolding holds
sent-requires c =
    let s = c.args.s in
    let p = passed s c.args.reply c.args.block.now (sym c.block_gate.ensures ∙ c.in-Ok.is) in
    (p.0, rw (c.in-Sending.is, eq-eqb _ _ refl), p.1)

pub silent-requires : goal.silent-requires
unfolding holds
silent-requires c =
    let s = c.args.s in
    let p = passed s c.args.reply c.args.block.now (sym c.block_gate.ensures ∙ c.in-Ok.is) in
    (p.0, rw (c.in-Silent.is, eq-eqb _ _ refl), p.1)

pub returns-in-Err : goal.returns-in-Err
unfolding rule lent_to Submitted.submitted
returns-in-Err c =
    let s = c.args.s in
    let x = c.args.block.now in
    rw c.refused.ensures
    (block_refused s (Some _) (submitted c.args.reply x) (Submitted.submitted_hand c.args.reply) refl refl (arrays s c.well_formed.0) _
    (sym c.block_gate.ensures ∙ c.in-Err.is))

pub returns-in-Idle : goal.returns-in-Idle
unfolding Submitted.by_sending
returns-in-Idle c =
    let s = c.args.s in
    let is-open = sym c.block_gate.ensures ∙ c.in-Ok.is in
    let refuses = wrong s c.args.reply c.args.block.now is-open (arrays s c.well_formed.0) in
    elim c.in-Idle.is [ inl e ↦ refuses _ e refl _ c.refused-in-Idle.ensures | inr held ↦ refuses _ held.1 refl _ c.refused-in-Idle.ensures ]

pub returns-in-Sending : goal.returns-in-Sending
unfolding Submitted.by_sending
returns-in-Sending c =
    let s = c.args.s in
    let is-open = (sym c.block_gate.ensures ∙ c.in-Ok.is) in
    told-gives _ _ (passed s c.args.reply c.args.block.now is-open).0 _ (by_hand s c.args.reply c.args.block.now is-open _ c.in-Sending.is) _ _ c.sent.ensures

pub returns-in-Silent : goal.returns-in-Silent
unfolding Submitted.by_sending
returns-in-Silent c =
    let s = c.args.s in
    let is-open = (sym c.block_gate.ensures ∙ c.in-Ok.is) in
    told-gives _ _ (passed s c.args.reply c.args.block.now is-open).0 _ (by_hand s c.args.reply c.args.block.now is-open _ c.in-Silent.is) _ _ c.silent.ensures
