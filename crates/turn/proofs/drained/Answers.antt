-- `turn::drained` meets its contract: a sound record's out count is how many are out.
-- Assumes nothing.
use Rattle.std.proofs.Common.{◌≡◌, Bool, ◌&&◌, eqb, sym, ap, ◌∙◌}
use Rattle.stream.proofs.Arrays.{arrays}
use Rattle.turn.proofs.Underruns.{drained-is}
use Rattle.turn.proofs.drained.Goals.{then-s, else-s}
use Rattle.turn.proofs.drained.Goals as goal

pub returns-then-s-2 : goal.returns-then-s-2
returns-then-s-2 c =
    let s = c.args.s in
    let flags : (s.flags.started && s.flags.armed) ≡ c.if-s.value = elim c.if-s.branch [ then-s w ↦ rw w.if-s.true (sym w.value-is) | else-s w ↦ rw w.if-s.false (sym (w.value-is ∙ w.if-s.false)) ] in
    sym
    (drained-is s c.requires (arrays s c.well_formed.0) ∙
    ap (λ (b : Bool). b && eqb s.ring.in_flight 0) (flags ∙ c.if-s-2.true))

pub returns-else-s-2 : goal.returns-else-s-2
returns-else-s-2 c =
    let s = c.args.s in
    let flags : (s.flags.started && s.flags.armed) ≡ c.if-s.value = elim c.if-s.branch [ then-s w ↦ rw w.if-s.true (sym w.value-is) | else-s w ↦ rw w.if-s.false (sym (w.value-is ∙ w.if-s.false)) ] in
    c.if-s-2.false ∙
    sym
    (drained-is s c.requires (arrays s c.well_formed.0) ∙
    ap (λ (b : Bool). b && eqb s.ring.in_flight 0) (flags ∙ c.if-s-2.false))
