-- The walks at the signatures of the calls. For each shape of parameters: a function that makes a call by value on a lent record keeps the promise of the lent call, where the callee keeps that of
-- the call by value (`.. -lent`); and a function that lends its record to a lent call keeps the promise of the call by value, where the callee keeps that of the lent call (`.. -local`).
-- Assumes nothing.
use mathlib.Core.Path.{◌≡◌}
use Prim.Native.Nat.{ℕ, ◌<◌, ◌^◌}
use mathlib.Core.List.{List, [], ◌∷◌}
use lib.ListN.{length}
use seplogic.Ra.Ura.{Ura}
use base.Fraction.{full_share}
use mir.Syntax.{Width, Callee, Fn, Ty, named, imm, ty_int, ty_ref, w8, w64}
use mir.Val.{Val, vptr}
use base.Logic.{ent, mono_r}
use base.Fml.{GName}
use prog.Routine.{Env, Routine}
use prog.Model.{Model}
use types.Logic.{Logic, sem}
use prog.Wp.{Calls, Loops, Closed, WpFn}
use contract.Lifetimes.{Lfts}
use contract.Monad.{top, fact, fact_i}
use contract.Running.{Running, tables, tables_of}
use sound.WpLaws.{FmC, fm_of, fm→mono_c}
use denote.Builtin.{u8, usize}
use denote.Laws.{Tells, Is as Relation}
use denote.Memory.{pointee}
use denote.Plain.{UInt}
use denote.RattleType.{RattleType}
use denote.Ref.{Bor, MutBor, mut_vals, mut_Tells}
use denote.Steps.{only}
use denote.Slice.{slice_ty, shr_slice_vals, mut_slice_vals, mut_slice_Tells, shr_slice_Tells}
use denote.Triple.Clauses.{Clauses, AtExit, at_exit, lasts, closing}
use denote.Triple.Entry.{Args, Res}
use denote.Triple.Spec.{triple_of}
use denote.Triple.Statement.{Triple}
use denote.Triple.Table.{entered, cited}
use denote.Triple.Weaken.{weaken_under}
use Rattle.stream.specs.declared.Stream.{Stream}
use Rattle.stream.specs.contracts.Answer as N
use Rattle.stream.proofs.Answer.TheLaws as N'
use Rattle.stream.proofs.Reply.TheLaws as R'
use Rattle.stream.specs.contracts.Stream as S
use Rattle.stream.proofs.Stream.TheLaws as S'
use Rattle.ledger.specs.Calls.{Call}
use Rattle.lent_shapes.proofs.Contracts as promise
use Rattle.lent_shapes.proofs.Contracts.{Promise, stating, triple, beside, Spelled, Told-by, Walked, at-values}
use Rattle.lent_shapes.proofs.LentWalks as lent
use Rattle.lent_shapes.proofs.LocalWalks as local
use Rattle.lent_shapes.proofs.Bodies as bodies
use Rattle.lent_shapes.proofs.Record.{stream, reply}
use Rattle.lent_shapes.proofs.Types.{Fits, Datum, Rest}

-- the MIR type of a `&'j [T]`, T being numbers of the width w, and that its machine value has it
abbrev shared : ℕ → Width → Ty
shared j w = slice_ty (ty_ref (named j) imm (ty_int w))

fits-shared : (j : ℕ) (w : Width) (l : Bor (List ℕ)) → length l.now < 2 ^ 64 → Fits (shared j w) (only (shr_slice_vals l))
fits-shared j w l m = (tt, (tt, (record { fits = m }, tt)))

module _ {M : Type 1} {𝓤 : Ura M} (𝓛 : Logic 𝓤) (𝓜 : Model 𝓤 𝓛.H) (𝓡 : Running 𝓤 𝓛.H 𝓜) (env : Env) (f g : Callee) (routine : Routine) (calls : env g ≡ routine) where
  open 𝓛 use {H}

  abbrev C : Calls 𝓤 H
  C = (tables 𝓤 H 𝓜 𝓡 env).C

  abbrev Λ : Loops 𝓤 H
  Λ = (tables 𝓤 H 𝓜 𝓡 env).Λ

  fm : FmC 𝓤 H 𝓛.laws C
  unfolding tables_of
  fm = fm_of 𝓤 H 𝓛.laws (tables_of 𝓤 H 𝓜 (tables 𝓤 H 𝓜 𝓡 env))

  abbrev val : Stream → Val
  val = (stream 𝓛).val

  abbrev tells : Tells S.the_row (Relation S.the_row) (λ x. val x ∷ [])
  tells = (stream 𝓛).tells

  -- a reference to the record h in a local at b
  abbrev at : ℕ → GName → Stream → MutBor Stream
  at b γ h = record { ref_ptr = (b, 0); ghost_name = γ; now = h }

  -- the callee's routine keeps this promise
  abbrev Known : Promise → Type 1
  Known P = Triple 𝓤 (𝓡.run routine) (triple 𝓛 P)

  -- what stands at f meets each contract that follows from this promise
  abbrev Follows : (P : Promise) → Clauses 𝓤 P.ended → Type 1
  Follows P c = (κs : Lfts P.ended.signature.lifetimes) (a : Args P.ended.signature κs) (g : (c κs a).ghost) (r : Res P.ended.signature κs) (e : AtExit P.ended κs)
      → ent 𝓤 (fact 𝓤 (P.ensures κs a r e)) ((c κs a).ensures g r e)

  abbrev Keeps : Promise → Type 2
  Keeps P = (c : Clauses 𝓤 P.ended) → Follows P c → Triple 𝓤 (C f) (triple_of 𝓛 P.ended.signature (closing 𝓛 P.ended c))

  -- what stands at f is this MIR
  abbrev Is : ((σ α ρ π : Ty) → Fn) → Type 2
  Is body = Closed 𝓤 H C Λ f (body S'.mir N'.mir R'.mir (pointee (S.the_row).written))

  at_key : (P : Promise) → Known P → Triple 𝓤 (C g) (triple 𝓛 P)
  at_key P = cited 𝓤 H (triple 𝓛 P) 𝓜 𝓡 env g routine calls

  keeps : (P : Promise) → Triple 𝓤 (C f) (triple 𝓛 P) → Keeps P
  keeps P kept c follows =
      weaken_under 𝓛 P.ended (stating 𝓛 P) c (λ κs a g. tt) (λ κs a g. Unit {0})
      (λ κs a g. fact_i 𝓤 (Unit {0}) ((c κs a).requires g) tt) (λ κs a g _. top 𝓤 ((c κs a).requires g))
      (λ κs a g _ r ws. mono_r 𝓤 (sem 𝓛 (lasts P.ended κs a ws)) (follows κs a g r (at_exit P.ended κs a ws))) (C f) (fm→mono_c 𝓤 H 𝓛.laws C fm f) kept

  by-walk : (P : Promise) (body : (σ α ρ π : Ty) → Fn) → Is body → (sp : Spelled 𝓛 P) → Told-by 𝓛 P sp → Walked 𝓛 P sp (WpFn 𝓤 H C Λ (body S'.mir N'.mir R'.mir (pointee (S.the_row).written))) → Keeps P
  by-walk P body closed sp tl k =
      let function = body S'.mir N'.mir R'.mir (pointee (S.the_row).written) in
      keeps P (entered 𝓤 H (triple 𝓛 P) C Λ f function closed (at-values 𝓛 P sp tl (WpFn 𝓤 H C Λ function) k))

  -- ---- no other parameter
  module _ (c : Call) where
    abbrev beside₀ : (triple 𝓛 (promise.alone c)).Ghost → Rest 𝓛 S.the_row N.the_row
    beside₀ = beside 𝓛 0 [] (promise.alone c).ensures

    pub alone-lent : Is (λ σ α ρ π. bodies.alone-lent σ α ρ π g) → Known (promise.alone c) → Keeps (promise.alone-lent c)
    alone-lent closed known = by-walk (promise.alone-lent c) (λ σ α ρ π. bodies.alone-lent σ α ρ π g) closed (λ κs. (mut_vals, tt)) (λ κs. (mut_Tells (named 0) κs.0 S.the_row, tt)) (λ y _.
        let (κs, qs, _, (x, _), _) = y.0 in
        let z : (triple 𝓛 (promise.alone c)).Ghost = ((tt, tt, tt, (x.now, tt), (val x.now ∷ [], tt)), tt) in
        lent.alone 𝓛 (reply 𝓛) (beside₀ z) C Λ fm g κs.0 qs.0 x.ref_ptr.0 x.ref_ptr.1 x.ghost_name x.now (at_key (promise.alone c) known z))

    pub alone-local : Is (λ σ α ρ π. bodies.alone-local σ α ρ π g) → Known (promise.alone-lent c) → Keeps (promise.alone c)
    alone-local closed known = by-walk (promise.alone c) (λ σ α ρ π. bodies.alone-local σ α ρ π g) closed (λ κs. ((λ x. val x ∷ []), tt)) (λ κs. (tells, tt)) (λ y _.
        let (_, _, _, (h, _), _) = y.0 in
        local.alone 𝓛 (reply 𝓛) (beside₀ ((tt, tt, tt, (h, tt), (val h ∷ [], tt)), tt)) C Λ fm g h (λ α b γ.
        at_key (promise.alone-lent c) known (((α ∷ [], tt), (full_share, tt), tt, (at b γ h, tt), (vptr b 0 ∷ [], tt)), tt)))

  -- ---- a slice by `&mut`
  module _ (w : Width) (c : List ℕ → Call) where
    abbrev beside₁ : (triple 𝓛 (promise.slice w c)).Ghost → Rest 𝓛 S.the_row N.the_row
    beside₁ = beside 𝓛 1 (promise.of-slice 0 tt w) (promise.slice w c).ensures

    pub slice-lent : Is (λ σ α ρ π. bodies.slice-lent σ α ρ π (ty_int w) g) → Known (promise.slice w c) → Keeps (promise.slice-lent w c)
    slice-lent closed known = by-walk (promise.slice-lent w c) (λ σ α ρ π. bodies.slice-lent σ α ρ π (ty_int w) g) closed (λ κs. (mut_vals, (mut_slice_vals, tt)))
        (λ κs. (mut_Tells (named 0) κs.0 S.the_row, (mut_slice_Tells (named 1) κs.1.0 (UInt w), tt))) (λ y are.
        let (κs, qs, _, (x, (l, _)), _) = y.0 in
        let z : (triple 𝓛 (promise.slice w c)).Ghost = ((κs.1, qs.1, tt, (x.now, (l, tt)), (val x.now ∷ [], (mut_slice_vals l, tt))), tt) in
        lent.slice 𝓛 (reply 𝓛) (beside₁ z) C Λ fm g κs.0 qs.0 x.ref_ptr.0 x.ref_ptr.1 x.ghost_name x.now (ty_int w) l.ref_ptr (length l.now) are.1.0.0.1.0 (at_key (promise.slice w c) known z))

    pub slice-local : Is (λ σ α ρ π. bodies.slice-local σ α ρ π (ty_int w) g) → Known (promise.slice-lent w c) → Keeps (promise.slice w c)
    slice-local closed known = by-walk (promise.slice w c) (λ σ α ρ π. bodies.slice-local σ α ρ π (ty_int w) g) closed (λ κs. ((λ x. val x ∷ []), (mut_slice_vals, tt)))
        (λ κs. (tells, (mut_slice_Tells (named 0) κs.0 (UInt w), tt))) (λ y are.
        let (κs, qs, _, (h, (l, _)), _) = y.0 in
        local.slice 𝓛 (reply 𝓛) (beside₁ ((κs, qs, tt, (h, (l, tt)), (val h ∷ [], (mut_slice_vals l, tt))), tt)) C Λ fm g h (ty_int w) l.ref_ptr (length l.now) are.1.0.0.1.0 (λ α b γ.
        at_key (promise.slice-lent w c) known (((α ∷ [], κs), (full_share, qs), tt, (at b γ h, (l, tt)), (vptr b 0 ∷ [], (mut_slice_vals l, tt))), tt)))

  module _ (X : RattleType) (d : Datum 𝓛 X) (c : X.Denot → List ℕ → Call) where
    -- ---- a value, and the block by `&mut`
    abbrev beside₂ : (triple 𝓛 (promise.value-slice X c)).Ghost → Rest 𝓛 S.the_row N.the_row
    beside₂ = beside 𝓛 1 (promise.of-value-slice 0 tt X) (promise.value-slice X c).ensures

    pub value-slice-lent : Is (λ σ α ρ π. bodies.value-slice-lent σ α ρ π 2 (named 1) d.mir (ty_int w8) g) → Known (promise.value-slice X c) → Keeps (promise.value-slice-lent X c)
    value-slice-lent closed known = by-walk (promise.value-slice-lent X c) (λ σ α ρ π. bodies.value-slice-lent σ α ρ π 2 (named 1) d.mir (ty_int w8) g) closed
        (λ κs. (mut_vals, ((λ v. d.val v ∷ []), (mut_slice_vals, tt)))) (λ κs. (mut_Tells (named 0) κs.0 S.the_row, (d.tells, (mut_slice_Tells (named 1) κs.1.0 u8, tt)))) (λ y are.
        let (κs, qs, _, (x, (v, (l, _))), _) = y.0 in
        let z : (triple 𝓛 (promise.value-slice X c)).Ghost = ((κs.1, qs.1, tt, (x.now, (v, (l, tt))), (val x.now ∷ [], (d.val v ∷ [], (mut_slice_vals l, tt)))), tt) in
        lent.value-slice 𝓛 (reply 𝓛) (beside₂ z) C Λ fm g κs.0 qs.0 x.ref_ptr.0 x.ref_ptr.1 x.ghost_name x.now (ty_int w8) l.ref_ptr (length l.now) are.1.1.0.0.1.0
        2 (named 1) d.mir (d.val v) (d.fits v _ are.1.0) (at_key (promise.value-slice X c) known z))

    pub value-slice-local : Is (λ σ α ρ π. bodies.value-slice-local σ α ρ π 1 (named 0) d.mir (ty_int w8) g) → Known (promise.value-slice-lent X c) → Keeps (promise.value-slice X c)
    value-slice-local closed known = by-walk (promise.value-slice X c) (λ σ α ρ π. bodies.value-slice-local σ α ρ π 1 (named 0) d.mir (ty_int w8) g) closed
        (λ κs. ((λ x. val x ∷ []), ((λ v. d.val v ∷ []), (mut_slice_vals, tt)))) (λ κs. (tells, (d.tells, (mut_slice_Tells (named 0) κs.0 u8, tt)))) (λ y are.
        let (κs, qs, _, (h, (v, (l, _))), _) = y.0 in
        local.value-slice 𝓛 (reply 𝓛) (beside₂ ((κs, qs, tt, (h, (v, (l, tt))), (val h ∷ [], (d.val v ∷ [], (mut_slice_vals l, tt)))), tt)) C Λ fm g h (ty_int w8) l.ref_ptr (length l.now) are.1.1.0.0.1.0
        1 (named 0) d.mir (d.val v) (d.fits v _ are.1.0) (λ α b γ.
        at_key (promise.value-slice-lent X c) known (((α ∷ [], κs), (full_share, qs), tt, (at b γ h, (v, (l, tt))), (vptr b 0 ∷ [], (d.val v ∷ [], (mut_slice_vals l, tt)))), tt)))

    -- ---- a value, and the block by `&`
    abbrev beside₃ : (triple 𝓛 (promise.value-shared X c)).Ghost → Rest 𝓛 S.the_row N.the_row
    beside₃ = beside 𝓛 1 (promise.of-value-shared 0 tt X) (promise.value-shared X c).ensures

    pub value-shared-lent : Is (λ σ α ρ π. bodies.two-values-lent σ α ρ π d.mir (shared 1 w8) g) → Known (promise.value-shared X c) → Keeps (promise.value-shared-lent X c)
    value-shared-lent closed known = by-walk (promise.value-shared-lent X c) (λ σ α ρ π. bodies.two-values-lent σ α ρ π d.mir (shared 1 w8) g) closed
        (λ κs. (mut_vals, ((λ v. d.val v ∷ []), (shr_slice_vals, tt)))) (λ κs. (mut_Tells (named 0) κs.0 S.the_row, (d.tells, (shr_slice_Tells (named 1) κs.1.0 u8, tt)))) (λ y are.
        let (κs, qs, _, (x, (v, (l, _))), _) = y.0 in
        let z : (triple 𝓛 (promise.value-shared X c)).Ghost = ((κs.1, qs.1, tt, (x.now, (v, (l, tt))), (val x.now ∷ [], (d.val v ∷ [], (shr_slice_vals l, tt)))), tt) in
        lent.two-values 𝓛 (reply 𝓛) (beside₃ z) C Λ fm g κs.0 qs.0 x.ref_ptr.0 x.ref_ptr.1 x.ghost_name x.now d.mir (shared 1 w8) (d.val v) (only (shr_slice_vals l)) (d.fits v _ are.1.0)
        (fits-shared 1 w8 l are.1.1.0.0.1.0) (at_key (promise.value-shared X c) known z))

    pub value-shared-local : Is (λ σ α ρ π. bodies.two-values-local σ α ρ π d.mir (shared 0 w8) g) → Known (promise.value-shared-lent X c) → Keeps (promise.value-shared X c)
    value-shared-local closed known = by-walk (promise.value-shared X c) (λ σ α ρ π. bodies.two-values-local σ α ρ π d.mir (shared 0 w8) g) closed
        (λ κs. ((λ x. val x ∷ []), ((λ v. d.val v ∷ []), (shr_slice_vals, tt)))) (λ κs. (tells, (d.tells, (shr_slice_Tells (named 0) κs.0 u8, tt)))) (λ y are.
        let (κs, qs, _, (h, (v, (l, _))), _) = y.0 in
        local.two-values 𝓛 (reply 𝓛) (beside₃ ((κs, qs, tt, (h, (v, (l, tt))), (val h ∷ [], (d.val v ∷ [], (shr_slice_vals l, tt)))), tt)) C Λ fm g h d.mir (shared 0 w8) (d.val v) (only (shr_slice_vals l)) (d.fits v _ are.1.0)
        (fits-shared 0 w8 l are.1.1.0.0.1.0) (λ α b γ.
        at_key (promise.value-shared-lent X c) known (((α ∷ [], κs), (full_share, qs), tt, (at b γ h, (v, (l, tt))), (vptr b 0 ∷ [], (d.val v ∷ [], (shr_slice_vals l, tt)))), tt)))

  -- ---- a list by `&`, and the block by `&mut`
  module _ (c : List ℕ → List ℕ → Call) where
    abbrev beside₄ : (triple 𝓛 (promise.list-slice c)).Ghost → Rest 𝓛 S.the_row N.the_row
    beside₄ = beside 𝓛 2 (promise.of-list-slice 0 tt 1 tt) (promise.list-slice c).ensures

    pub list-slice-lent : Is (λ σ α ρ π. bodies.value-slice-lent σ α ρ π 3 (named 2) (shared 1 w64) (ty_int w8) g) → Known (promise.list-slice c) → Keeps (promise.list-slice-lent c)
    list-slice-lent closed known = by-walk (promise.list-slice-lent c) (λ σ α ρ π. bodies.value-slice-lent σ α ρ π 3 (named 2) (shared 1 w64) (ty_int w8) g) closed
        (λ κs. (mut_vals, (shr_slice_vals, (mut_slice_vals, tt)))) (λ κs. (mut_Tells (named 0) κs.0 S.the_row, (shr_slice_Tells (named 1) κs.1.0 usize, (mut_slice_Tells (named 2) κs.1.1.0 u8, tt)))) (λ y are.
        let (κs, qs, _, (x, (k, (l, _))), _) = y.0 in
        let z : (triple 𝓛 (promise.list-slice c)).Ghost = ((κs.1, qs.1, tt, (x.now, (k, (l, tt))), (val x.now ∷ [], (shr_slice_vals k, (mut_slice_vals l, tt)))), tt) in
        lent.value-slice 𝓛 (reply 𝓛) (beside₄ z) C Λ fm g κs.0 qs.0 x.ref_ptr.0 x.ref_ptr.1 x.ghost_name x.now (ty_int w8) l.ref_ptr (length l.now) are.1.1.0.0.1.0
        3 (named 2) (shared 1 w64) (only (shr_slice_vals k)) (fits-shared 1 w64 k are.1.0.0.1.0) (at_key (promise.list-slice c) known z))

    pub list-slice-local : Is (λ σ α ρ π. bodies.value-slice-local σ α ρ π 2 (named 1) (shared 0 w64) (ty_int w8) g) → Known (promise.list-slice-lent c) → Keeps (promise.list-slice c)
    list-slice-local closed known = by-walk (promise.list-slice c) (λ σ α ρ π. bodies.value-slice-local σ α ρ π 2 (named 1) (shared 0 w64) (ty_int w8) g) closed
        (λ κs. ((λ x. val x ∷ []), (shr_slice_vals, (mut_slice_vals, tt)))) (λ κs. (tells, (shr_slice_Tells (named 0) κs.0 usize, (mut_slice_Tells (named 1) κs.1.0 u8, tt)))) (λ y are.
        let (κs, qs, _, (h, (k, (l, _))), _) = y.0 in
        local.value-slice 𝓛 (reply 𝓛) (beside₄ ((κs, qs, tt, (h, (k, (l, tt))), (val h ∷ [], (shr_slice_vals k, (mut_slice_vals l, tt)))), tt)) C Λ fm g h (ty_int w8) l.ref_ptr (length l.now) are.1.1.0.0.1.0
        2 (named 1) (shared 0 w64) (only (shr_slice_vals k)) (fits-shared 0 w64 k are.1.0.0.1.0) (λ α b γ.
        at_key (promise.list-slice-lent c) known (((α ∷ [], κs), (full_share, qs), tt, (at b γ h, (k, (l, tt))), (vptr b 0 ∷ [], (shr_slice_vals k, (mut_slice_vals l, tt)))), tt)))
