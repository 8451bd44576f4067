-- What a walk needs of the types that a call moves, and the two triples that it goes between. The walks are over any such types: so none unfolds the record.
-- Assumes nothing: these are definitions.
use mathlib.Core.Path.{◌≡◌}
use Prim.Native.Nat.{ℕ}
use mathlib.Core.List.{[], ◌∷◌}
use lib.Dec.{T as Holds}
use seplogic.Ra.Ura.{Ura}
use mir.Syntax.{Sym, Ty, ty_struct, tnil, tcons, named}
use mir.Val.{Val, WT, has_ty, vptr, vstruct, vnil, vcons}
use base.Logic.{SProp, sep, ex, emp}
use base.Fml.{Fml, GName, Lft, Share, ftrue, fsep, fbor, fres}
use types.Logic.{Logic, sem}
use types.SemTy.{Body}
use contract.Monad.{fact}
use denote.RattleType.{RattleType}
use denote.Laws.{Is, Tells, Makes}
use denote.Memory.{mem}
use denote.Ref.{MutRef, MutBor}

-- a machine value of a MIR type
abbrev pub Fits : Ty → Val → Type 0
Fits τ v = Holds (has_ty τ v) × WT v

module _ {M : Type 1} {𝓤 : Ura M} (𝓛 : Logic 𝓤) where
  -- plain data in one cell: its MIR type and machine value are known, and what it owns is had for nothing
  open 𝓛 use {H, A}

  pub record Datum (R : RattleType) : Type 1 where
    pub mir : Ty
    pub one : R.mir ≡ mir ∷ []
    pub val : R.Denot → Val
    pub tells : Tells R (Is R) (λ x. val x ∷ [])
    pub fits : (x : R.Denot) (v : Val) → Is R x (v ∷ []) → Fits mir v
    pub makes : Makes 𝓛 R (Is R)

  -- a reply: a struct of a record and an answer
  pub record Pair {S N : RattleType} (s : Datum S) (n : Datum N) (R : RattleType) : Type 1 where
    pub tag : Sym
    pub stream : R.Denot → S.Denot
    pub answer : R.Denot → N.Denot
    pub tells : Tells R (Is R) (λ r. vstruct (vcons (s.val (stream r)) (vcons (n.val (answer r)) vnil)) ∷ [])
    pub fits : (r : R.Denot) (v : Val) → Is R r (v ∷ []) → Fits (ty_struct tag (tcons s.mir (tcons n.mir tnil))) v
    pub parts : (r : R.Denot) (v : Val) → Is R r (v ∷ []) → Is S (stream r) (s.val (stream r) ∷ []) × Is N (answer r) (n.val (answer r) ∷ [])
    pub make : S.Denot → N.Denot → R.Denot
    pub made : (x : S.Denot) (a : N.Denot) → Is S x (s.val x ∷ []) → Is N a (n.val a ∷ []) → Is R (make x a) (vstruct (vcons (s.val x) (vcons (n.val a) vnil)) ∷ [])
    pub made-stream : (x : S.Denot) (a : N.Denot) → stream (make x a) ≡ x
    pub made-answer : (x : S.Denot) (a : N.Denot) → answer (make x a) ≡ a
    pub makes : Makes 𝓛 R (Is R)

  module _ {S N R : RattleType} {s : Datum S} {n : Datum N} (r : Pair s n R) where
    abbrev pub pair-mir : Ty
    pair-mir = ty_struct r.tag (tcons s.mir (tcons n.mir tnil))

  -- ---- what a call has beside the record: tokens; what the other parameters own; what is said of their last values; and what is promised of the answer, the record and the last values
  pub record Rest (S N : RattleType) : Type 2 where
    pub tokens : SProp 𝓤
    pub owns : Fml
    pub Last : Type 0
    pub says : Last → Fml
    pub promise : N.Denot → S.Denot → Last → Type 0

  -- ---- the triple of a call that takes the record h by value: Asks before it, and Gives after it
  module _ {S N R : RattleType} {s : Datum S} {n : Datum N} (p : Pair s n R) (e : Rest S N) (h : S.Denot) where
    abbrev pub Asks : SProp 𝓤
    Asks = sep 𝓤 (sep 𝓤 e.tokens (sem 𝓛 (fsep (S.own_val h (s.val h ∷ [])) e.owns))) (emp 𝓤)

    abbrev pub Replied : R.Denot → SProp 𝓤
    Replied r = ex 𝓤 (λ (ws : Unit {0} × e.Last). sep 𝓤 (sem 𝓛 (fsep ftrue (e.says ws.1))) (fact 𝓤 (e.promise (p.answer r) (p.stream r) ws.1)))

    abbrev pub Gives : Val → SProp 𝓤
    Gives v = H.⇛ (ex 𝓤 (λ (r : R.Denot). sep 𝓤 (sep 𝓤 e.tokens (sem 𝓛 (R.own_val r (v ∷ [])))) (Replied r)))

  -- ---- the triple of the same call on a reference to h: Has before it, and Leaves after it
  module _ (S N : RattleType) (e : Rest S N) (κ : Lft) (q : Share) (b o : ℕ) (γ : GName) (h : S.Denot) where
    abbrev pub at : MutBor S.Denot
    at = record { ref_ptr = (b, o); ghost_name = γ; now = h }

    abbrev pub Has : SProp 𝓤
    Has = sep 𝓤 (sep 𝓤 (sep 𝓤 (A.lft κ q) e.tokens) (sem 𝓛 (fsep ((MutRef (named 0) κ S).own_val at (vptr b o ∷ [])) e.owns))) (emp 𝓤)

    -- what the reference leaves of its last value x: the lender reads it, and has the borrow again, closed
    abbrev pub left-at : S.Denot → Fml
    left-at x = fsep (fres γ (S.coded.code x)) (fbor κ (Body (mem S) b o γ))

    abbrev pub Answered : N.Denot → SProp 𝓤
    Answered a = ex 𝓤 (λ (ws : S.Denot × e.Last). sep 𝓤 (sem 𝓛 (fsep (left-at ws.0) (e.says ws.1))) (fact 𝓤 (e.promise a ws.0 ws.1)))

    abbrev pub Leaves : Val → SProp 𝓤
    Leaves v = H.⇛ (ex 𝓤 (λ (a : N.Denot). sep 𝓤 (sep 𝓤 (sep 𝓤 (A.lft κ q) e.tokens) (sem 𝓛 (N.own_val a (v ∷ [])))) (Answered a)))
