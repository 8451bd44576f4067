-- The contracts of the calls by the shape of their other parameters: of the call that takes the record by value, and of the same call on a lent record. Both promise what
-- `Told` says of the call.
-- Assumes nothing.
use Prim.Native.Nat.{ℕ, suc}
use mathlib.Core.List.{List, [], ◌∷◌}
use seplogic.Ra.Ura.{Ura}
use mir.Syntax.{Width}
use base.Logic.{SProp, ent, sep, emp, via, fst∗, emp∗, comm∗}
use types.Logic.{Logic}
use contract.Lifetimes.{Lfts, Within, toks}
use contract.Monad.{Fun, fact}
use denote.Builtin.{u8, usize}
use denote.Exit.{yes}
use denote.Laws.{Spells, valss, Tellss, Are, Ises}
use denote.Plain.{UInt}
use denote.RattleType.{RattleType, flat, owns as owns-all}
use denote.Signature.{Slot, plain, mut_ref_to, mut_slice, shr_slice, types_at}
use denote.Steps.{said}
use denote.Triple.Clauses.{Ended, Clauses, AtExit, closing}
use denote.Triple.End.{Fins, outs, lasts_of, all}
use denote.Triple.Entry.{Args, Vals, Res, on_entry}
use denote.Triple.Spec.{triple_of}
use denote.Triple.Statement.{Contract, Triple}
use Rattle.stream.specs.contracts.Answer as N
use Rattle.stream.specs.contracts.Reply as R
use Rattle.stream.specs.contracts.Stream as S
use Rattle.ledger.specs.Calls.{Call}
use Rattle.ledger.specs.Told.{Told}
use Rattle.lent_shapes.proofs.Types.{Rest}

-- ---- the signatures, from the slots of the other parameters
abbrev pub by_value : {n : ℕ} → List (Slot n) → Ended
by_value {n} ss = record { signature = record { lifetimes = n; outlives = []; params = plain (λ _. S.the_row) ∷ ss; result = plain (λ _. R.the_row) }; kept = (yes, all yes ss) }

abbrev pub lent : {n : ℕ} → List (Slot (suc n)) → Ended
lent {n} ss = record { signature = record { lifetimes = suc n; outlives = []; params = mut_ref_to (0 ∷ []) tt (plain (λ _. S.the_row)) ∷ ss; result = plain (λ _. N.the_row) }; kept = (yes, all yes ss) }

-- ---- the other parameters of each shape, at the lifetime j
module _ {n : ℕ} where
  abbrev pub of-slice : (j : ℕ) → Within n j → Width → List (Slot n)
  of-slice j ok w = mut_slice j ok (λ _. UInt w) ∷ []

  abbrev pub of-value-slice : (j : ℕ) → Within n j → RattleType → List (Slot n)
  of-value-slice j ok X = plain (λ _. X) ∷ mut_slice j ok (λ _. u8) ∷ []

  abbrev pub of-value-shared : (j : ℕ) → Within n j → RattleType → List (Slot n)
  of-value-shared j ok X = plain (λ _. X) ∷ shr_slice j ok (λ _. u8) ∷ []

  abbrev pub of-list-slice : (i : ℕ) → Within n i → (j : ℕ) → Within n j → List (Slot n)
  of-list-slice i ok j ok' = shr_slice i ok (λ _. usize) ∷ mut_slice j ok' (λ _. u8) ∷ []

-- ---- a promise: a signature, and what is ensured of the arguments, the result and the parameters at exit. Nothing is required
pub record Promise : Type 2 where
  pub ended : Ended
  pub ensures : (κs : Lfts ended.signature.lifetimes) → Args ended.signature κs → Res ended.signature κs → AtExit ended κs → Type 0

-- no other parameter: give_back, start, finish
module _ (c : Call) where
  abbrev pub alone : Promise
  alone = record { ended = by_value {n = 0} []; ensures = λ κs a r e. Told c a.0 r.answer r.stream [] }

  abbrev pub alone-lent : Promise
  alone-lent = record { ended = lent {n = 0} []; ensures = λ κs a r e. Told c a.0.now r e.0.now [] }

-- a slice of numbers by `&mut`: turn, commit_full, stop
module _ (w : Width) (c : List ℕ → Call) where
  abbrev pub slice : Promise
  slice = record { ended = by_value (of-slice {n = 1} 0 tt w); ensures = λ κs a r e. Told (c a.1.0.now) a.0 r.answer r.stream e.1.0.now }

  abbrev pub slice-lent : Promise
  slice-lent = record { ended = lent (of-slice {n = 2} 1 tt w); ensures = λ κs a r e. Told (c a.1.0.now) a.0.now r e.0.now e.1.0.now }

module _ (X : RattleType) (c : X.Denot → List ℕ → Call) where
  -- a value, and the block by `&mut`: commit, submitted
  abbrev pub value-slice : Promise
  value-slice = record { ended = by_value (of-value-slice {n = 1} 0 tt X); ensures = λ κs a r e. Told (c a.1.0 a.1.1.0.now) a.0 r.answer r.stream e.1.1.0.now }

  abbrev pub value-slice-lent : Promise
  value-slice-lent = record { ended = lent (of-value-slice {n = 2} 1 tt X); ensures = λ κs a r e. Told (c a.1.0 a.1.1.0.now) a.0.now r e.0.now e.1.1.0.now }

  -- a value, and the block by `&`: reaped
  abbrev pub value-shared : Promise
  value-shared = record { ended = by_value (of-value-shared {n = 1} 0 tt X); ensures = λ κs a r e. Told (c a.1.0 a.1.1.0.now) a.0 r.answer r.stream a.1.1.0.now }

  abbrev pub value-shared-lent : Promise
  value-shared-lent = record { ended = lent (of-value-shared {n = 2} 1 tt X); ensures = λ κs a r e. Told (c a.1.0 a.1.1.0.now) a.0.now r e.0.now a.1.1.0.now }

-- a list by `&`, and the block by `&mut`: commit_packets
module _ (c : List ℕ → List ℕ → Call) where
  abbrev pub list-slice : Promise
  list-slice = record { ended = by_value (of-list-slice {n = 2} 0 tt 1 tt); ensures = λ κs a r e. Told (c a.1.0.now a.1.1.0.now) a.0 r.answer r.stream e.1.1.0.now }

  abbrev pub list-slice-lent : Promise
  list-slice-lent = record { ended = lent (of-list-slice {n = 3} 1 tt 2 tt); ensures = λ κs a r e. Told (c a.1.0.now a.1.1.0.now) a.0.now r e.0.now e.1.1.0.now }

module _ {M : Type 1} {𝓤 : Ura M} (𝓛 : Logic 𝓤) where
  -- the contract that states a promise
  abbrev pub stating : (P : Promise) → Clauses 𝓤 P.ended
  stating P κs a = record { ghost = Unit {0}; requires = λ _. emp 𝓤; ensures = λ _ r e. fact 𝓤 (P.ensures κs a r e) }

  abbrev pub triple : Promise → Contract 𝓤
  triple P = triple_of 𝓛 P.ended.signature (closing 𝓛 P.ended (stating P))

  -- what a walk has beside the record, for a call by value with the other parameters ss that ensures φ: at z, what its triple binds outside
  abbrev pub beside : (n : ℕ) (ss : List (Slot n)) (φ : (κs : Lfts n) → Args (by_value ss).signature κs → Res (by_value ss).signature κs → AtExit (by_value ss) κs → Type 0)
      → (triple (record { ended = by_value ss; ensures = φ })).Ghost → Rest 𝓛 S.the_row N.the_row
  beside n ss φ z =
      let (κs, qs, _, a, vss) = z.0 in
      record {
        tokens = toks 𝓛 n κs qs;
        owns = owns-all (types_at ss κs) a.1 vss.1;
        Last = Fins κs ss (all yes ss) a.1;
        says = lasts_of κs ss (all yes ss) a.1;
        promise = λ r s ws. φ κs a (record { stream = s; answer = r }) (a.0, outs κs ss (all yes ss) a.1 ws);
      }

  module _ (P : Promise) where
    abbrev Rows : Lfts P.ended.signature.lifetimes → List RattleType
    Rows κs = types_at P.ended.signature.params κs

    abbrev pub Spelled : Type 0
    Spelled = (κs : Lfts P.ended.signature.lifetimes) → Spells (Rows κs)

    abbrev pub Told-by : Spelled → Type 0
    Told-by sp = (κs : Lfts P.ended.signature.lifetimes) → Tellss (Rows κs) (Ises (Rows κs)) (sp κs)

    -- a run keeps the promise at arguments whose machine values are written out
    abbrev pub Walked : Spelled → Fun 𝓤 → Type 1
    Walked sp run =
        (y : (triple P).Ghost) → Are (Rows y.0.0) (Ises (Rows y.0.0)) y.0.3 (valss (Rows y.0.0) (sp y.0.0) y.0.3)
        → ent 𝓤 (sep 𝓤 (on_entry 𝓛 P.ended.signature y.0.0 y.0.1 y.0.3 (valss (Rows y.0.0) (sp y.0.0) y.0.3)) (emp 𝓤))
        (run (flat (Rows y.0.0) (valss (Rows y.0.0) (sp y.0.0) y.0.3)) ((triple P).post y))

    -- then it does at any, since the types' relations tell the machine values
    pub at-values : (sp : Spelled) → Told-by sp → (run : Fun 𝓤) → Walked sp run → Triple 𝓤 run (triple P)
    at-values sp tl run k y =
        let entry : Vals P.ended.signature y.0.0 → SProp 𝓤 = λ us. on_entry 𝓛 P.ended.signature y.0.0 y.0.1 y.0.3 us in
        via 𝓤 (entry y.0.4) (fst∗ 𝓤 (entry y.0.4) (emp 𝓤))
        (said 𝓛 P.ended.signature y.0.0 y.0.1 (sp y.0.0) (tl y.0.0) y.0.3 (λ us. run (flat (Rows y.0.0) us) ((triple P).post y)) y.0.4
        (λ are. via 𝓤 (sep 𝓤 (emp 𝓤) (entry _)) (emp∗ 𝓤 (entry _)) (via 𝓤 (sep 𝓤 (entry _) (emp 𝓤)) (comm∗ 𝓤 (emp 𝓤) (entry _)) (k y are))))
