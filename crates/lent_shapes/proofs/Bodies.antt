-- The MIR of the functions whose walks are here, by the shape of their parameters. σ, α and ρ are the types of the record, the answer and the reply, and π is the record's behind a reference.
-- Assumes nothing: these are definitions. An instance's own MIR is one of these by computation.
use Prim.Native.Nat.{ℕ}
use mathlib.Core.List.{[], ◌∷◌}
use mir.Syntax.{Lifetime, Fn, Callee, Ty, Local, Body, named, erased, mut, value_local, memory_slot, local, ty_ref, deref, field, place, copy, rv_opd, addr_of, aggregate, assign, call, seq, return}
use denote.Slice.{slice_ty}

abbrev val : Ty → Local
val τ = local τ value_local

module _ (σ α ρ π : Ty) where
  -- ---- `let reply = g(*s, ..); *s = reply.stream; reply.answer`
  -- `*s` is copied into local i
  abbrev takes : ℕ → Body → Body
  takes i rest = seq (assign (place i []) (rv_opd (copy (place 1 (deref σ ∷ []))))) rest

  -- the slice of local i is lent on through locals j and k
  abbrev relends : Ty → ℕ → ℕ → ℕ → Body → Body
  relends ε i j k rest = seq (assign (place j []) (addr_of (place i (field 0 ∷ deref ε ∷ [])))) (seq (assign (place k []) (aggregate (copy (place j []) ∷ copy (place i (field 1 ∷ [])) ∷ []))) rest)

  -- the reply of local i is taken apart: its record goes by local j
  abbrev stores : ℕ → ℕ → Body
  stores i j = seq (assign (place j []) (rv_opd (copy (place i (field 0 ∷ []))))) (seq (assign (place 1 (deref σ ∷ [])) (rv_opd (copy (place j [])))) (seq (assign (place 0 []) (rv_opd (copy (place i (field 1 ∷ []))))) return))

  abbrev ref : Local
  ref = val (ty_ref (named 0) mut π)

  abbrev pub alone-lent : Callee → Fn
  alone-lent g = record {
    lifetimes = 1;
    outlives = [];
    ty_params = [];
    givens = 0;
    params = 1;
    locals = val α ∷ ref ∷ val ρ ∷ val σ ∷ val σ ∷ [];
    body = takes 3 (seq (call g (copy (place 3 []) ∷ []) (place 2 [])) (stores 2 4));
  }

  abbrev pub slice-lent : Ty → Callee → Fn
  slice-lent ε g = record {
    lifetimes = 2;
    outlives = [];
    ty_params = [];
    givens = 0;
    params = 2;
    locals = val α ∷ ref ∷ val (slice_ty (ty_ref (named 1) mut ε)) ∷ val ρ ∷ val σ ∷ val (ty_ref erased mut ε) ∷ val (slice_ty (ty_ref erased mut ε)) ∷ val σ ∷ [];
    body = takes 4 (relends ε 2 5 6 (seq (call g (copy (place 4 []) ∷ copy (place 6 []) ∷ []) (place 3 [])) (stores 3 7)));
  }

  -- with n lifetimes, of which the slice's is ℓ
  abbrev pub value-slice-lent : ℕ → Lifetime → Ty → Ty → Callee → Fn
  value-slice-lent n ℓ τ ε g = record {
    lifetimes = n;
    outlives = [];
    ty_params = [];
    givens = 0;
    params = 3;
    locals = val α ∷ ref ∷ val τ ∷ val (slice_ty (ty_ref ℓ mut ε)) ∷ val ρ ∷ val σ ∷ val (ty_ref erased mut ε) ∷ val (slice_ty (ty_ref erased mut ε)) ∷ val σ ∷ [];
    body = takes 5 (relends ε 3 6 7 (seq (call g (copy (place 5 []) ∷ copy (place 2 []) ∷ copy (place 7 []) ∷ []) (place 4 [])) (stores 4 8)));
  }

  abbrev pub two-values-lent : Ty → Ty → Callee → Fn
  two-values-lent τ τ' g = record {
    lifetimes = 2;
    outlives = [];
    ty_params = [];
    givens = 0;
    params = 3;
    locals = val α ∷ ref ∷ val τ ∷ val τ' ∷ val ρ ∷ val σ ∷ val σ ∷ [];
    body = takes 5 (seq (call g (copy (place 5 []) ∷ copy (place 2 []) ∷ copy (place 3 []) ∷ []) (place 4 [])) (stores 4 6));
  }

  -- ---- `let answer = f(&mut s, ..); Reply { stream: s, answer }`
  -- the record of local 1 is copied into local i, and a reference to that is made in local j
  abbrev lends : ℕ → ℕ → Body → Body
  lends i j rest = seq (assign (place i []) (rv_opd (copy (place 1 [])))) (seq (assign (place j []) (addr_of (place i []))) rest)

  -- the reply is made of the record of local i, copied into k, and the answer of local j
  abbrev replies : ℕ → ℕ → ℕ → Body
  replies i j k = seq (assign (place k []) (rv_opd (copy (place i [])))) (seq (assign (place 0 []) (aggregate (copy (place k []) ∷ copy (place j []) ∷ []))) return)

  abbrev held : Local
  held = local σ memory_slot

  abbrev fresh : Local
  fresh = val (ty_ref erased mut π)

  abbrev pub alone-local : Callee → Fn
  alone-local f = record {
    lifetimes = 0;
    outlives = [];
    ty_params = [];
    givens = 0;
    params = 1;
    locals = val ρ ∷ val σ ∷ held ∷ val α ∷ fresh ∷ val σ ∷ [];
    body = lends 2 4 (seq (call f (copy (place 4 []) ∷ []) (place 3 [])) (replies 2 3 5));
  }

  abbrev pub slice-local : Ty → Callee → Fn
  slice-local ε f = record {
    lifetimes = 1;
    outlives = [];
    ty_params = [];
    givens = 0;
    params = 2;
    locals = val ρ ∷ val σ ∷ val (slice_ty (ty_ref (named 0) mut ε)) ∷ held ∷ val α ∷ fresh ∷ val (ty_ref erased mut ε) ∷ val (slice_ty (ty_ref erased mut ε)) ∷ val σ ∷ [];
    body = lends 3 5 (relends ε 2 6 7 (seq (call f (copy (place 5 []) ∷ copy (place 7 []) ∷ []) (place 4 [])) (replies 3 4 8)));
  }

  abbrev pub value-slice-local : ℕ → Lifetime → Ty → Ty → Callee → Fn
  value-slice-local n ℓ τ ε f = record {
    lifetimes = n;
    outlives = [];
    ty_params = [];
    givens = 0;
    params = 3;
    locals = val ρ ∷ val σ ∷ val τ ∷ val (slice_ty (ty_ref ℓ mut ε)) ∷ held ∷ val α ∷ fresh ∷ val (ty_ref erased mut ε) ∷ val (slice_ty (ty_ref erased mut ε)) ∷ val σ ∷ [];
    body = lends 4 6 (relends ε 3 7 8 (seq (call f (copy (place 6 []) ∷ copy (place 2 []) ∷ copy (place 8 []) ∷ []) (place 5 [])) (replies 4 5 9)));
  }

  abbrev pub two-values-local : Ty → Ty → Callee → Fn
  two-values-local τ τ' f = record {
    lifetimes = 1;
    outlives = [];
    ty_params = [];
    givens = 0;
    params = 3;
    locals = val ρ ∷ val σ ∷ val τ ∷ val τ' ∷ held ∷ val α ∷ fresh ∷ val σ ∷ [];
    body = lends 4 6 (seq (call f (copy (place 6 []) ∷ copy (place 2 []) ∷ copy (place 3 []) ∷ []) (place 5 [])) (replies 4 5 7));
  }
