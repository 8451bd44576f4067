-- The walks of `let reply = g(*s, ..); *s = reply.stream; reply.answer`, one for each shape of g's other parameters. In each the borrow is opened, its record is copied out and passed to g with
-- the rest, the reply's record is stored in its place, and the borrow is closed at it. So what g promises of its argument and its reply holds of the lent record at entry and at exit.
-- Assumes nothing.
use mathlib.Core.Path.{refl, sym, ap}
use Prim.Native.Nat.{ℕ, ◌<◌, ◌^◌}
use mathlib.Core.List.{[], ◌∷◌, List}
use seplogic.Ra.Ura.{Ura}
use base.Fraction.{full_share}
use mir.Raw.{raw as raw-type}
use mir.Syntax.{Lifetime, Fn, Callee, Ty, Opd, Place, Body as Code, named, call, seq}
use mir.Val.{Val, vptr}
use base.Logic.{SProp, ent, sep, id⊢}
use base.Stored.{Gv}
use base.Fml.{Fml, GName, Lft, Share, ftrue, fsep, flft, fobs, fauth, fbor, fobor, fres, fat}
use prog.Wp.{Env, Calls, Loops, WpFn}
use types.Logic.{Logic, sem}
use contract.Monad.{fact}
use types.Kit.{Item, Goal, Soaks, Seq, Step, step, Post, runs, lands, ‵, raw, ◌⊛◌, ⋆, some, later, ◌$◌, ◌∵◌, !, qed, by, move, keep, drop, use1, split, join, pick, rewrite, show, fsplit, fsplit3, fjoin, frame, await, updating, now as at_once, done}
use types.Run.{Opds, look, look_raw, init, store_raw, forget, stop, hop, fld, from, load, addr, of_opd, and_then, no_more, assigns, land, returns, enter, alloc1, alloc0, params1, pass1, pass0, free1, free0}
use types.Part.{agg, whole, sub, look_in}
use types.SemTy.{Body}
use sound.WpLaws.{FmC}
use denote.RattleType.{RattleType}
use denote.Laws.{Is, shows}
use denote.Memory.{pointee, cell_at, mem}
use denote.Ref.{MutRef}
use denote.Slice.{slice_val}
use denote.Steps.{only, opens, closes, owned, peeks, heard, nothing}
use denote.Struct.Steps.{spelt}
use denote.Triple.Call.{calls_from}
use denote.Triple.Walked.{says}
use Rattle.lent_shapes.proofs.Bodies.{alone-lent, slice-lent, value-slice-lent, two-values-lent}
use Rattle.lent_shapes.proofs.Types.{Fits, Datum, Pair, pair-mir, Rest, Asks, Gives, Replied, at, Has, left-at, Answered, Leaves}

module _ {M : Type 1} {𝓤 : Ura M} (𝓛 : Logic 𝓤) {S N R : RattleType} {s : Datum 𝓛 S} {n : Datum 𝓛 N} (p : Pair 𝓛 s n R) (e : Rest 𝓛 S N)
    (C : Calls 𝓤 𝓛.H) (Λ : Loops 𝓤 𝓛.H) (fm : FmC 𝓤 𝓛.H 𝓛.laws C) (g : Callee) (κ : Lft) (q : Share) (b o : ℕ) (γ : GName) (h : S.Denot) where
  open 𝓛 use {H, A}

  abbrev Left : Val → SProp 𝓤
  Left = Leaves 𝓛 S N e κ q b o γ h

  abbrev π : Ty
  π = pointee S.written

  abbrev ρ : Ty
  ρ = pair-mir 𝓛 p

  -- g, called on the record and the values vs, does what is promised
  abbrev Meets : List Val → Type 1
  Meets vs = ent 𝓤 (Asks 𝓛 p e h) (C g (s.val h ∷ vs) (Gives 𝓛 p e h))

  -- so does f, called on the reference and the values vs
  abbrev Walks : Fn → List Val → Type 1
  Walks f vs = ent 𝓤 (Has 𝓛 S N e κ q b o γ h) (WpFn 𝓤 H C Λ f (vptr b o ∷ vs) Left)

  -- what the borrow holds, its cell at the record x, and what observes x
  abbrev holds : Fml
  holds = Body (mem S) b o γ

  abbrev cell : S.Denot → Item 𝓤
  cell x = ‵ (fat full_share (raw-type s.mir) b o (s.val x))

  abbrev seen : S.Denot → Item 𝓤
  seen x = ‵ (fobs γ (S.coded.code x))

  -- what f has at the start
  abbrev entry : List (Item 𝓤)
  entry = ((‵ (flft κ q) ⊛ raw e.tokens) ⊛ ‵ (fsep ((MutRef (named 0) κ S).own_val (at 𝓛 S N e κ q b o γ h) (vptr b o ∷ [])) e.owns)) ∷ ‵ ftrue ∷ []

  starts : {Z : Type 0} → Z → {G : Goal 𝓤 H} → Step Z 𝓛 (seen h ∷ ‵ (fbor κ holds) ∷ ‵ (flft κ q) ∷ ‵ e.owns ∷ raw e.tokens ∷ []) G entry G
  starts t = step (λ k. split t $ split t $ move t (2 ∷ []) $ fsplit t $ fsplit3 t $ drop t $ keep t (0 ∷ 1 ∷ 3 ∷ 2 ∷ 4 ∷ []) $ k)

  module _ {Z : Type 0} {Γ : List (Item 𝓤)} where
    -- the borrow is opened: the record lies there
    opened : Z → {G : Goal 𝓤 H} → Soaks G → (Is S h (s.val h ∷ []) → Seq Z 𝓛 (cell h ∷ ‵ (fobor κ q holds) ∷ seen h ∷ ‵ (fauth γ (S.coded.code h)) ∷ Γ) G) → Seq Z 𝓛 (seen h ∷ ‵ (fbor κ holds) ∷ ‵ (flft κ q) ∷ Γ) G
    opened t soaks k =
        opens t soaks S {h = h} b o (λ vs. spelt t S (Is S) (shows 𝓛 S) (λ x. s.val x ∷ []) s.tells full_share h vs b o $ rewrite t 0 (λ (τs : List Ty). ‵ (cell_at full_share τs (s.val h ∷ []) b o)) s.one refl $
        move t (1 ∷ []) $ peeks t S (Is S) (shows 𝓛 S) h (s.val h ∷ []) (λ is. drop t $ k is))

    -- g is called on the record and the values vs, and gives a reply
    called : Z → {E : Env 𝓤 H} {post : Post 𝓤 H} {xs : List Opd} {d : Place} {rest : Code} (vs : List Val) → Meets vs → Is S h (s.val h ∷ []) → ((i : Item 𝓤) → Opds Z 𝓛 (i ∷ Γ) E xs (s.val h ∷ vs))
        → ((v : Val) (r : R.Denot) → Is R r (v ∷ []) → Seq Z 𝓛 (raw e.tokens ∷ raw (Replied 𝓛 p e h r) ∷ Γ) (lands C Λ E d v rest post)) → Seq Z 𝓛 (‵ e.owns ∷ raw e.tokens ∷ Γ) (runs C Λ E (seq (call g xs d) rest) post)
    called t vs known is ops k =
        owned t S (Is S) s.makes h _ is $ fjoin t $ move t (1 ∷ 0 ∷ []) $ join t $ nothing t $ move t (1 ∷ 0 ∷ []) $ join t $ calls_from t fm _ (s.val h ∷ vs) (Gives 𝓛 p e h) known (ops _) (λ v.
        use1 𝓛 (later (some (λ (r : R.Denot). (raw e.tokens ⊛ ‵ (R.own_val r (v ∷ []))) ⊛ raw (Replied 𝓛 p e h r)))) (id⊢ 𝓤 _) $ await t tt $ pick t (λ r.
        split t $ split t $ move t (1 ∷ []) $ peeks t R (Is R) (shows 𝓛 R) r (v ∷ []) (λ is-r. drop t $ k v r is-r)))

    -- the borrow is closed at the record x
    closed : Z → {G : Goal 𝓤 H} → Soaks G → {u v : Gv} (x : S.Denot) → Is S x (s.val x ∷ []) → Step Z 𝓛 (seen x ∷ ‵ (fbor κ holds) ∷ ‵ (flft κ q) ∷ Γ) G (cell x ∷ ‵ (fobor κ q holds) ∷ ‵ (fobs γ u) ∷ ‵ (fauth γ v) ∷ Γ) G
    closed t soaks x is = step (λ k. rewrite t 0 (λ (τs : List Ty). ‵ (cell_at full_share τs (s.val x ∷ []) b o)) (sym s.one) refl $ owned t S (Is S) s.makes x _ is $ move t (1 ∷ 0 ∷ []) $ closes t soaks S x (s.val x ∷ []) b o $ k)

  -- at the end: what is had gives what f promises
  ends : (r : R.Denot) → Is N (p.answer r) (n.val (p.answer r) ∷ [])
      → ent 𝓤 (⋆ 𝓛 (seen (p.stream r) ∷ ‵ (fbor κ holds) ∷ ‵ (flft κ q) ∷ raw e.tokens ∷ raw (Replied 𝓛 p e h r) ∷ [])) (Left (n.val (p.answer r)))
  ends r is =
      qed 𝓛 (seen (p.stream r) ∷ ‵ (fbor κ holds) ∷ ‵ (flft κ q) ∷ raw e.tokens ∷ raw (Replied 𝓛 p e h r) ∷ []) ∵ updating ! $ at_once ! $
      use1 𝓛 (‵ (fres γ (S.coded.code (p.stream r)))) (𝓛.names.obs-res γ (S.coded.code (p.stream r))) $ fjoin ! $ move ! (3 ∷ []) $
      use1 𝓛 (some (λ (ws : Unit {0} × e.Last). ‵ (fsep ftrue (e.says ws.1)) ⊛ raw (fact 𝓤 (e.promise (p.answer r) (p.stream r) ws.1)))) (id⊢ 𝓤 _) $ pick ! (λ ws. split ! $ fsplit ! $ drop ! $
      move ! (1 ∷ []) $ heard ! (e.promise (p.answer r) (p.stream r) ws.1) (λ ok.
      -- [what says the last values; what says the record's; the token; the other tokens]
      show ! (λ (a : N.Denot). sep 𝓤 (sep 𝓤 (sep 𝓤 (A.lft κ q) e.tokens) (sem 𝓛 (N.own_val a (n.val (p.answer r) ∷ [])))) (Answered 𝓛 S N e κ q b o γ h a)) (p.answer r) $
      move ! (2 ∷ 3 ∷ []) $ join ! $ owned ! N (Is N) n.makes (p.answer r) _ is $ move ! (1 ∷ 0 ∷ []) $ join ! $ frame ! $
      show ! (λ (us : S.Denot × e.Last). sep 𝓤 (sem 𝓛 (fsep (left-at 𝓛 S N e κ q b o γ h us.0) (e.says us.1))) (fact 𝓤 (e.promise (p.answer r) us.0 us.1))) (p.stream r, ws.1) $
      says ! ok $ move ! (1 ∷ 0 ∷ []) $ fjoin ! $ done !))

  -- ---- the walks. A context begins as its comment says, and then has the locals, from the last, each with what frees it
  -- f(s) calls g(*s)
  pub alone : Meets [] → Walks (alone-lent s.mir n.mir ρ π g) []
  alone known =
      qed 𝓛 entry ∵ starts ! $ enter ! C Λ _ (vptr b o ∷ []) _ $ alloc1 ! (λ l₀. alloc1 ! (λ l₁. alloc1 ! (λ l₂. alloc1 ! (λ l₃. alloc1 ! (λ l₄. alloc0 ! $
      params1 ! $ pass1 ! (init ! 6 refl (tt, tt)) $ pass0 ! $
      move ! (10 ∷ 11 ∷ 12 ∷ []) $ opened ! tt (λ is-h.
      -- [the cell; the open borrow; obs; auth; ..; what is passed beside the record; the other tokens]
      assigns ! (of_opd ! (load ! (from ! (hop ! (look ! 10 refl) (stop !))) (look_raw ! 0 refl))) (from ! (stop !)) (init ! 6 refl (s.fits h _ is-h)) $
      move ! (14 ∷ 15 ∷ []) $ called ! [] known is-h (λ _. (and_then ! (load ! (from ! (stop !)) (look ! 7 refl)) (no_more !))) (λ v r is-r.
      -- [the other tokens; what is said of the reply; the cell; the open borrow; obs; auth]
      land ! (from ! (stop !)) (init ! 10 refl (p.fits r v is-r)) $ rewrite ! 10 (λ (w : Val). ‵ (fat full_share ρ l₂ 0 w)) (ap only (p.tells r _ is-r)) refl $
      let (is-s, is-a) = p.parts r v is-r in
      assigns ! (of_opd ! (load ! (from ! (fld ! refl (stop !))) (look_in ! 10 (sub ! 0 refl (whole !))))) (from ! (stop !)) (init ! 6 refl (s.fits (p.stream r) _ is-s)) $
      assigns ! (of_opd ! (load ! (from ! (stop !)) (look ! 6 refl))) (from ! (hop ! (look ! 12 refl) (stop !))) (store_raw ! 2 refl (s.fits (p.stream r) _ is-s)) $
      assigns ! (of_opd ! (load ! (from ! (fld ! refl (stop !))) (look_in ! 10 (sub ! 1 refl (whole !))))) (from ! (stop !)) (init ! 14 refl (n.fits (p.answer r) _ is-a)) $
      move ! (2 ∷ 3 ∷ 4 ∷ 5 ∷ []) $ closed ! tt (p.stream r) is-s $
      -- [obs; the borrow; the token; the other tokens; what is said of the reply]
      returns ! (look ! 13 refl) $ forget ! 13 refl $ forget ! 11 refl $ forget ! 9 refl $ forget ! 7 refl $ forget ! 5 refl $
      move ! (13 ∷ 14 ∷ []) $ free1 ! $ move ! (11 ∷ 12 ∷ []) $ free1 ! $ move ! (9 ∷ 10 ∷ []) $ free1 ! $ move ! (7 ∷ 8 ∷ []) $ free1 ! $ move ! (5 ∷ 6 ∷ []) $ free1 ! $ free0 ! $
      by ! (ends r is-a))))))))

  -- f(s, x) calls g(*s, x), x being a `&mut [T]`: it is passed on for good
  module _ (ε : Ty) (at' : ℕ × ℕ) (m : ℕ) (fits : m < 2 ^ 64) where
    abbrev x : Val
    x = slice_val at' m

    pub slice : Meets (x ∷ []) → Walks (slice-lent s.mir n.mir ρ π ε g) (x ∷ [])
    slice known =
        qed 𝓛 entry ∵ starts ! $ enter ! C Λ _ (vptr b o ∷ x ∷ []) _ $ alloc1 ! (λ l₀. alloc1 ! (λ l₁. alloc1 ! (λ l₂. alloc1 ! (λ l₃. alloc1 ! (λ l₄. alloc1 ! (λ l₅. alloc1 ! (λ l₆. alloc1 ! (λ l₇. alloc0 ! $
        params1 ! $ pass1 ! (init ! 12 refl (tt, tt)) $ pass1 ! (init ! 10 refl (tt, (tt, (record { fits = fits }, tt)))) $ pass0 ! $
        move ! (16 ∷ 17 ∷ 18 ∷ []) $ opened ! tt (λ is-h.
        -- [the cell; the open borrow; obs; auth; ..; what is passed beside the record; the other tokens]
        assigns ! (of_opd ! (load ! (from ! (hop ! (look ! 16 refl) (stop !))) (look_raw ! 0 refl))) (from ! (stop !)) (init ! 10 refl (s.fits h _ is-h)) $
        assigns ! (addr ! (from ! (fld ! refl (hop ! (look_in ! 14 (sub ! 0 refl (whole !))) (stop !))))) (from ! (stop !)) (init ! 8 refl (tt, tt)) $
        assigns ! (agg ! (and_then ! (load ! (from ! (stop !)) (look ! 8 refl)) (and_then ! (load ! (from ! (fld ! refl (stop !))) (look_in ! 14 (sub ! 1 refl (whole !)))) (no_more !)))) (from ! (stop !)) (init ! 6 refl (tt, (tt, (record { fits = fits }, tt)))) $
        move ! (20 ∷ 21 ∷ []) $ called ! (x ∷ []) known is-h (λ _. (and_then ! (load ! (from ! (stop !)) (look ! 11 refl)) (and_then ! (load ! (from ! (stop !)) (look ! 7 refl)) (no_more !)))) (λ v r is-r.
        -- [the other tokens; what is said of the reply; the cell; the open borrow; obs; auth]
        land ! (from ! (stop !)) (init ! 14 refl (p.fits r v is-r)) $ rewrite ! 14 (λ (w : Val). ‵ (fat full_share ρ l₃ 0 w)) (ap only (p.tells r _ is-r)) refl $
        let (is-s, is-a) = p.parts r v is-r in
        assigns ! (of_opd ! (load ! (from ! (fld ! refl (stop !))) (look_in ! 14 (sub ! 0 refl (whole !))))) (from ! (stop !)) (init ! 6 refl (s.fits (p.stream r) _ is-s)) $
        assigns ! (of_opd ! (load ! (from ! (stop !)) (look ! 6 refl))) (from ! (hop ! (look ! 18 refl) (stop !))) (store_raw ! 2 refl (s.fits (p.stream r) _ is-s)) $
        assigns ! (of_opd ! (load ! (from ! (fld ! refl (stop !))) (look_in ! 14 (sub ! 1 refl (whole !))))) (from ! (stop !)) (init ! 20 refl (n.fits (p.answer r) _ is-a)) $
        move ! (2 ∷ 3 ∷ 4 ∷ 5 ∷ []) $ closed ! tt (p.stream r) is-s $
        -- [obs; the borrow; the token; the other tokens; what is said of the reply]
        returns ! (look ! 19 refl) $ forget ! 19 refl $ forget ! 17 refl $ forget ! 15 refl $ forget ! 13 refl $ forget ! 11 refl $ forget ! 9 refl $ forget ! 7 refl $ forget ! 5 refl $
        move ! (19 ∷ 20 ∷ []) $ free1 ! $ move ! (17 ∷ 18 ∷ []) $ free1 ! $ move ! (15 ∷ 16 ∷ []) $ free1 ! $ move ! (13 ∷ 14 ∷ []) $ free1 ! $ move ! (11 ∷ 12 ∷ []) $ free1 ! $ move ! (9 ∷ 10 ∷ []) $ free1 ! $ move ! (7 ∷ 8 ∷ []) $ free1 ! $ move ! (5 ∷ 6 ∷ []) $ free1 ! $ free0 ! $
        by ! (ends r is-a)))))))))))

    -- f(s, y, x) calls g(*s, y, x), x being a `&mut [T]`
    pub value-slice : (k : ℕ) (ℓ : Lifetime) (τ : Ty) (y : Val) → Fits τ y → Meets (y ∷ x ∷ []) → Walks (value-slice-lent s.mir n.mir ρ π k ℓ τ ε g) (y ∷ x ∷ [])
    value-slice k ℓ τ y fits-y known =
        qed 𝓛 entry ∵ starts ! $ enter ! C Λ _ (vptr b o ∷ y ∷ x ∷ []) _ $ alloc1 ! (λ l₀. alloc1 ! (λ l₁. alloc1 ! (λ l₂. alloc1 ! (λ l₃. alloc1 ! (λ l₄. alloc1 ! (λ l₅. alloc1 ! (λ l₆. alloc1 ! (λ l₇. alloc1 ! (λ l₈. alloc0 ! $
        params1 ! $ pass1 ! (init ! 14 refl (tt, tt)) $ pass1 ! (init ! 12 refl fits-y) $ pass1 ! (init ! 10 refl (tt, (tt, (record { fits = fits }, tt)))) $ pass0 ! $
        move ! (18 ∷ 19 ∷ 20 ∷ []) $ opened ! tt (λ is-h.
        -- [the cell; the open borrow; obs; auth; ..; what is passed beside the record; the other tokens]
        assigns ! (of_opd ! (load ! (from ! (hop ! (look ! 18 refl) (stop !))) (look_raw ! 0 refl))) (from ! (stop !)) (init ! 10 refl (s.fits h _ is-h)) $
        assigns ! (addr ! (from ! (fld ! refl (hop ! (look_in ! 14 (sub ! 0 refl (whole !))) (stop !))))) (from ! (stop !)) (init ! 8 refl (tt, tt)) $
        assigns ! (agg ! (and_then ! (load ! (from ! (stop !)) (look ! 8 refl)) (and_then ! (load ! (from ! (fld ! refl (stop !))) (look_in ! 14 (sub ! 1 refl (whole !)))) (no_more !)))) (from ! (stop !)) (init ! 6 refl (tt, (tt, (record { fits = fits }, tt)))) $
        move ! (22 ∷ 23 ∷ []) $ called ! (y ∷ x ∷ []) known is-h (λ _. (and_then ! (load ! (from ! (stop !)) (look ! 11 refl)) (and_then ! (load ! (from ! (stop !)) (look ! 17 refl)) (and_then ! (load ! (from ! (stop !)) (look ! 7 refl)) (no_more !))))) (λ v r is-r.
        -- [the other tokens; what is said of the reply; the cell; the open borrow; obs; auth]
        land ! (from ! (stop !)) (init ! 14 refl (p.fits r v is-r)) $ rewrite ! 14 (λ (w : Val). ‵ (fat full_share ρ l₄ 0 w)) (ap only (p.tells r _ is-r)) refl $
        let (is-s, is-a) = p.parts r v is-r in
        assigns ! (of_opd ! (load ! (from ! (fld ! refl (stop !))) (look_in ! 14 (sub ! 0 refl (whole !))))) (from ! (stop !)) (init ! 6 refl (s.fits (p.stream r) _ is-s)) $
        assigns ! (of_opd ! (load ! (from ! (stop !)) (look ! 6 refl))) (from ! (hop ! (look ! 20 refl) (stop !))) (store_raw ! 2 refl (s.fits (p.stream r) _ is-s)) $
        assigns ! (of_opd ! (load ! (from ! (fld ! refl (stop !))) (look_in ! 14 (sub ! 1 refl (whole !))))) (from ! (stop !)) (init ! 22 refl (n.fits (p.answer r) _ is-a)) $
        move ! (2 ∷ 3 ∷ 4 ∷ 5 ∷ []) $ closed ! tt (p.stream r) is-s $
        -- [obs; the borrow; the token; the other tokens; what is said of the reply]
        returns ! (look ! 21 refl) $ forget ! 21 refl $ forget ! 19 refl $ forget ! 17 refl $ forget ! 15 refl $ forget ! 13 refl $ forget ! 11 refl $ forget ! 9 refl $ forget ! 7 refl $ forget ! 5 refl $
        move ! (21 ∷ 22 ∷ []) $ free1 ! $ move ! (19 ∷ 20 ∷ []) $ free1 ! $ move ! (17 ∷ 18 ∷ []) $ free1 ! $ move ! (15 ∷ 16 ∷ []) $ free1 ! $ move ! (13 ∷ 14 ∷ []) $ free1 ! $ move ! (11 ∷ 12 ∷ []) $ free1 ! $ move ! (9 ∷ 10 ∷ []) $ free1 ! $ move ! (7 ∷ 8 ∷ []) $ free1 ! $ move ! (5 ∷ 6 ∷ []) $ free1 ! $ free0 ! $
        by ! (ends r is-a))))))))))))

  -- f(s, y, z) calls g(*s, y, z)
  pub two-values : (τ τ' : Ty) (y z : Val) → Fits τ y → Fits τ' z → Meets (y ∷ z ∷ []) → Walks (two-values-lent s.mir n.mir ρ π τ τ' g) (y ∷ z ∷ [])
  two-values τ τ' y z fits-y fits-z known =
      qed 𝓛 entry ∵ starts ! $ enter ! C Λ _ (vptr b o ∷ y ∷ z ∷ []) _ $ alloc1 ! (λ l₀. alloc1 ! (λ l₁. alloc1 ! (λ l₂. alloc1 ! (λ l₃. alloc1 ! (λ l₄. alloc1 ! (λ l₅. alloc1 ! (λ l₆. alloc0 ! $
      params1 ! $ pass1 ! (init ! 10 refl (tt, tt)) $ pass1 ! (init ! 8 refl fits-y) $ pass1 ! (init ! 6 refl fits-z) $ pass0 ! $
      move ! (14 ∷ 15 ∷ 16 ∷ []) $ opened ! tt (λ is-h.
      -- [the cell; the open borrow; obs; auth; ..; what is passed beside the record; the other tokens]
      assigns ! (of_opd ! (load ! (from ! (hop ! (look ! 14 refl) (stop !))) (look_raw ! 0 refl))) (from ! (stop !)) (init ! 6 refl (s.fits h _ is-h)) $
      move ! (18 ∷ 19 ∷ []) $ called ! (y ∷ z ∷ []) known is-h (λ _. (and_then ! (load ! (from ! (stop !)) (look ! 7 refl)) (and_then ! (load ! (from ! (stop !)) (look ! 13 refl)) (and_then ! (load ! (from ! (stop !)) (look ! 11 refl)) (no_more !))))) (λ v r is-r.
      -- [the other tokens; what is said of the reply; the cell; the open borrow; obs; auth]
      land ! (from ! (stop !)) (init ! 10 refl (p.fits r v is-r)) $ rewrite ! 10 (λ (w : Val). ‵ (fat full_share ρ l₄ 0 w)) (ap only (p.tells r _ is-r)) refl $
      let (is-s, is-a) = p.parts r v is-r in
      assigns ! (of_opd ! (load ! (from ! (fld ! refl (stop !))) (look_in ! 10 (sub ! 0 refl (whole !))))) (from ! (stop !)) (init ! 6 refl (s.fits (p.stream r) _ is-s)) $
      assigns ! (of_opd ! (load ! (from ! (stop !)) (look ! 6 refl))) (from ! (hop ! (look ! 16 refl) (stop !))) (store_raw ! 2 refl (s.fits (p.stream r) _ is-s)) $
      assigns ! (of_opd ! (load ! (from ! (fld ! refl (stop !))) (look_in ! 10 (sub ! 1 refl (whole !))))) (from ! (stop !)) (init ! 18 refl (n.fits (p.answer r) _ is-a)) $
      move ! (2 ∷ 3 ∷ 4 ∷ 5 ∷ []) $ closed ! tt (p.stream r) is-s $
      -- [obs; the borrow; the token; the other tokens; what is said of the reply]
      returns ! (look ! 17 refl) $ forget ! 17 refl $ forget ! 15 refl $ forget ! 13 refl $ forget ! 11 refl $ forget ! 9 refl $ forget ! 7 refl $ forget ! 5 refl $
      move ! (17 ∷ 18 ∷ []) $ free1 ! $ move ! (15 ∷ 16 ∷ []) $ free1 ! $ move ! (13 ∷ 14 ∷ []) $ free1 ! $ move ! (11 ∷ 12 ∷ []) $ free1 ! $ move ! (9 ∷ 10 ∷ []) $ free1 ! $ move ! (7 ∷ 8 ∷ []) $ free1 ! $ move ! (5 ∷ 6 ∷ []) $ free1 ! $ free0 ! $
      by ! (ends r is-a))))))))))
