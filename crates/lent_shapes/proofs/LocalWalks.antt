-- The walks of `let answer = f(&mut s, ..); Reply { stream: s, answer }`, one for each shape of f's other parameters. In each the record lies in a local, which is lent to f for a lifetime made for
-- the call, and is taken back at the record's last value. So what f promises of the record at entry and at exit holds of the argument and the reply.
-- Assumes nothing.
use mathlib.Core.Path.{refl, sym, ap, subst}
use Prim.Native.Nat.{ℕ, ◌<◌, ◌^◌}
use mathlib.Core.List.{[], ◌∷◌, List}
use seplogic.Ra.Ura.{Ura}
use base.Fraction.{full_share}
use mir.Raw.{raw as raw-type}
use mir.Syntax.{Lifetime, Fn, Callee, Ty, Opd, Place, Body as Code, named, call, seq}
use mir.Val.{Val, vptr, vstruct, vnil, vcons}
use base.Logic.{ent, sep, guard, id⊢}
use base.Fml.{GName, ftrue, fsep, flft, flent, fat}
use prog.Wp.{Env, Calls, Loops, WpFn}
use types.Logic.{Logic, sem}
use contract.Monad.{fact}
use types.Kit.{Item, Seq, Post, runs, lands, ‵, raw, given, ◌⊛◌, ⋆, some, later, ◌$◌, ◌∵◌, !, qed, by, move, drop, use1, use3, split, join, pick, learn, check, rewrite, show, fsplit, fjoin, fpick, fpack, frame, await, updating, now as at_once, done}
use types.Run.{Opds, look, init, forget, stop, hop, fld, from, load, addr, of_opd, and_then, no_more, assigns, land, returns, enter, alloc1, alloc0, params1, pass1, pass0, free1, free0}
use types.Part.{agg, whole, sub, look_in}
use types.SemTy.{Body}
use types.Tokens.{lft_new, lft_end}
use sound.WpLaws.{FmC}
use denote.RattleType.{RattleType}
use denote.Laws.{Is, shows}
use denote.Lend.{lends_ref, ref_back}
use denote.Memory.{pointee, cell_at, mem, part_of}
use denote.Ref.{MutRef}
use denote.Slice.{slice_val}
use denote.Steps.{only, owned, peeks, heard, nothing}
use denote.Triple.Call.{calls_from}
use denote.Triple.Walked.{says}
use Rattle.lent_shapes.proofs.Bodies.{alone-local, slice-local, value-slice-local, two-values-local}
use Rattle.lent_shapes.proofs.Types.{Fits, Datum, Pair, pair-mir, Rest, Asks, Gives, Replied, at, Has, left-at, Answered, Leaves}

module _ {M : Type 1} {𝓤 : Ura M} (𝓛 : Logic 𝓤) {S N R : RattleType} {s : Datum 𝓛 S} {n : Datum 𝓛 N} (p : Pair 𝓛 s n R) (e : Rest 𝓛 S N)
    (C : Calls 𝓤 𝓛.H) (Λ : Loops 𝓤 𝓛.H) (fm : FmC 𝓤 𝓛.H 𝓛.laws C) (f : Callee) (h : S.Denot) where
  open 𝓛 use {H}

  abbrev π : Ty
  π = pointee S.written

  abbrev ρ : Ty
  ρ = pair-mir 𝓛 p

  -- f, called on a reference to the record at a lifetime made for the call and on the values vs, does what is promised
  abbrev Meets : List Val → Type 1
  Meets vs = (α b : ℕ) (γ : GName) → ent 𝓤 (Has 𝓛 S N e (α ∷ []) full_share b 0 γ h) (C f (vptr b 0 ∷ vs) (Leaves 𝓛 S N e (α ∷ []) full_share b 0 γ h))

  -- so does the function, called on the record and the values vs
  abbrev Walks : Fn → List Val → Type 1
  Walks k vs = ent 𝓤 (Asks 𝓛 p e h) (WpFn 𝓤 H C Λ k (s.val h ∷ vs) (Gives 𝓛 p e h))

  abbrev entry : List (Item 𝓤)
  entry = (raw e.tokens ⊛ ‵ (fsep (S.own_val h (s.val h ∷ [])) e.owns)) ∷ ‵ ftrue ∷ []

  -- a local's cell at the record x
  abbrev cell : ℕ → S.Denot → Item 𝓤
  cell b x = ‵ (fat full_share s.mir b 0 (s.val x))

  -- a record in a cell, as what a borrow holds; and back
  puts : (x : S.Denot) (b : ℕ) → Is S x (s.val x ∷ []) → ent 𝓤 (sem 𝓛 (fat full_share s.mir b 0 (s.val x))) (sem 𝓛 ((mem S).own_at x b 0))
  unfolding part_of
  puts x b is =
      qed 𝓛 (cell b x ∷ []) ∵ use1 𝓛 (‵ (fat full_share (raw-type s.mir) b 0 (s.val x))) (𝓛.laws.at_raw full_share s.mir b 0 (s.val x)) $
      rewrite ! 0 (λ (τs : List Ty). ‵ (cell_at full_share τs (s.val x ∷ []) b 0)) (sym s.one) refl $ owned ! S (Is S) s.makes x _ is $ move ! (1 ∷ 0 ∷ []) $ fjoin ! $
      fpack ! (List Val) (λ us. fsep (cell_at full_share S.mir us b 0) (S.own_val x us)) (s.val x ∷ []) $ done !

  takes : (x : S.Denot) (b : ℕ) → ent 𝓤 (sem 𝓛 ((mem S).own_at x b 0)) (guard 𝓤 (Is S x (s.val x ∷ [])) (sem 𝓛 (fat full_share s.mir b 0 (s.val x))))
  unfolding part_of
  takes x b =
      qed 𝓛 (‵ ((mem S).own_at x b 0) ∷ []) ∵ fpick ! (λ us. fsplit ! $ move ! (1 ∷ []) $ peeks ! S (Is S) (shows 𝓛 S) x us (λ is. drop ! $
      rewrite ! 0 (λ (vs : List Val). ‵ (cell_at full_share S.mir vs b 0)) (s.tells x us is) refl $ rewrite ! 0 (λ (τs : List Ty). ‵ (cell_at full_share τs (s.val x ∷ []) b 0)) s.one refl $
      use1 𝓛 (cell b x) (𝓛.laws.raw_at full_share s.mir b 0 (s.val x)) $ check ! (subst (Is S x) (s.tells x us is) is) $ done !))

  -- the local at b is lent to f, which is called on the reference and the values vs, and holds the record x afterwards
  module _ {Z : Type 0} {Γ : List (Item 𝓤)} where
    called : Z → {E : Env 𝓤 H} {post : Post 𝓤 H} {xs : List Opd} {d : Place} {rest : Code} (b : ℕ) (vs : List Val) → Meets vs → Is S h (s.val h ∷ []) → ((i j : Item 𝓤) → Opds Z 𝓛 (i ∷ j ∷ Γ) E xs (vptr b 0 ∷ vs))
        → ((v : Val) (a : N.Denot) (x : S.Denot) (w : e.Last) → Is N a (v ∷ []) → Is S x (s.val x ∷ []) → e.promise a x w → Seq Z 𝓛 (cell b x ∷ ‵ (e.says w) ∷ raw e.tokens ∷ Γ) (lands C Λ E d v rest post))
        → Seq Z 𝓛 (cell b h ∷ ‵ e.owns ∷ raw e.tokens ∷ ‵ ftrue ∷ Γ) (runs C Λ E (seq (call f xs d) rest) post)
    called t b vs known is ops k =
        use1 𝓛 (‵ ((mem S).own_at h b 0)) (puts h b is) $ lft_new t tt (λ α. move t (1 ∷ []) $
        use1 𝓛 (later (some (λ (γ : GName). ‵ ((MutRef (named 0) (α ∷ []) S).own_val (at 𝓛 S N e (α ∷ []) full_share b 0 γ h) (vptr b 0 ∷ [])) ⊛ ‵ (flent (α ∷ []) (Body (mem S) b 0 γ))))) (lends_ref 𝓛 S (named 0) (α ∷ []) h b 0) $
        await t tt $ pick t (λ γ. split t $
        -- [the reference; the lender's part; the lifetime's token; what is passed beside the record; the other tokens; true]
        move t (0 ∷ 3 ∷ []) $ fjoin t $ move t (2 ∷ 3 ∷ []) $ join t $ join t $ move t (0 ∷ 2 ∷ []) $ join t $
        calls_from t fm _ (vptr b 0 ∷ vs) (Leaves 𝓛 S N e (α ∷ []) full_share b 0 γ h) (known α b γ) (ops _ _) (λ v.
        use1 𝓛 (later (some (λ (a : N.Denot). ((‵ (flft (α ∷ []) full_share) ⊛ raw e.tokens) ⊛ ‵ (N.own_val a (v ∷ []))) ⊛ raw (Answered 𝓛 S N e (α ∷ []) full_share b 0 γ h a)))) (id⊢ 𝓤 _) $ await t tt $ pick t (λ a.
        split t $ split t $ split t $ move t (2 ∷ []) $ peeks t N (Is N) (shows 𝓛 N) a (v ∷ []) (λ is-a. drop t $ move t (2 ∷ []) $
        use1 𝓛 (some (λ (ws : S.Denot × e.Last). ‵ (fsep (left-at 𝓛 S N e (α ∷ []) full_share b 0 γ h ws.0) (e.says ws.1)) ⊛ raw (fact 𝓤 (e.promise a ws.0 ws.1)))) (id⊢ 𝓤 _) $ pick t (λ ws. split t $ fsplit t $ fsplit t $ move t (1 ∷ []) $ drop t $
        move t (2 ∷ []) $ heard t (e.promise a ws.0 ws.1) (λ ok.
        -- [what says the record; what says the last values; the lifetime's token; the other tokens; the lender's part]
        move t (2 ∷ []) $ lft_end t tt $ move t (0 ∷ 4 ∷ 1 ∷ []) $ use3 𝓛 (later (‵ ((mem S).own_at ws.0 b 0))) (ref_back 𝓛 S (α ∷ []) γ ws.0 b 0) $ await t tt $
        use1 𝓛 (given (Is S ws.0 (s.val ws.0 ∷ [])) (cell b ws.0)) (takes ws.0 b) $ learn t (λ is-s. k v a ws.0 ws.1 is-a is-s ok))))))))

  -- at the end: what is had gives what the function promises
  ends : (x : S.Denot) (a : N.Denot) (w : e.Last) → Is S x (s.val x ∷ []) → Is N a (n.val a ∷ []) → e.promise a x w
      → ent 𝓤 (⋆ 𝓛 (‵ (e.says w) ∷ raw e.tokens ∷ [])) (Gives 𝓛 p e h (vstruct (vcons (s.val x) (vcons (n.val a) vnil))))
  ends x a w is_x is-a ok =
      let r = p.make x a in
      let kept : e.promise (p.answer r) (p.stream r) w = subst (λ (b : N.Denot). e.promise b (p.stream r) w) (sym (p.made-answer x a)) (subst (λ (y : S.Denot). e.promise a y w) (sym (p.made-stream x a)) ok) in
      qed 𝓛 (‵ (e.says w) ∷ raw e.tokens ∷ []) ∵ updating ! $ at_once ! $
      show ! (λ (r' : R.Denot). sep 𝓤 (sep 𝓤 e.tokens (sem 𝓛 (R.own_val r' (vstruct (vcons (s.val x) (vcons (n.val a) vnil)) ∷ [])))) (Replied 𝓛 p e h r')) r $
      owned ! R (Is R) p.makes r _ (p.made x a is_x is-a) $ move ! (2 ∷ 0 ∷ []) $ join ! $ frame ! $
      show ! (λ (ws : Unit {0} × e.Last). sep 𝓤 (sem 𝓛 (fsep ftrue (e.says ws.1))) (fact 𝓤 (e.promise (p.answer r) (p.stream r) ws.1))) (tt, w) $ says ! kept $ nothing ! $ fjoin ! $ done !

  -- ---- the walks. A context begins as its comment says, and then has the locals, from the last, each with what frees it
  -- the call f(&mut s)
  pub alone : Meets [] → Walks (alone-local s.mir n.mir ρ π f) []
  alone known =
      qed 𝓛 entry ∵ split ! $ move ! (1 ∷ []) $ fsplit ! $ peeks ! S (Is S) (shows 𝓛 S) h (s.val h ∷ []) (λ is-h. drop ! $
      enter ! C Λ _ (s.val h ∷ []) _ $ alloc1 ! (λ l₀. alloc1 ! (λ l₁. alloc1 ! (λ l₂. alloc1 ! (λ l₃. alloc1 ! (λ l₄. alloc1 ! (λ l₅. alloc0 ! $
      params1 ! $ pass1 ! (init ! 8 refl (s.fits h _ is-h)) $ pass0 ! $
      assigns ! (of_opd ! (load ! (from ! (stop !)) (look ! 8 refl))) (from ! (stop !)) (init ! 6 refl (s.fits h _ is-h)) $ assigns ! (addr ! (from ! (stop !))) (from ! (stop !)) (init ! 2 refl (tt, tt)) $
      move ! (6 ∷ 12 ∷ 13 ∷ 14 ∷ []) $ called ! l₂ [] known is-h (λ _ _. (and_then ! (load ! (from ! (stop !)) (look ! 4 refl)) (no_more !))) (λ v a x w is-v is_x ok.
      -- [the record's cell; what says the last values; the other tokens]
      let is-a = subst (Is N a) (n.tells a _ is-v) is-v in
      land ! (from ! (stop !)) (init ! 7 refl (n.fits a v is-v)) $ rewrite ! 7 (λ (u : Val). ‵ (fat full_share n.mir l₃ 0 u)) (ap only (n.tells a _ is-v)) refl $
      assigns ! (of_opd ! (load ! (from ! (stop !)) (look ! 0 refl))) (from ! (stop !)) (init ! 3 refl (s.fits x _ is_x)) $
      assigns ! (agg ! (and_then ! (load ! (from ! (stop !)) (look ! 3 refl)) (and_then ! (load ! (from ! (stop !)) (look ! 7 refl)) (no_more !)))) (from ! (stop !)) (init ! 12 refl (p.fits _ _ (p.made x a is_x is-a))) $
      returns ! (look ! 12 refl) $ forget ! 12 refl $ forget ! 10 refl $ forget ! 0 refl $ forget ! 7 refl $ forget ! 5 refl $ forget ! 3 refl $
      move ! (12 ∷ 13 ∷ []) $ free1 ! $ move ! (10 ∷ 11 ∷ []) $ free1 ! $ move ! (0 ∷ 9 ∷ []) $ free1 ! $ move ! (6 ∷ 7 ∷ []) $ free1 ! $ move ! (4 ∷ 5 ∷ []) $ free1 ! $ move ! (2 ∷ 3 ∷ []) $ free1 ! $ free0 ! $
      by ! (ends x a w is_x is-a ok)))))))))

  -- the call f(&mut s, y), y being a `&mut [T]`: it is passed on for good
  module _ (ε : Ty) (at' : ℕ × ℕ) (m : ℕ) (fits : m < 2 ^ 64) where
    abbrev y : Val
    y = slice_val at' m

    pub slice : Meets (y ∷ []) → Walks (slice-local s.mir n.mir ρ π ε f) (y ∷ [])
    slice known =
        qed 𝓛 entry ∵ split ! $ move ! (1 ∷ []) $ fsplit ! $ peeks ! S (Is S) (shows 𝓛 S) h (s.val h ∷ []) (λ is-h. drop ! $
        enter ! C Λ _ (s.val h ∷ y ∷ []) _ $ alloc1 ! (λ l₀. alloc1 ! (λ l₁. alloc1 ! (λ l₂. alloc1 ! (λ l₃. alloc1 ! (λ l₄. alloc1 ! (λ l₅. alloc1 ! (λ l₆. alloc1 ! (λ l₇. alloc1 ! (λ l₈. alloc0 ! $
        params1 ! $ pass1 ! (init ! 14 refl (s.fits h _ is-h)) $ pass1 ! (init ! 12 refl (tt, (tt, (record { fits = fits }, tt)))) $ pass0 ! $
        assigns ! (of_opd ! (load ! (from ! (stop !)) (look ! 14 refl))) (from ! (stop !)) (init ! 10 refl (s.fits h _ is-h)) $ assigns ! (addr ! (from ! (stop !))) (from ! (stop !)) (init ! 6 refl (tt, tt)) $
        assigns ! (addr ! (from ! (fld ! refl (hop ! (look_in ! 12 (sub ! 0 refl (whole !))) (stop !))))) (from ! (stop !)) (init ! 4 refl (tt, tt)) $
        assigns ! (agg ! (and_then ! (load ! (from ! (stop !)) (look ! 4 refl)) (and_then ! (load ! (from ! (fld ! refl (stop !))) (look_in ! 12 (sub ! 1 refl (whole !)))) (no_more !)))) (from ! (stop !)) (init ! 2 refl (tt, (tt, (record { fits = fits }, tt)))) $
        move ! (10 ∷ 18 ∷ 19 ∷ 20 ∷ []) $ called ! l₃ (y ∷ []) known is-h (λ _ _. (and_then ! (load ! (from ! (stop !)) (look ! 8 refl)) (and_then ! (load ! (from ! (stop !)) (look ! 4 refl)) (no_more !)))) (λ v a x w is-v is_x ok.
        -- [the record's cell; what says the last values; the other tokens]
        let is-a = subst (Is N a) (n.tells a _ is-v) is-v in
        land ! (from ! (stop !)) (init ! 11 refl (n.fits a v is-v)) $ rewrite ! 11 (λ (u : Val). ‵ (fat full_share n.mir l₄ 0 u)) (ap only (n.tells a _ is-v)) refl $
        assigns ! (of_opd ! (load ! (from ! (stop !)) (look ! 0 refl))) (from ! (stop !)) (init ! 3 refl (s.fits x _ is_x)) $
        assigns ! (agg ! (and_then ! (load ! (from ! (stop !)) (look ! 3 refl)) (and_then ! (load ! (from ! (stop !)) (look ! 11 refl)) (no_more !)))) (from ! (stop !)) (init ! 18 refl (p.fits _ _ (p.made x a is_x is-a))) $
        returns ! (look ! 18 refl) $ forget ! 18 refl $ forget ! 16 refl $ forget ! 14 refl $ forget ! 0 refl $ forget ! 11 refl $ forget ! 9 refl $ forget ! 7 refl $ forget ! 5 refl $ forget ! 3 refl $
        move ! (18 ∷ 19 ∷ []) $ free1 ! $ move ! (16 ∷ 17 ∷ []) $ free1 ! $ move ! (14 ∷ 15 ∷ []) $ free1 ! $ move ! (0 ∷ 13 ∷ []) $ free1 ! $ move ! (10 ∷ 11 ∷ []) $ free1 ! $ move ! (8 ∷ 9 ∷ []) $ free1 ! $ move ! (6 ∷ 7 ∷ []) $ free1 ! $ move ! (4 ∷ 5 ∷ []) $ free1 ! $ move ! (2 ∷ 3 ∷ []) $ free1 ! $ free0 ! $
        by ! (ends x a w is_x is-a ok))))))))))))

    -- the call f(&mut s, z, y), y being a `&mut [T]`
    pub value-slice : (k : ℕ) (ℓ : Lifetime) (τ : Ty) (z : Val) → Fits τ z → Meets (z ∷ y ∷ []) → Walks (value-slice-local s.mir n.mir ρ π k ℓ τ ε f) (z ∷ y ∷ [])
    value-slice k ℓ τ z fits-z known =
        qed 𝓛 entry ∵ split ! $ move ! (1 ∷ []) $ fsplit ! $ peeks ! S (Is S) (shows 𝓛 S) h (s.val h ∷ []) (λ is-h. drop ! $
        enter ! C Λ _ (s.val h ∷ z ∷ y ∷ []) _ $ alloc1 ! (λ l₀. alloc1 ! (λ l₁. alloc1 ! (λ l₂. alloc1 ! (λ l₃. alloc1 ! (λ l₄. alloc1 ! (λ l₅. alloc1 ! (λ l₆. alloc1 ! (λ l₇. alloc1 ! (λ l₈. alloc1 ! (λ l₉. alloc0 ! $
        params1 ! $ pass1 ! (init ! 16 refl (s.fits h _ is-h)) $ pass1 ! (init ! 14 refl fits-z) $ pass1 ! (init ! 12 refl (tt, (tt, (record { fits = fits }, tt)))) $ pass0 ! $
        assigns ! (of_opd ! (load ! (from ! (stop !)) (look ! 16 refl))) (from ! (stop !)) (init ! 10 refl (s.fits h _ is-h)) $ assigns ! (addr ! (from ! (stop !))) (from ! (stop !)) (init ! 6 refl (tt, tt)) $
        assigns ! (addr ! (from ! (fld ! refl (hop ! (look_in ! 12 (sub ! 0 refl (whole !))) (stop !))))) (from ! (stop !)) (init ! 4 refl (tt, tt)) $
        assigns ! (agg ! (and_then ! (load ! (from ! (stop !)) (look ! 4 refl)) (and_then ! (load ! (from ! (fld ! refl (stop !))) (look_in ! 12 (sub ! 1 refl (whole !)))) (no_more !)))) (from ! (stop !)) (init ! 2 refl (tt, (tt, (record { fits = fits }, tt)))) $
        move ! (10 ∷ 20 ∷ 21 ∷ 22 ∷ []) $ called ! l₄ (z ∷ y ∷ []) known is-h (λ _ _. (and_then ! (load ! (from ! (stop !)) (look ! 8 refl)) (and_then ! (load ! (from ! (stop !)) (look ! 15 refl)) (and_then ! (load ! (from ! (stop !)) (look ! 4 refl)) (no_more !))))) (λ v a x w is-v is_x ok.
        -- [the record's cell; what says the last values; the other tokens]
        let is-a = subst (Is N a) (n.tells a _ is-v) is-v in
        land ! (from ! (stop !)) (init ! 11 refl (n.fits a v is-v)) $ rewrite ! 11 (λ (u : Val). ‵ (fat full_share n.mir l₅ 0 u)) (ap only (n.tells a _ is-v)) refl $
        assigns ! (of_opd ! (load ! (from ! (stop !)) (look ! 0 refl))) (from ! (stop !)) (init ! 3 refl (s.fits x _ is_x)) $
        assigns ! (agg ! (and_then ! (load ! (from ! (stop !)) (look ! 3 refl)) (and_then ! (load ! (from ! (stop !)) (look ! 11 refl)) (no_more !)))) (from ! (stop !)) (init ! 20 refl (p.fits _ _ (p.made x a is_x is-a))) $
        returns ! (look ! 20 refl) $ forget ! 20 refl $ forget ! 18 refl $ forget ! 16 refl $ forget ! 14 refl $ forget ! 0 refl $ forget ! 11 refl $ forget ! 9 refl $ forget ! 7 refl $ forget ! 5 refl $ forget ! 3 refl $
        move ! (20 ∷ 21 ∷ []) $ free1 ! $ move ! (18 ∷ 19 ∷ []) $ free1 ! $ move ! (16 ∷ 17 ∷ []) $ free1 ! $ move ! (14 ∷ 15 ∷ []) $ free1 ! $ move ! (0 ∷ 13 ∷ []) $ free1 ! $ move ! (10 ∷ 11 ∷ []) $ free1 ! $ move ! (8 ∷ 9 ∷ []) $ free1 ! $ move ! (6 ∷ 7 ∷ []) $ free1 ! $ move ! (4 ∷ 5 ∷ []) $ free1 ! $ move ! (2 ∷ 3 ∷ []) $ free1 ! $ free0 ! $
        by ! (ends x a w is_x is-a ok)))))))))))))

  -- the call f(&mut s, y, z)
  pub two-values : (τ τ' : Ty) (y z : Val) → Fits τ y → Fits τ' z → Meets (y ∷ z ∷ []) → Walks (two-values-local s.mir n.mir ρ π τ τ' f) (y ∷ z ∷ [])
  two-values τ τ' y z fits-y fits-z known =
      qed 𝓛 entry ∵ split ! $ move ! (1 ∷ []) $ fsplit ! $ peeks ! S (Is S) (shows 𝓛 S) h (s.val h ∷ []) (λ is-h. drop ! $
      enter ! C Λ _ (s.val h ∷ y ∷ z ∷ []) _ $ alloc1 ! (λ l₀. alloc1 ! (λ l₁. alloc1 ! (λ l₂. alloc1 ! (λ l₃. alloc1 ! (λ l₄. alloc1 ! (λ l₅. alloc1 ! (λ l₆. alloc1 ! (λ l₇. alloc0 ! $
      params1 ! $ pass1 ! (init ! 12 refl (s.fits h _ is-h)) $ pass1 ! (init ! 10 refl fits-y) $ pass1 ! (init ! 8 refl fits-z) $ pass0 ! $
      assigns ! (of_opd ! (load ! (from ! (stop !)) (look ! 12 refl))) (from ! (stop !)) (init ! 6 refl (s.fits h _ is-h)) $ assigns ! (addr ! (from ! (stop !))) (from ! (stop !)) (init ! 2 refl (tt, tt)) $
      move ! (6 ∷ 16 ∷ 17 ∷ 18 ∷ []) $ called ! l₄ (y ∷ z ∷ []) known is-h (λ _ _. (and_then ! (load ! (from ! (stop !)) (look ! 4 refl)) (and_then ! (load ! (from ! (stop !)) (look ! 11 refl)) (and_then ! (load ! (from ! (stop !)) (look ! 9 refl)) (no_more !))))) (λ v a x w is-v is_x ok.
      -- [the record's cell; what says the last values; the other tokens]
      let is-a = subst (Is N a) (n.tells a _ is-v) is-v in
      land ! (from ! (stop !)) (init ! 7 refl (n.fits a v is-v)) $ rewrite ! 7 (λ (u : Val). ‵ (fat full_share n.mir l₅ 0 u)) (ap only (n.tells a _ is-v)) refl $
      assigns ! (of_opd ! (load ! (from ! (stop !)) (look ! 0 refl))) (from ! (stop !)) (init ! 3 refl (s.fits x _ is_x)) $
      assigns ! (agg ! (and_then ! (load ! (from ! (stop !)) (look ! 3 refl)) (and_then ! (load ! (from ! (stop !)) (look ! 7 refl)) (no_more !)))) (from ! (stop !)) (init ! 16 refl (p.fits _ _ (p.made x a is_x is-a))) $
      returns ! (look ! 16 refl) $ forget ! 16 refl $ forget ! 14 refl $ forget ! 12 refl $ forget ! 10 refl $ forget ! 0 refl $ forget ! 7 refl $ forget ! 5 refl $ forget ! 3 refl $
      move ! (16 ∷ 17 ∷ []) $ free1 ! $ move ! (14 ∷ 15 ∷ []) $ free1 ! $ move ! (12 ∷ 13 ∷ []) $ free1 ! $ move ! (10 ∷ 11 ∷ []) $ free1 ! $ move ! (0 ∷ 9 ∷ []) $ free1 ! $ move ! (6 ∷ 7 ∷ []) $ free1 ! $ move ! (4 ∷ 5 ∷ []) $ free1 ! $ move ! (2 ∷ 3 ∷ []) $ free1 ! $ free0 ! $
      by ! (ends x a w is_x is-a ok)))))))))))
