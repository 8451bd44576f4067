-- What a gate tells: refused, it is the call's outcome, with nothing differing; open, the record is sound, the block has its length and the hand is right,
-- and what the rest of the rule gives is the call's outcome. By the tests in their order. Assumes nothing.
use Rattle.std.specs.Prelude.{Result, Ok, Err, Option, Some, None}
use mathlib.Core.Path.{◌≡◌, refl, sym, ap, ◌∙◌}
use mathlib.Core.Bool.{Bool, true, false, cond}
use mathlib.Core.List.{List}
use Prim.Native.Nat.{ℕ}
use native.Mathlib.Omega.{arith}
use lib.Dec.{eqb}
use lib.ListN.{length}
use borrow.Author.Tests.{eqb-true, eq-eqb}
use Rattle.error.specs.declared.Error.{Error}
use Rattle.layout.specs.declared.Setup.{Setup}
use Rattle.layout.specs.Opening.{admissible, total_of}
use Rattle.ring.specs.declared.Hand.{Hand}
use Rattle.ring.proofs.Wide.{Wide}
use Rattle.stream.specs.declared.Answer.{Answer}
use Rattle.stream.specs.declared.Reply.{Reply}
use Rattle.stream.specs.declared.Stream.{Stream}
use Rattle.stream.specs.Sound.{sound}
use Rattle.stream.proofs.Soundness.{setup-admissible}
use Rattle.ledger.specs.Ledger.{Ledger}
use Rattle.ledger.specs.Step.{Next, Rule, refused, on_block, by_idle, when_idle, by_held, when_held}
use Rattle.ledger.specs.Record.{view}
use Rattle.ledger.specs.Calls.{Call, rule, lent_to, step_of}
use Rattle.ledger.specs.Told.{Told}
use Rattle.ledger.specs.Gives.{Gives}
use Rattle.ledger.proofs.Calls.{told-unsound, told-gives, gives-refused}
use Rattle.gate.specs.Gate.{and_then, sound_gate, length_gate, block_test, block_gate, idle_hand, idle_test, idle_gate, held_hand, then_held, held_test, held_gate}

-- a rule behind 6, where a block is lent
abbrev pub behind : Option ℕ → Rule → Rule
behind (Some len) rest = on_block rest
behind None rest = rest

-- the block is as long as the gate is told
abbrev pub Lends : Option ℕ → List ℕ → Type 0
Lends (Some len) x = len ≡ length x
Lends None x = Unit {0}

-- and as long as the ring asks
abbrev pub Fits : Option ℕ → Setup → List ℕ → Type 0
Fits (Some len) s x = length x ≡ total_of s
Fits None s x = Unit {0}

-- past 6 the rest decides
behind-fits : (lent : Option ℕ) (rest : Rule) (s : Setup) (l : Ledger) (x : List ℕ) → Fits lent s x → behind lent rest s l x ≡ rest s l x
unfolding on_block
behind-fits (Some len) rest s l x f = rw (eq-eqb (length x) (total_of s) f)
behind-fits None rest s l x f = refl

-- 6 decides
length-refuses : (lent : Option ℕ) (rest : Rule) (s : Setup) (l : Ledger) (x : List ℕ) (e : Error) → Lends lent x → length_gate s lent ≡ Err e → behind lent rest s l x ≡ refused e l x
unfolding length_gate on_block
length-refuses (Some len) rest s l x e long p = by (eqb (length x) (total_of s)) refl (ap (λ (n : ℕ). cond (eqb n (total_of s)) (Ok tt) (Err Error.BlockLength)) (sym long) ∙ p)
  where
    by : (b : Bool) → eqb (length x) (total_of s) ≡ b → cond b (Ok (tt {0})) (Err Error.BlockLength) ≡ Err e → cond (eqb (length x) (total_of s)) (rest s l x) (refused Error.BlockLength l x) ≡ refused e l x
    by true q r = let z : ◌≡◌ {A = ℕ} 0 1 = cc in absurd (omega arith)
    by false q r = let z : Error.BlockLength ≡ e = cc in rw (q, z)
length-refuses None rest s l x e long p = let z : ◌≡◌ {A = ℕ} 0 1 = cc in absurd (omega arith)

length-fits : (lent : Option ℕ) (s : Setup) (x : List ℕ) → Lends lent x → length_gate s lent ≡ Ok tt → Fits lent s x
unfolding length_gate
length-fits (Some len) s x long p = by (eqb len (total_of s)) refl p
  where
    by : (b : Bool) → eqb len (total_of s) ≡ b → cond b (Ok (tt {0})) (Err Error.BlockLength) ≡ Ok tt → length x ≡ total_of s
    by true q r = sym long ∙ eqb-true len (total_of s) q
    by false q r = let z : ◌≡◌ {A = ℕ} 0 1 = cc in absurd (omega arith)
length-fits None s x long p = tt

module _ (s : Stream) (lent : Option ℕ) {ok : Bool} (test : ok ≡ sound s) where
  -- what a gate asks
  pub gate-asks : ok ≡ true → admissible s.setup ≡ true
  gate-asks p = setup-admissible s (sym test ∙ p)

  -- a gate that goes by the record's own test
  pub block-is : {g : Result (Unit {0}) Error} → g ≡ block_test ok s.setup lent → g ≡ block_gate s lent
  unfolding block_gate
  block-is e = e ∙ ap (λ (b : Bool). block_test b s.setup lent) test

  pub idle-is : {g : Result (Unit {0}) Error} → g ≡ idle_test ok s.setup s.hand lent → g ≡ idle_gate s lent
  unfolding idle_gate
  idle-is e = e ∙ ap (λ (b : Bool). idle_test b s.setup s.hand lent) test

  pub held-is : {g : Result ℕ Error} → g ≡ held_test ok s.setup s.hand lent → g ≡ held_gate s lent
  unfolding held_gate
  held-is e = e ∙ ap (λ (b : Bool). held_test b s.setup s.hand lent) test

module _ (s : Stream) (lent : Option ℕ) where
  -- 8 and 6 passed
  pub block-open : (x : List ℕ) → Lends lent x → block_gate s lent ≡ Ok tt → (sound s ≡ true) × Fits lent s.setup x
  unfolding block_gate block_test sound_gate and_then
  block-open x long p = by (sound s) refl p
    where
      by : (b : Bool) → sound s ≡ b → and_then (cond b (Ok (tt {0})) (Err Error.Unsound)) (length_gate s.setup lent) ≡ Ok tt → (sound s ≡ true) × Fits lent s.setup x
      by true q r = (q, length-fits lent s.setup x long r)
      by false q r = let z : ◌≡◌ {A = ℕ} 0 1 = cc in absurd (omega arith)

  pub idle-open : (x : List ℕ) → Lends lent x → idle_gate s lent ≡ Ok tt → (sound s ≡ true) × (s.hand ≡ Hand.Idle) × Fits lent s.setup x
  unfolding idle_gate idle_test block_gate and_then idle_hand
  idle-open x long p = by (block_gate s lent) s.hand refl refl p
    where
      by : (g : Result (Unit {0}) Error) (h : Hand) → block_gate s lent ≡ g → s.hand ≡ h → and_then g (idle_hand h) ≡ Ok tt → (sound s ≡ true) × (s.hand ≡ Hand.Idle) × Fits lent s.setup x
      by (Ok tt) Hand.Idle q r t = let b = block-open x long q in (b.0, r, b.1)
      by (Ok tt) (Hand.Held i) q r t = let z : ◌≡◌ {A = ℕ} 0 1 = cc in absurd (omega arith)
      by (Ok tt) (Hand.Sending i) q r t = let z : ◌≡◌ {A = ℕ} 0 1 = cc in absurd (omega arith)
      by (Ok tt) (Hand.Silent i left) q r t = let z : ◌≡◌ {A = ℕ} 0 1 = cc in absurd (omega arith)
      by (Err e) h q r t = let z : ◌≡◌ {A = ℕ} 0 1 = cc in absurd (omega arith)

  pub held-open : (x : List ℕ) → Lends lent x → (i : ℕ) → held_gate s lent ≡ Ok i → (sound s ≡ true) × (s.hand ≡ Hand.Held i) × Fits lent s.setup x
  unfolding held_gate held_test block_gate then_held held_hand
  held-open x long i p = by (block_gate s lent) s.hand refl refl p
    where
      by : (g : Result (Unit {0}) Error) (h : Hand) → block_gate s lent ≡ g → s.hand ≡ h → then_held g h ≡ Ok i → (sound s ≡ true) × (s.hand ≡ Hand.Held i) × Fits lent s.setup x
      by (Ok tt) (Hand.Held k) q r t =
          let b = block-open x long q in
          let z : k ≡ i = cc in
          (b.0, r ∙ ap Hand.Held z, b.1)
      by (Ok tt) Hand.Idle q r t = let z : ◌≡◌ {A = ℕ} 0 1 = cc in absurd (omega arith)
      by (Ok tt) (Hand.Sending k) q r t = let z : ◌≡◌ {A = ℕ} 0 1 = cc in absurd (omega arith)
      by (Ok tt) (Hand.Silent k left) q r t = let z : ◌≡◌ {A = ℕ} 0 1 = cc in absurd (omega arith)
      by (Err e) h q r t = let z : ◌≡◌ {A = ℕ} 0 1 = cc in absurd (omega arith)

  -- the call c, whose rule has this behind 6
  module _ (c : Call) (rest : Rule) (is : rule c ≡ behind lent rest) (long : Lends lent (lent_to c)) where
    -- past 6 the rest is the call's step
    pub past-block : Fits lent s.setup (lent_to c) → step_of s.setup c (view s) ≡ rest s.setup (view s) (lent_to c)
    unfolding step_of
    past-block f =
        ap (λ (r : Rule). r s.setup (view s) (lent_to c)) is ∙ behind-fits lent rest s.setup (view s) (lent_to c) f

    -- refused with nothing differing, where the step says so
    step-refused : Wide s.ring → sound s ≡ true → (e : Error) → step_of s.setup c (view s) ≡ refused e (view s) (lent_to c) → Told c s (Answer.Refused e) s (lent_to c)
    step-refused wide ok e p =
        told-gives c s ok _ p (record { stream = s; answer = Answer.Refused e }) (lent_to c)
        (gives-refused s ok wide e (lent_to c) (record { stream = s; answer = Answer.Refused e }) refl)

    -- 8 or 6
    pub block_refused : Wide s.ring → (e : Error) → block_gate s lent ≡ Err e → Told c s (Answer.Refused e) s (lent_to c)
    unfolding block_gate block_test sound_gate and_then step_of
    block_refused wide e p = by (sound s) refl p
      where
        by : (b : Bool) → sound s ≡ b → and_then (cond b (Ok (tt {0})) (Err Error.Unsound)) (length_gate s.setup lent) ≡ Err e → Told c s (Answer.Refused e) s (lent_to c)
        by true q r =
            step-refused wide q e
            (ap (λ (x : Rule). x s.setup (view s) (lent_to c)) is ∙ length-refuses lent rest s.setup (view s) (lent_to c) e long r)
        by false q r = let z : Error.Unsound ≡ e = cc in rw (sym z) (told-unsound c s q)

    -- 9
    pub hand-refused : Wide s.ring → (e : Error) → block_gate s lent ≡ Ok tt → Error.WrongHand ≡ e → rest s.setup (view s) (lent_to c) ≡ refused Error.WrongHand (view s) (lent_to c) → Told c s (Answer.Refused e) s (lent_to c)
    hand-refused wide e p z q =
        let b = block-open (lent_to c) long p in
        rw (sym z) (step-refused wide b.0 Error.WrongHand (past-block b.1 ∙ q))

-- a call on an Idle hand
module _ (s : Stream) (lent : Option ℕ) (c : Call) (idle : Rule) (is : rule c ≡ behind lent (when_idle idle)) (long : Lends lent (lent_to c)) where
  pub idle-refused : Wide s.ring → (e : Error) → idle_gate s lent ≡ Err e → (r : Reply) → r ≡ record { stream = s; answer = Answer.Refused e } → Told c s r.answer r.stream (lent_to c)
  unfolding idle_gate idle_test block_gate and_then idle_hand when_idle by_idle view
  idle-refused wide e p r f = rw f (by (block_gate s lent) s.hand refl refl p)
    where
      wrong : (h : Hand) → block_gate s lent ≡ Ok tt → s.hand ≡ h → ((next wrong : Next) → by_idle h next wrong ≡ wrong) → Error.WrongHand ≡ e → Told c s (Answer.Refused e) s (lent_to c)
      wrong h q is-h refuses z = hand-refused s lent c (when_idle idle) is long wide e q z (rw is-h (refuses _ _))

      by : (g : Result (Unit {0}) Error) (h : Hand) → block_gate s lent ≡ g → s.hand ≡ h → and_then g (idle_hand h) ≡ Err e → Told c s (Answer.Refused e) s (lent_to c)
      by (Err d) h q is-h t = let z : d ≡ e = cc in block_refused s lent c (when_idle idle) is long wide e (q ∙ ap Err z)
      by (Ok tt) Hand.Idle q is-h t = let z : ◌≡◌ {A = ℕ} 0 1 = cc in absurd (omega arith)
      by (Ok tt) (Hand.Held i) q is-h t = wrong _ q is-h (λ next wrong. refl) (cc)
      by (Ok tt) (Hand.Sending i) q is-h t = wrong _ q is-h (λ next wrong. refl) (cc)
      by (Ok tt) (Hand.Silent i left) q is-h t = wrong _ q is-h (λ next wrong. refl) (cc)

  pub idle-told : idle_gate s lent ≡ Ok tt → (r : Reply) (left : List ℕ) → Gives s (idle s.setup (view s) (lent_to c)) r left → Told c s r.answer r.stream left
  unfolding when_idle by_idle view
  idle-told p r left g =
      let known = idle-open s lent (lent_to c) long p in
      told-gives c s known.0 _ (past-block s lent c (when_idle idle) is long known.2 ∙ rw known.1) r left g

-- a call on a Held hand
module _ (s : Stream) (lent : Option ℕ) (c : Call) (held : ℕ → Rule) (is : rule c ≡ behind lent (when_held held)) (long : Lends lent (lent_to c)) where
  pub held-refused : Wide s.ring → (e : Error) → held_gate s lent ≡ Err e → (r : Reply) → r ≡ record { stream = s; answer = Answer.Refused e } → Told c s r.answer r.stream (lent_to c)
  unfolding held_gate held_test block_gate then_held held_hand when_held by_held view
  held-refused wide e p r f = rw f (by (block_gate s lent) s.hand refl refl p)
    where
      wrong : (h : Hand) → block_gate s lent ≡ Ok tt → s.hand ≡ h → ((next : ℕ → Next) (wrong : Next) → by_held h next wrong ≡ wrong) → Error.WrongHand ≡ e → Told c s (Answer.Refused e) s (lent_to c)
      wrong h q is-h refuses z = hand-refused s lent c (when_held held) is long wide e q z (rw is-h (refuses _ _))

      by : (g : Result (Unit {0}) Error) (h : Hand) → block_gate s lent ≡ g → s.hand ≡ h → then_held g h ≡ Err e → Told c s (Answer.Refused e) s (lent_to c)
      by (Err d) h q is-h t = let z : d ≡ e = cc in block_refused s lent c (when_held held) is long wide e (q ∙ ap Err z)
      by (Ok tt) (Hand.Held i) q is-h t = let z : ◌≡◌ {A = ℕ} 0 1 = cc in absurd (omega arith)
      by (Ok tt) Hand.Idle q is-h t = wrong _ q is-h (λ next wrong. refl) (cc)
      by (Ok tt) (Hand.Sending i) q is-h t = wrong _ q is-h (λ next wrong. refl) (cc)
      by (Ok tt) (Hand.Silent i left) q is-h t = wrong _ q is-h (λ next wrong. refl) (cc)

  pub held-told : (i : ℕ) → held_gate s lent ≡ Ok i → (r : Reply) (left : List ℕ) → Gives s (held i s.setup (view s) (lent_to c)) r left → Told c s r.answer r.stream left
  unfolding when_held by_held view
  held-told i p r left g =
      let known = held-open s lent (lent_to c) long i p in
      told-gives c s known.0 _ (past-block s lent c (when_held held) is long known.2 ∙ rw known.1) r left g
