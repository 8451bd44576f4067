-- A list that C lends as bytes, of which as many numbers are read as can matter. More than 129 lengths are refused as 129 are, and stop lists at most 256 slots,
-- so the numbers that are not read stay in their bytes. Assumes nothing.
use Prim.Native.Nat.{ℕ, suc, ◌+◌, ◌*◌, ◌/◌, ◌≤◌, ◌<◌, min}
use native.Mathlib.Nat.{zero-add}
use native.Mathlib.Omega.{arith}
use mathlib.Core.Path.{◌≡◌, refl, sym, ap, ◌∙◌}
use mathlib.Core.Bool.{Bool, true, false}
use mathlib.Core.List.{List, [], ◌∷◌, ◌++◌, append_assoc}
use borrow.Author.Tests.{ltb-true, ltb-false, lt-ltb, le-ltb, ne_eqb}
use lib.Dec.{ltb}
use lib.ListN.{length, take, drop, length-append, length-drop, take-append-drop}
use lib.Seq.{length-take-le, length_front, take_all, take_at, get_or-take, drop_at, drop-append-le}
use Rattle.layout.specs.declared.Setup.{Setup}
use Rattle.layout.proofs.Admission.{admits}
use Rattle.sys.specs.Bytes.{field, store}
use Rattle.sys.proofs.Store.{store-eq}
use Rattle.ring.specs.declared.Hand.{Hand}
use Rattle.ring.specs.Counts.{table}
use Rattle.ring.proofs.Numbers.{table-long, table_at, table_is}
use Rattle.ring.proofs.Wide.{Wide}
use Rattle.stream.specs.declared.Reply.{Reply}
use Rattle.stream.specs.declared.Stream.{Stream}
use Rattle.stream.specs.Numbers.{numbers_of}
use Rattle.stream.specs.Sound.{sound}
use Rattle.stream.proofs.Soundness.{setup-admissible}
use Rattle.ledger.specs.Ledger.{Ledger, Mark, home, out, discarded}
use Rattle.ledger.specs.Step.{Next, refused, on_block, by_idle, when_idle, by_held, when_held}
use Rattle.ledger.specs.Record.{Outcome, view, stored, call}
use Rattle.ledger.specs.Commit.{packets_held, commit_packets}
use Rattle.ledger.specs.Control.{in_flight_from, stop_idle, stop}
use Rattle.ledger.specs.Calls.{Call, rule, lent_to, made}
use Rattle.ledger.specs.Told.{Told}
use Rattle.ledger.proofs.Valid.{sound-valid}
use Rattle.encoding.specs.Words.{words, numbers_at, list_in}
use Rattle.encoding.proofs.Laid.{Bytes, length-words, words_append}
use Rattle.encoding.proofs.Bytes.{words_back}
use Rattle.from_c.specs.Calls.{on_list}
use Rattle.from_c.specs.FromC.{Called}

-- a table's front
table-front : (f : ℕ → ℕ) (k n : ℕ) → k ≤ n → table f k ≡ take k (table f n)
table-front f k n h =
    let long : length (take k (table f n)) ≡ k = length-take-le k (table f n) (omega (arith, table-long f n)) in
    table_is f 0 k (take k (table f n)) long (λ i b. sym (get_or-take k (table f n) i 0 b ∙ table_at f 0 n i (omega arith)))

module _ (bytes : List ℕ) where
  length-list : length (list_in bytes) ≡ length bytes / 8
  unfolding list_in numbers_at
  length-list = table-long (λ i. field (0 + 8 * i) 8 bytes) (length bytes / 8)

  -- the first numbers of the list
  list-front : (k : ℕ) → k ≤ length bytes / 8 → numbers_at 8 k 0 bytes ≡ take k (list_in bytes)
  unfolding list_in numbers_at
  list-front k h = table-front (λ i. field (0 + 8 * i) 8 bytes) k (length bytes / 8) h

-- what a rule that looks for a held slot gives, by what it gives for each slot
held_same : (h : Hand) (f g : ℕ → Next) (wrong : Next) → ((i : ℕ) → f i ≡ g i) → by_held h f wrong ≡ by_held h g wrong
unfolding by_held
held_same Hand.Idle f g wrong e = refl
held_same (Hand.Held i) f g wrong e = e i
held_same (Hand.Sending i) f g wrong e = refl
held_same (Hand.Silent i left) f g wrong e = refl

-- as many lengths as no record takes are refused as more are
packets-front : (lengths : List ℕ) (k i : ℕ) (t : Setup) (l : Ledger) (block : List ℕ) → k ≡ min (length lengths) 129 → t.packets_per_urb ≤ 128
    → packets_held (take k lengths) i t l block ≡ packets_held lengths i t l block
unfolding packets_held
packets-front lengths k i t l block e few = go (ltb 129 (length lengths)) refl
  where
    go : (b : Bool) → ltb 129 (length lengths) ≡ b → packets_held (take k lengths) i t l block ≡ packets_held lengths i t l block
    go true h =
        let more : 129 < length lengths = ltb-true 129 (length lengths) h in
        let all : k ≡ 129 = omega arith in
        let long : length (take k lengths) ≡ 129 = length-take-le k lengths (omega arith) ∙ all in
        rw (ne_eqb (length (take k lengths)) t.packets_per_urb (λ q. omega arith), ne_eqb (length lengths) t.packets_per_urb (λ q. omega arith))
    go false h =
        let fewer : length lengths ≤ 129 = ltb-false 129 (length lengths) h in
        ap (λ (ls : List ℕ). packets_held ls i t l block) (take_all k lengths (omega arith))

-- so the call does with the first 129 lengths what it does with all
pub commit-front : (s : Stream) (lengths block : List ℕ) (k : ℕ) → k ≡ min (length lengths) 129
    → call (commit_packets (take k lengths)) s block ≡ call (commit_packets lengths) s block
unfolding call commit_packets on_block when_held
commit-front s lengths block k e = go (sound s) refl
  where
    go : (b : Bool) → sound s ≡ b → call (commit_packets (take k lengths)) s block ≡ call (commit_packets lengths) s block
    go true ok =
        let few : s.setup.packets_per_urb ≤ 128 = (admits s.setup (setup-admissible s ok)).limits.sizes.few in
        let held : List ℕ → ℕ → Next = λ ls i. packets_held ls i s.setup (view s) block in
        rw (held_same (view s).hand (held (take k lengths)) (held lengths) _ (λ i. packets-front lengths k i s.setup (view s) block e few))
    go false bad = rw bad

-- commit_packets of the numbers that were read is that of all of them
pub commit-listed : (s : Stream) (bytes block : List ℕ) (k : ℕ) → k ≡ min (length bytes / 8) 129 → (numbers : List ℕ) → numbers ≡ numbers_at 8 k 0 bytes
    → (r : Reply) (left : List ℕ) → Told (Call.commit_packets numbers block) s r.answer r.stream left → Called (commit_packets (list_in bytes)) s block r left
unfolding made rule lent_to
commit-listed s bytes block k e numbers is r left t =
    let same : made (Call.commit_packets numbers block) s ≡ call (commit_packets (list_in bytes)) s block =
    ap (λ (ls : List ℕ). call (commit_packets ls) s block) (is ∙ list-front bytes k (omega arith))
    ∙ commit-front s (list_in bytes) block k (omega (arith, length-list bytes)) in
    record {
      answer = t.answer ∙ ap (λ (o : Outcome). numbers_of o.answer) same;
      stream = t.stream ∙ ap (λ (o : Outcome). o.stream) same;
      lent = t.lent ∙ ap (λ (o : Outcome). o.lent) same;
    }

-- stop lists no more slots than there are
listed-few : (i : ℕ) (ms : List Mark) → length (in_flight_from i ms) ≤ length ms
unfolding in_flight_from
listed-few i [] = omega arith
listed-few i (home ∷ ms) = omega (arith, listed-few (suc i) ms)
listed-few i (out ∷ ms) = omega (arith, listed-few (suc i) ms)
listed-few i (discarded ∷ ms) = omega (arith, listed-few (suc i) ms)

-- b is a with the rest behind what is lent
abbrev Behind : List ℕ → Next → Next → Type 0
Behind rest a b = (a.answer ≡ b.answer) × (a.ledger ≡ b.ledger) × (a.lent ++ rest ≡ b.lent)

idle-behind : (rest : List ℕ) (h : Hand) (a b wrong wrong' : Next) → Behind rest a b → Behind rest wrong wrong'
    → Behind rest (by_idle h a wrong) (by_idle h b wrong')
unfolding by_idle
idle-behind rest Hand.Idle a b wrong wrong' e w = e
idle-behind rest (Hand.Held i) a b wrong wrong' e w = w
idle-behind rest (Hand.Sending i) a b wrong wrong' e w = w
idle-behind rest (Hand.Silent i left) a b wrong wrong' e w = w

-- stop on the first 256 places of a list: the places behind stay
module _ (t : Setup) (l : Ledger) (few : length l.marks ≤ 256) (list : List ℕ) (k : ℕ) (e : k ≡ min (length list) 256) where
  idle-front : Behind (drop k list) (stop_idle t l (take k list)) (stop_idle t l list)
  unfolding stop_idle refused
  idle-front = go (ltb (length list) (length slots)) refl
    where
      slots : List ℕ
      slots = in_flight_from 0 l.marks

      small : length slots ≤ 256
      small = omega (arith, listed-few 0 l.marks)

      long : length (take k list) ≡ k
      long = length-take-le k list (omega arith)

      go : (b : Bool) → ltb (length list) (length slots) ≡ b → Behind (drop k list) (stop_idle t l (take k list)) (stop_idle t l list)
      go true h =
          let short : length list < length slots = ltb-true (length list) (length slots) h in
          let still : ltb (length (take k list)) (length slots) ≡ true = lt-ltb (length (take k list)) (length slots) (omega (arith, small, long)) in
          rw (h, still) (refl, refl, take-append-drop k list)
      go false h =
          let room : length slots ≤ length list = ltb-false (length list) (length slots) h in
          let inside : length slots ≤ length (take k list) = omega (arith, small, long) in
          let still : ltb (length (take k list)) (length slots) ≡ false = le-ltb (length (take k list)) (length slots) inside in
          rw (h, still) (
            refl,
            refl,
            append_assoc slots (drop (length slots) (take k list)) (drop k list)
                ∙ ap (λ (rest : List ℕ). slots ++ rest)
                (sym (drop-append-le (length slots) (take k list) (drop k list) inside) ∙ ap (drop (length slots)) (take-append-drop k list)),
          )

  stop-front : Behind (drop k list) (stop t l (take k list)) (stop t l list)
  unfolding stop when_idle refused
  stop-front = idle-behind (drop k list) l.hand _ _ _ _ idle-front (refl, refl, take-append-drop k list)

-- numbers stored in the front of a list of bytes
module _ (bytes : List ℕ) (below : Bytes bytes) where
  -- the bytes behind the list's whole numbers
  ragged : List ℕ
  ragged = drop (8 * (length bytes / 8)) bytes

  stands : bytes ≡ words 8 (list_in bytes) ++ ragged
  unfolding list_in ragged
  stands =
      let m = 8 * (length bytes / 8) in
      sym (ap (λ (front : List ℕ). front ++ drop m bytes) (words_back 8 (length bytes / 8) 0 bytes below (omega arith)) ∙ take-append-drop m bytes)

  module _ (k : ℕ) (inside : k ≤ length bytes / 8) where
    -- the numbers behind the front stay
    front-stored : (vs : List ℕ) → length vs ≡ k → store 0 (words 8 vs) bytes ≡ words 8 (vs ++ drop k (list_in bytes)) ++ ragged
    front-stored vs long =
        let list = list_in bytes in
        let ws = words 8 vs in
        let wide : length ws ≡ 8 * k = length-words 8 vs ∙ ap (λ (n : ℕ). 8 * n) long in
        let front : length (take k list) ≡ k = length-take-le k list (omega (arith, length-list bytes)) in
        let split : bytes ≡ words 8 (take k list) ++ (words 8 (drop k list) ++ ragged) =
        stands
        ∙ ap (λ (us : List ℕ). words 8 us ++ ragged) (sym (take-append-drop k list))
        ∙ ap (λ (us : List ℕ). us ++ ragged) (words_append 8 (take k list) (drop k list))
        ∙ append_assoc (words 8 (take k list)) (words 8 (drop k list)) ragged in
        let behind : drop (0 + length ws) bytes ≡ words 8 (drop k list) ++ ragged =
        ap (drop (0 + length ws)) split
        ∙ drop_at (words 8 (take k list)) (words 8 (drop k list) ++ ragged) (0 + length ws) (omega (arith, length-words 8 (take k list))) in
        store-eq 0 ws bytes (omega arith)
        ∙ ap (λ (rest : List ℕ). ws ++ rest) behind
        ∙ sym (append_assoc ws (words 8 (drop k list)) ragged)
        ∙ ap (λ (us : List ℕ). us ++ ragged) (sym (words_append 8 vs (drop k list)))

    -- so they may as well be stored too
    rest-stored : (vs : List ℕ) → length vs ≡ k → store 0 (words 8 vs) bytes ≡ store 0 (words 8 (vs ++ drop k (list_in bytes))) bytes
    unfolding ragged
    rest-stored vs long =
        let list = list_in bytes in
        let ws = words 8 (vs ++ drop k list) in
        let all : length (vs ++ drop k list) ≡ length bytes / 8 = rw (length-append, length-drop) (omega (arith, length-list bytes)) in
        let wide : length ws ≡ 8 * (length bytes / 8) = length-words 8 (vs ++ drop k list) ∙ ap (λ (n : ℕ). 8 * n) all in
        front-stored vs long ∙ sym (store-eq 0 ws bytes (omega arith) ∙ ap (λ (n : ℕ). ws ++ drop n bytes) (zero-add (length ws) ∙ wide))

    -- the list's own numbers change nothing
    own-stored : store 0 (words 8 (take k (list_in bytes))) bytes ≡ bytes
    own-stored =
        let list = list_in bytes in
        front-stored (take k list) (length-take-le k list (omega (arith, length-list bytes)))
        ∙ ap (λ (us : List ℕ). words 8 us ++ ragged) (take-append-drop k list)
        ∙ sym stands

-- stop on the numbers that were read, stored again, is stop on all of them
pub stop-listed : (s : Stream) → Wide s.ring → (bytes : List ℕ) → Bytes bytes → (k : ℕ) → k ≡ min (length bytes / 8) 256
    → (numbers : List ℕ) → numbers ≡ numbers_at 8 k 0 bytes → (r : Reply) (left : List ℕ) → Told (Call.stop numbers) s r.answer r.stream left
    → length left ≡ k → Called (on_list stop) s bytes r (store 0 (words 8 left) bytes)
unfolding made rule lent_to call on_list
stop-listed s wide bytes below k e numbers is r left t kept = go (sound s) refl
  where
    list : List ℕ
    list = list_in bytes

    inside : k ≤ length bytes / 8
    inside = omega arith

    told : Told (Call.stop (take k list)) s r.answer r.stream left
    told = rw (is ∙ list-front bytes k inside) at t

    go : (b : Bool) → sound s ≡ b → Called (on_list stop) s bytes r (store 0 (words 8 left) bytes)
    go true ok =
        let valid = sound-valid s ok wide in
        let same = stop-front s.setup (view s) (omega (arith, valid.few, valid.long)) list k (omega (arith, length-list bytes)) in
        let now : left ≡ (stop s.setup (view s) (take k list)).lent = told.lent ∙ rw ok in
        record {
          answer = told.answer ∙ rw ok (ap numbers_of same.0);
          stream = told.stream ∙ rw ok (ap (stored s) same.1);
          lent =
              rest-stored bytes below k inside left kept
              ∙ rw ok (ap (λ (vs : List ℕ). store 0 (words 8 vs) bytes) (ap (λ (vs : List ℕ). vs ++ drop k list) now ∙ same.2));
        }
    go false bad =
        let now : left ≡ take k list = told.lent ∙ rw bad in
        record {
          answer = told.answer ∙ rw bad;
          stream = told.stream ∙ rw bad;
          lent = ap (λ (vs : List ℕ). store 0 (words 8 vs) bytes) now ∙ own-stored bytes below k inside ∙ rw bad;
        }

-- numbers that were lent from the front of a list of m places and came home
module _ (m k : ℕ) (few : k ≤ m) (all : List ℕ) (long : length all ≡ m) where
  pub front_long : length (take k all) ≡ k
  front_long = length-take-le k all (omega arith)

  module _ (vs : List ℕ) (kept : length vs ≡ length (take k all)) where
    pub back_long : length (vs ++ drop k all) ≡ m
    back_long = length_front all vs k kept ∙ long

    pub back-front : take k (vs ++ drop k all) ≡ vs
    back-front = take_at vs (drop k all) k (kept ∙ front_long)

    -- they were read
    pub back_read : (bytes : List ℕ) → vs ≡ numbers_at 8 (length (take k all)) 0 bytes → take k (vs ++ drop k all) ≡ numbers_at 8 k 0 bytes
    back_read bytes is = back-front ∙ is ∙ ap (λ (n : ℕ). numbers_at 8 n 0 bytes) front_long
