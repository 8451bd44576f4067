-- Kind, number and values tell all answers apart: a table by the kind gives each answer back. Assumes nothing.
use Prim.Native.Nat.{ℕ}
use mathlib.Core.Path.{◌≡◌, refl, sym, ap, ◌∙◌}
use mathlib.Core.Bool.{Bool, true, false}
use mathlib.Core.List.{List, [], ◌∷◌}
use lib.Dec.{eqb}
use lib.IntN.{ℤ, pos, negsuc}
use lib.ListN.{get_or}
use Rattle.error.specs.declared.Error.{Error}
use Rattle.error.proofs.Numbers.{refusal_from, refusal-back}
use Rattle.ring.specs.Slots.{one}
use Rattle.stream.specs.declared.Answer.{Answer}
use Rattle.stream.specs.declared.Completion.{Completion}
use Rattle.stream.specs.Numbers.{Numbers, figures_of, numbers_of}

-- the value at a place, as a number
value_at : List ℤ → ℕ → ℕ
value_at values k = size (get_or values k (pos 0))
  where
    size : ℤ → ℕ
    size (pos n) = n
    size (negsuc n) = 0

completion_from : List ℤ → Completion
completion_from values =
    record {
      status = get_or values 0 (pos 0);
      actual_bytes = value_at values 1;
      requested_bytes = value_at values 2;
      short_bytes = value_at values 3;
      packet_errors = value_at values 4;
      was_discarded = eqb (value_at values 5) 1;
    }

-- Done with a value is stop's
done_from : List ℤ → Answer
done_from [] = Answer.Done
done_from (v ∷ values) = Answer.Stopped (value_at (v ∷ values) 0)

answer_from : Numbers → Answer
answer_from n =
    get_or
    (Answer.Refused (refusal_from n.number (value_at n.values 0))
    ∷ done_from n.values
    ∷ Answer.Nothing
    ∷ Answer.Slot (value_at n.values 0)
    ∷ Answer.Submit (value_at n.values 0)
    ∷ Answer.Completed (completion_from n.values)
    ∷ Answer.Foreign
    ∷ Answer.Yes
    ∷ [])
    n.kind Answer.Yes

pub one-back : (b : Bool) → eqb (one b) 1 ≡ b
unfolding one
one-back true = refl
one-back false = refl

completion-back : (c : Completion) → completion_from (figures_of c) ≡ c
unfolding completion_from figures_of value_at
completion-back c =
    λ i.
    record {
      status = c.status;
      actual_bytes = c.actual_bytes;
      requested_bytes = c.requested_bytes;
      short_bytes = c.short_bytes;
      packet_errors = c.packet_errors;
      was_discarded = one-back c.was_discarded i;
    }

answer_back : (a : Answer) → answer_from (numbers_of a) ≡ a
unfolding answer_from numbers_of done_from value_at
answer_back (Answer.Refused e) = ap (λ (x : Error). Answer.Refused x) (refusal-back e)
answer_back Answer.Done = refl
answer_back (Answer.Stopped count) = refl
answer_back Answer.Nothing = refl
answer_back (Answer.Slot i) = refl
answer_back (Answer.Submit i) = refl
answer_back (Answer.Completed c) = ap (λ (x : Completion). Answer.Completed x) (completion-back c)
answer_back Answer.Foreign = refl
answer_back Answer.Yes = refl

pub answers-apart : (a b : Answer) → numbers_of a ≡ numbers_of b → a ≡ b
answers-apart a b e = sym (answer_back a) ∙ ap answer_from e ∙ answer_back b
