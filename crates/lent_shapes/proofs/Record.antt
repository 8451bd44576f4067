-- The record, the answer and the reply of the calls, as the walks take them: plain data, and a struct of the first two.
-- Assumes nothing.
use mathlib.Core.Path.{◌≡◌, refl, subst}
use mathlib.Core.List.{List, [], ◌∷◌}
use seplogic.Ra.Ura.{Ura}
use mir.Syntax.{Ty, ty_int, w64}
use mir.Val.{vint}
use types.Logic.{Logic}
use denote.Builtin.{u32, usize}
use denote.Param.{layout}
use denote.Param.Laws.{field_told, of_field}
use denote.Param.Shared.{copy_shared}
use denote.Struct.Field.{Field, unit-field, u32-field, usize-field}
use denote.Struct.Laws.{FLaws, Copyable, Plain, unit-laws, unit-copy, unit-plain}
use denote.Struct.Laws.{u32-laws, u32-copy, u32-plain, usize-laws, usize-copy, usize-plain}
use denote.Laws.{Typed}
use denote.Plain.{Nothing, uint_Tells, uint_Lawful, uint_Makes}
use denote.Struct.Laws as LL
use denote.Enum.Laws as EL
use denote.Enum.Enum.{Few, Plainss}
use denote.Enum.Declared.{Declared, shape, variants, row}
use Rattle.std.specs.contracts.result.Result as Result
use Rattle.std.proofs.result.Result.TheLaws as Result'
use Rattle.stream.specs.contracts.Answer as N
use Rattle.stream.proofs.Answer.TheLaws as N'
use Rattle.stream.specs.contracts.Reply as R
use Rattle.stream.proofs.Reply.TheLaws as R'
use Rattle.stream.specs.contracts.Stream as S
use Rattle.stream.proofs.Stream.TheLaws as S'
use Rattle.lent_shapes.proofs.Types.{Datum, Pair}

module _ {M : Type 1} {𝓤 : Ura M} (𝓛 : Logic 𝓤) where
  abbrev pub stream : Datum 𝓛 S.the_row
  stream = record {
    mir = S'.mir;
    one = refl;
    val = LL.val S.the_type S'.the_laws;
    tells = LL.tells S.the_type S'.the_laws;
    fits = λ x v is. ((LL.lawful S.the_type S'.the_laws 𝓛).typed x _ is).0;
    makes = LL.makes S.the_type S'.the_plain 𝓛;
  }

  abbrev enum : (D : Declared) (L : EL.Laws D) (τ : Ty) → (row D).mir ≡ τ ∷ [] → Few (shape D) → Plainss (variants D) → Datum 𝓛 (row D)
  enum D L τ one few plain = record {
    mir = τ;
    one = one;
    val = EL.val D L;
    tells = EL.tells D L;
    fits = λ x v is. (subst (λ (τs : List Ty). Typed τs (v ∷ [])) one ((EL.lawful D L 𝓛 few).typed x _ is)).0;
    makes = EL.makes D plain 𝓛;
  }

  -- a Result whose error is a u32
  abbrev result : (F : Field) → FLaws F → Copyable F → Plain F → F.row.mir ≡ layout F.row ∷ [] → Datum 𝓛 (Result.the_row F.row u32)
  result F L copy plain one =
      let value = of_field F L one (copy_shared F copy) in let error = of_field u32-field u32-laws refl (copy_shared u32-field u32-copy) in
      let laws = Result'.the_laws F.row u32 value error (field_told F L) (field_told u32-field u32-laws) in
      enum (Result.the_type F.row u32) laws _ refl tt (Result'.the_plain F.row u32 plain u32-plain)

  abbrev pub answer : Datum 𝓛 N.the_row
  answer = enum N.the_type N'.the_laws N'.mir refl tt N'.the_plain

  abbrev pub reply : Pair 𝓛 stream answer R.the_row
  reply = record {
    tag = (R.struct).name;
    stream = λ r. r.stream;
    answer = λ r. r.answer;
    tells = LL.tells R.the_type R'.the_laws;
    fits = λ r v is. ((LL.lawful R.the_type R'.the_laws 𝓛).typed r _ is).0;
    parts = λ r v is. let both = LL.owed R.the_type R'.the_laws r _ is in (both.0, both.1.0);
    make = λ x a. record { stream = x; answer = a };
    made = λ x a is_x is-a. LL.owes R.the_type R'.the_laws (record { stream = x; answer = a }) (is_x, (is-a, tt));
    made-stream = λ x a. refl;
    made-answer = λ x a. refl;
    makes = LL.makes R.the_type R'.the_plain 𝓛;
  }

  -- ---- what a call takes by value beside the record
  abbrev pub number : Datum 𝓛 usize
  number = record {
    mir = ty_int w64;
    one = refl;
    val = vint w64;
    tells = uint_Tells w64;
    fits = λ x v is. ((uint_Lawful 𝓛 w64).typed x _ is).0;
    makes = uint_Makes 𝓛 w64;
  }

  abbrev pub submission : Datum 𝓛 (Result.the_row Nothing u32)
  submission = result unit-field unit-laws unit-copy unit-plain refl

  abbrev pub reaping : Datum 𝓛 (Result.the_row usize u32)
  reaping = result usize-field usize-laws usize-copy usize-plain refl
