-- The array's texts are the table's, and so the one that is put is the number's.
use Rattle.std.proofs.Common.{◌≡◌, ℕ, List, length, ap, ◌∙◌}
use Rattle.refusal_text.specs.CString.{codes, c_string}
use Rattle.refusal_text.specs.Refusals.{refusals, text_of}
use Rattle.refusal_text.proofs.Rows.{texts_of, text-at}
use Rattle.refusal_text.proofs.put_text.Goals as goal

pub returns : goal.returns
unfolding codes refusals texts_of
returns c =
    let e : c.row.result.1.now ≡ codes (text_of c.args.number) = c.row.ensures.text ∙ text-at c.args.number in
    record {
      value = c.put.ensures.value ∙ ap length e;
      out_after = c.put.ensures.out_after ∙ ap (λ (t : List ℕ). c_string t c.args.out.now) e;
    }
