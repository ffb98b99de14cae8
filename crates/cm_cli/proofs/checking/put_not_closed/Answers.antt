use Rattle.std.proofs.Common.{◌++◌, ◌∙◌, List, ℕ, ap, refl}
use Rattle.cm_box.specs.Rules.{rule_of}
use Rattle.cm_cli.proofs.RowText.{not_closed_pieces}
use Rattle.cm_cli.proofs.checking.put_not_closed.Goals as goal
use Rattle.model_box.specs.Row.{row_at}

pub returns-clause-report : goal.returns-clause-report
returns-clause-report c = record {
  status = refl;
  text = not_closed_pieces c.args.names.now c.args.spaces.now (rule_of c.args.rule)
      (row_at c.args.row) c.args.text.now.items
      c.put.new.text.items c.put-2.new.text.items c.put-3.new.text.items c.put_row.new.text.items c.put-4.new.text.items
      c.in_ok-put.ensures
      (c.in_ok-put-2.ensures ∙ ap (λ (t : List ℕ). c.put.new.text.items ++ t)
      (c.as_bytes.ensures.value ∙ c.name.ensures))
      c.in_ok-put-3.ensures c.in_ok-put_row.ensures c.in_ok-put-4.ensures;
}
