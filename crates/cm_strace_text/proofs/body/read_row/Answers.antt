use Rattle.std.proofs.Common.{◌∙◌, ap, arith, rules, sym}
use Rattle.std.proofs.lemmas.Grind.{common_steps}
use Rattle.cm_strace_text.proofs.Rows.{begun_row, blank_row}
use Rattle.cm_strace_text.proofs.body.read_row.Goals as goal
use Rattle.model_strace.specs.Body.{row_cut}

pub returns-then-is_empty : goal.returns-then-is_empty
returns-then-is_empty c =
    blank_row c.without_end-text.result.now (sym c.is_empty.ensures ∙ c.if-is_empty.true)
    ∙ ap row_cut c.without_end-text.ensures

pub returns-in-Some : goal.returns-in-Some
returns-in-Some c =
    first_of (search rules, grind (arith, common_steps))
    ∙ sym (begun_row c.without_end-text.result.now (sym c.is_empty.ensures ∙ c.if-is_empty.false))
    ∙ ap row_cut c.without_end-text.ensures

pub returns-in-None : goal.returns-in-None
returns-in-None c =
    c.worded_row.ensures
    ∙ sym (begun_row c.without_end-text.result.now (sym c.is_empty.ensures ∙ c.if-is_empty.false))
    ∙ ap row_cut c.without_end-text.ensures
