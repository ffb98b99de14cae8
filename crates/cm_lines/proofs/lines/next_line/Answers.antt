use Rattle.std.proofs.Common.{arith, ap, ◌∙◌, drop, take}
use Rattle.cm_lines.proofs.FirstLine.{first_line_whole, first_line_cut}
use Rattle.cm_lines.proofs.lines.next_line.Goals as goal

pub returns-in-empty-clause-line : goal.returns-in-empty-clause-line
returns-in-empty-clause-line c =
    let n = c.line_len.ensures.len in
    first_line_whole c.args.text.now c.split_at.result.0.now c.split_at.result.1.now (grind (arith, c.is_empty.ensures, c.if-is_empty.false))
    (c.split_at.ensures.front ∙ ap (λ k. take k c.args.text.now) n) (c.split_at.ensures.back ∙ ap (λ k. drop k c.args.text.now) n) (omega arith)

pub returns-in-len1-up-clause-line : goal.returns-in-len1-up-clause-line
returns-in-len1-up-clause-line c =
    let n = c.line_len.ensures.len in
    first_line_cut c.args.text.now c.split_at.result.0.now c.split_at.result.1.now
    (c.split_at.ensures.front ∙ ap (λ k. take k c.args.text.now) n) (c.split_at.ensures.back ∙ ap (λ k. drop k c.args.text.now) n) (omega arith)
