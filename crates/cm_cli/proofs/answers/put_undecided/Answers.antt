use Rattle.cm_cli.proofs.RowText.{undecided_pieces}
use Rattle.cm_cli.proofs.answers.put_undecided.Goals as goal
use Rattle.cm_maker.specs.Sweeping.{blame_told}
use Rattle.cm_report.proofs.ReportText.{plain}
use Rattle.model_report.specs.Answer.{undecided_text}

pub returns : goal.returns
returns c =
    plain _ _ _ _ (undecided_text c.args.names.now c.args.spaces.now
    (blame_told c.args.rule c.args.row)) c.put-3.ensures
    (undecided_pieces c.args.names.now c.args.spaces.now c.args.rule c.args.row _ _ _ _ _ c.in_ok-put.ensures
    c.in_ok-put_rule.ensures
    c.in_ok-put-2.ensures c.in_ok-put_row.ensures)
