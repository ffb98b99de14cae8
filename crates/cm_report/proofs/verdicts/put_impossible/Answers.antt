use Rattle.std.proofs.Common.{codes, decimal}
use Rattle.cm_report.proofs.ReportText.{joined_four, plain}
use Rattle.cm_report.proofs.verdicts.put_impossible.Goals as goal
use Rattle.cm_report.specs.Reason.{reason_of}
use Rattle.model_report.specs.Replay.{impossible_text}

pub returns-clause-line : goal.returns-clause-line
returns-clause-line c =
    let why = reason_of c.args.why.now in
    plain _ _ _ _ (impossible_text c.args.number why) c.put-3.ensures
    (joined_four _ _ _ _ _ (codes "impossible line ") (decimal c.args.number) (codes ": ") why (codes "\n") c.in_ok-put.ensures c.in_ok-put_decimal.ensures
    c.in_ok-put-2.ensures c.in_ok-put_reason.ensures.reason)
