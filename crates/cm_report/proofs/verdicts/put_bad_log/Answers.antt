use Rattle.std.proofs.Common.{codes, decimal}
use Rattle.cm_report.proofs.ReportText.{joined_four, plain}
use Rattle.cm_report.proofs.verdicts.put_bad_log.Goals as goal
use Rattle.model_report.specs.Replay.{bad_log_text, fault_text}

pub returns : goal.returns
returns c =
    plain _ _ _ _ (bad_log_text c.args.number c.args.why) c.put-3.ensures
    (joined_four _ _ _ _ _ (codes "bad log line ") (decimal c.args.number) (codes ": ") (fault_text c.args.why) (codes "\n") c.in_ok-put.ensures
    c.in_ok-put_decimal.ensures c.in_ok-put-2.ensures c.in_ok-put_line_fault.ensures)
