use Rattle.std.proofs.Common.{codes}
use Rattle.std.proofs.lemmas.Result.{IfOk-equal}
use Rattle.cm_report.proofs.ReportText.{joined_once}
use Rattle.cm_report.proofs.verdicts.put_given.Goals as goal
use Rattle.model_text.specs.Print.{res_text}

pub returns : goal.returns
returns c = IfOk-equal _ _ _ _ c.put_res.ensures (joined_once _ _ (codes "the rules give ") (res_text c.args.given.now) c.in_ok-put.ensures)
