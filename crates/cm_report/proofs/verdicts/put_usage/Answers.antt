use Rattle.cm_report.proofs.verdicts.put_usage.Goals as goal

pub returns : goal.returns
returns c = c.put.ensures
