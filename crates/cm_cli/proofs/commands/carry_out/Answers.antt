use Rattle.cm_cli.proofs.Carried.{none_carried}
use Rattle.cm_cli.proofs.Drills.{drill_answers}
use Rattle.cm_cli.proofs.Replaying.{usage_answers}
use Rattle.cm_cli.proofs.commands.carry_out.Goals as goal
use Rattle.cm_io.specs.Account.{account}
use Rattle.model_report.specs.Command.{Drill, NoForm}

-- words of no form
pub returns-in-NoForm : goal.returns-in-NoForm
returns-in-NoForm g c =
    let a = account g.H.Shelf c.args.shelf.now in
    let told = c.tell_short.ensures in
    rw c.in-NoForm.is (none_carried NoForm _ a _ _ _ _
    (usage_answers a.held _ _ _ _ _ told) told.never_read_fault told.counts tt)

pub returns-in-Drill : goal.returns-in-Drill
returns-in-Drill g c =
    let a = account g.H.Shelf c.args.shelf.now in
    let told = c.tell_drill.ensures in
    rw c.in-Drill.is (none_carried (Drill c.in-Drill.n) _ a _ _ _ _
    (drill_answers a.held c.in-Drill.n _ _ _ _ _ told.report told.not_usage) told.not_read_fault told.counts tt)

pub returns-in-Log : goal.returns-in-Log
returns-in-Log g c = rw c.in-Log.is c.run_log.ensures
