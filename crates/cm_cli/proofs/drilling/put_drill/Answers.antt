use Rattle.std.proofs.Common.{◌++◌, List, ℕ, ap}
use Rattle.std.proofs.lemmas.Result.{IfOk-equal}
use Rattle.cm_audit.specs.Told.{told}
use Rattle.cm_cli.proofs.DrillText.{same_lines}
use Rattle.cm_cli.proofs.drilling.put_drill.Goals as goal
use Rattle.model_drill.specs.Drill.{drill_members, drill_right, drilled}
use Rattle.model_drill.specs.DrillWorld.{drill_world}
use Rattle.model_report_laws.proofs.Judging.{told_once}

pub returns : goal.returns
returns c = λ j gives.
    let d = c.in_ok-d.d in
    let n = c.args.n in
    let told_is = told_once drill_world (drilled n).state (drill_members n) drill_right
    (told d.verdict) j.verdict c.in_ok-d.ensures.verdict gives in
    IfOk-equal _ _ _ _ c.put_drilled.ensures
    (ap (λ (t : List ℕ). c.args.text.now.items ++ t)
    (same_lines (drilled n) d j.verdict c.in_ok-d.ensures.events c.in_ok-d.ensures.refused c.in_ok-d.ensures.live
    c.in_ok-d.ensures.spaces told_is))
