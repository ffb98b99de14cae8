use Rattle.std.proofs.Common.{ap}
use Rattle.cm_audit.specs.Told.{told}
use Rattle.cm_cli.proofs.Asked.{question_judged, refused_put, refused_so}
use Rattle.cm_cli.proofs.Auditing.{put_as}
use Rattle.cm_cli.proofs.answer.put_verdict.Goals as goal
use Rattle.cm_cli.specs.Asking.{refusal_report}
use Rattle.cm_cli.specs.Query.{query_view}
use Rattle.cm_declared.specs.World.{world_of}
use Rattle.cm_machine.specs.declared.machine.Machine.{Machine}
use Rattle.model_report.specs.Task.{ToJudge}

-- the query is refused
pub returns-in-Err-clause-report : goal.returns-in-Err-clause-report
returns-in-Err-clause-report c = λ j gives.
    let q = query_view c.args.query in
    refused_put c.put_refusal.result (refusal_report c.in-Err.why) _ c.args.text.now.items c.put_refusal.new.text.items
    c.put_refusal.ensures.report
    (refused_so (refusal_report c.in-Err.why) _ c.in-Err.ensures.refused _ (λ r is. is (ToJudge q) j))

-- its right names a space that stands
pub judge-requires-clause-named : goal.judge-requires-clause-named
judge-requires-clause-named c = c.in-Ok.ensures.asked.asks.standing

-- the verdict
pub returns-clause-report : goal.returns-clause-report
returns-clause-report c = λ j gives.
    let q = query_view c.args.query in
    let w = world_of c.args.w.now in
    let s = c.args.m.now.state in
    let spaces = ap (λ (m : Machine). m.state.spaces) c.m.view_is in
    put_as c.put_told.result c.args.text.now.items c.put_told.new.text.items _ _
    (question_judged q w s c.in-Ok.question c.in-Ok.ensures.asked j (told c.in_ok-verdict.verdict)
    c.in_ok-verdict.ensures gives)
    (rw spaces at c.put_told.ensures.report)
