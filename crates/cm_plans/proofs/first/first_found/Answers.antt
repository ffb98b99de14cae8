use Rattle.std.proofs.Common.{List, Option, Some, sym, ap, ◌∙◌}
use Rattle.std.proofs.lemmas.Result.{IfOk-weaker}
use Rattle.cm_filter.specs.Filters.{permits}
use Rattle.cm_plans.proofs.Members.{found_about, found_now, found_later}
use Rattle.cm_plans.proofs.first.first_found.Goals as goal
use Rattle.cm_state.specs.Right.{right_of}
use Rattle.cm_declared.specs.World.{world_of}
use Rattle.model_cred.specs.Call.{Event}
use Rattle.model_plans.specs.PlanRun.{Found}

pub returns-in-Some : goal.returns-in-Some
returns-in-Some c =
    let Of : List Event → Option Found = λ es. Some (record { run = es; holder = c.in-Some.pid }) in
    ap Of c.new.ensures.items
    ∙ sym (found_now (permits c.args.w.now.filter) (world_of c.args.w.now) c.args.m.now.state (right_of c.args.right.now)
    c.args.members.now c.in-Some.pid (sym c.in-Some.ensures))

pub returns-in_ok-q-in-None : goal.returns-in_ok-q-in-None
returns-in_ok-q-in-None c =
    IfOk-weaker c.found_among.result _ _ (λ found is.
    found_about c.in_ok-q-in-None.q c.args.w.now c.args.m.now.state c.args.m.now.state c.args.right.now c.args.members.now
    found c.in_ok-q-in-None.ensures.about is
    ∙ sym (found_later (permits c.args.w.now.filter) (world_of c.args.w.now) c.args.m.now.state (right_of c.args.right.now)
    c.args.members.now (sym c.in-None.ensures))) c.found_among.ensures
