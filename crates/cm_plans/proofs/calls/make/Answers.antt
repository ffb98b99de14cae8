use Rattle.std.proofs.Common.{◌∙◌, ap}
use Rattle.cm_plans.proofs.GroupsStay.{groups_stay}
use Rattle.cm_plans.proofs.calls.make.Goals as goal
use Rattle.cm_plans.specs.Moves.{setting}
use Rattle.cm_state.specs.Call.{call_of}
use Rattle.model_plans.specs.Move.{Seat}

pub returns-in-Err-clause-groups : goal.returns-in-Err-clause-groups
returns-in-Err-clause-groups c =
    ap (λ (seat : Seat). seat.cred.groups) c.answer.ensures.seat
    ∙ groups_stay (setting c.args.q.now) c.args.seat.now (call_of c.in-Some.call) c.in-Some.ensures.walks

pub returns-in-Some-clause-groups : goal.returns-in-Some-clause-groups
returns-in-Some-clause-groups c =
    ap (λ (seat : Seat). seat.cred.groups) c.answer.ensures.seat
    ∙ groups_stay (setting c.args.q.now) c.args.seat.now (call_of c.in-Some.call) c.in-Some.ensures.walks
