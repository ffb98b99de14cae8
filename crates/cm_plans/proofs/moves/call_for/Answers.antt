use Rattle.std.proofs.Common.{subst, sym}
use Rattle.std.proofs.lemmas.Option.{IfSome_then}
use Rattle.cm_plans.proofs.moves.call_for.Goals as goal
use Rattle.cm_plans.specs.Moves.{IsMoveOfWalk, IsOfWalk}
use Rattle.cm_plans.specs.declared.moves.Move.{Move}
use Rattle.cm_state.specs.Call.{call_of}
use Rattle.cm_state.specs.declared.call.Call.{Call}

pub returns-in-JoinSpace-clause-walks : goal.returns-in-JoinSpace-clause-walks
returns-in-JoinSpace-clause-walks c =
    let below = subst (λ (m : Move). IsMoveOfWalk c.args.q.now.spaces.now m) c.in-JoinSpace.is c.requires.single in
    IfSome_then c.if_permitted-in-JoinSpace.result c.if_permitted-in-JoinSpace.ensures.same
    (λ call same. subst (λ (call : Call). IsOfWalk c.args.q.now.spaces.now (call_of call)) (sym same) below)
