use Rattle.std.proofs.Common.{Err, refl}
use Rattle.std.proofs.lemmas.Result.{err_from_is_err_and}
use Rattle.cm_cli.proofs.Asked.{question_is, refuses_as}
use Rattle.cm_cli.proofs.asking.read_question.Goals as goal
use Rattle.cm_cli.specs.Query.{query_view}
use Rattle.cm_declared.specs.World.{world_of}

-- the query stands
pub returns-clause-asked : goal.returns-clause-asked
returns-clause-asked c =
    let asked = c.in_ok-ask.ensures in
    question_is (query_view c.args.query) (world_of c.args.w.now) c.args.m.now.state _ _ c.in_ok-root.ensures.asked
    c.in_ok-ask.field-0 asked.right asked.members asked.ascends asked.stands asked.fits

-- or it is refused as it was asked
pub returns-in_err-ask-clause-refused : goal.returns-in_err-ask-clause-refused
returns-in_err-ask-clause-refused c =
    let asked = c.in_err-ask.ensures in
    let p = err_from_is_err_and c.from_residual-in_err-ask.result c.from_residual-in_err-ask.ensures.1 in
    rw (p.1, p.2) (
    refuses_as (query_view c.args.query) (world_of c.args.w.now) c.args.m.now.state _ _ c.in_ok-root.ensures.asked
    (Err c.in_err-ask.field-0.0) c.in_err-ask.field-0.0 refl asked.no_process.0 asked.no_space.0 asked.too_large)
