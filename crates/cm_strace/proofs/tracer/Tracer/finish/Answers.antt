use Rattle.std.proofs.Common.{sym, ◌∙◌, ap}
use Rattle.cm_declared.specs.World.{world_of}
use Rattle.cm_strace.proofs.Sessions.{at_stage, session_ended_at}
use Rattle.cm_strace.specs.Stages.{session_is}
use Rattle.cm_strace.proofs.tracer.Tracer.finish.Goals as goal
use Rattle.model_strace.specs.Rest.{after_finish, work_end}
use Rattle.model_text.specs.Reading.{Reading}

pub returns-in_ok-stage-in-Going-clause-after : goal.returns-in_ok-stage-in-Going-clause-after
returns-in_ok-stage-in-Going-clause-after c =
    let w = world_of c.args.w.now in
    let t = c.self.inside.work in
    session_ended_at c.in_ok-stage-in-Going.stage t (work_end w t).ending c.in_ok-stage-in-Going.ensures.over
    (ap (λ (r : Reading). r.ending) c.in_ok-stage-in-Going.ensures.read)
    ∙ sym (ap (λ s. after_finish w s) (sym c.self.view_is ∙ ap (λ s. session_is s t) c.in-Going.is))

pub returns-in_ok-stage-in-Going-clause-at : goal.returns-in_ok-stage-in-Going-clause-at
returns-in_ok-stage-in-Going-clause-at c = at_stage c.in_ok-stage-in-Going.stage c.self.inside.work
