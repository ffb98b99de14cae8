use Rattle.std.proofs.Common.{◌&&◌, ◌||◌, Bool, sym, ap, ◌∙◌}
use Rattle.cm_base.specs.CapSet.{holds}
use Rattle.cm_plans.proofs.Powers.{power_by_way}
use Rattle.cm_plans.proofs.lasts.holds_in.Goals as goal
use Rattle.cm_plans.specs.Ways.{way_of}
use Rattle.cm_plans.specs.declared.ways.Way.{Way}
use Rattle.cm_state.specs.Right.{right_of}
use Rattle.cm_state.specs.declared.right.Right.{Right}
use Rattle.model_cred.specs.IdMap.{is_the}
use Rattle.model_run.specs.Holds.{holds_right}

pub returns-in-Cap : goal.returns-in-Cap
returns-in-Cap c =
    let spaces = c.args.q.now.spaces.now in
    let cred = c.args.c.now in
    let by : Way → Bool = λ way. (way.above && holds cred.effective c.in-Cap.cap) || is_the way.sought cred.uid.effective in
    c.has_power.ensures ∙ ap by c.way.ensures
    ∙ ap (λ (right : Right). by (way_of spaces (right_of right) c.args.at.0)) c.in-Cap.is
    ∙ sym (power_by_way spaces c.requires.ready.tree c.args.at.0 cred c.in-Cap.cap c.in-Cap.field-1.0)
    ∙ ap (λ (right : Right). holds_right spaces c.args.at.0 cred (right_of right)) (sym c.in-Cap.is)
