use Rattle.std.proofs.Common.{ℕ, List, ap, sym, ◌∙◌}
use Rattle.cm_confirm.proofs.Ascending.{ascends_there}
use Rattle.cm_confirm.proofs.Sames.{holder_same}
use Rattle.cm_confirm.proofs.members.Members.holder.Goals as goal
use Rattle.cm_state.specs.Right.{right_of}
use Rattle.model_confirm.specs.Confirm.{least_holder}
use Rattle.model_plans.specs.PlanRun.{holder}

pub returns : goal.returns
returns c =
    let pids = c.self.inside.pids.items in
    let right = right_of c.args.right.now in
    c.first_holder.ensures ∙ ap (λ (ps : List ℕ). holder c.args.state.now ps right) c.deref.ensures.value
    ∙ sym (holder_same c.args.state.now pids right (ascends_there pids c.self.invariant))
    ∙ ap (λ (ps : List ℕ). least_holder c.args.state.now ps right) c.self.view_is
