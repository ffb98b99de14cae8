use Rattle.std.proofs.Common.{◌≡◌, ◌<◌, length, slice_get, ◌∙◌, subst}
use Rattle.cm_machine.proofs.Families.{family_there, if_ok_then}
use Rattle.cm_machine.proofs.family.family_of.Goals as goal
use Rattle.model_cred.specs.Process.{State, process_at}

pub returns-in-Some : goal.returns-in-Some
returns-in-Some c =
    let found : State → Type 0
    = λ s. (c.in-Some.at < length s.processes) × (slice_get s.processes c.in-Some.at ≡ process_at s.processes c.args.root) in
    let there : found c.args.state.now = subst found c.state.view_is c.in-Some.ensures.found in
    if_ok_then c.members.result (λ pids is. is ∙ family_there c.args.state.now c.in-Some.at c.args.root there.0 there.1)
    c.members.ensures
