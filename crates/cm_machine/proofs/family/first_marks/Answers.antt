use Rattle.std.proofs.Common.{◌≡◌, List, ◌∙◌, ap, map, Option, None, Bool, subst}
use Rattle.cm_machine.proofs.Families.{marks_first}
use Rattle.cm_machine.proofs.family.first_marks.Goals as goal
use Rattle.model_cred.specs.Process.{Process, State, Ascends}

pub returns : goal.returns
returns c =
    let procs : c.state.inside.procs ≡ c.args.state.now.processes = ap (λ (s : State). s.processes) c.state.view_is in
    marks_first c.args.state.now c.args.root c.in_ok-marks.marks.items (subst Ascends procs c.state.invariant.0) c.requires
    (c.in_ok-marks.ensures ∙ ap (λ (ps : List Process). map {A = Process} {B = Option Bool} (λ _. None) ps) (c.items.ensures ∙ procs))
