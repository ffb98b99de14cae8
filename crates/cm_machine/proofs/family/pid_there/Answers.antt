use Rattle.std.proofs.Common.{◌≡◌, List, sym, ◌∙◌, ap}
use Rattle.cm_machine.proofs.family.pid_there.Goals as goal
use Rattle.cm_state.proofs.Places.{pid_of_at}
use Rattle.cm_state.specs.Places.{pid_at}
use Rattle.model_cred.specs.Process.{Process, State}

pub returns : goal.returns
returns c =
    let items : c.procs.inside.list.items ≡ c.args.state.now.processes = c.procs.view_is ∙ ap (λ (s : State). s.processes) c.state.view_is in
    ap (λ (p : Process). p.pid) c.p.view_is ∙ sym (pid_of_at c.procs.inside.list.items c.args.at c.index-p.result.now (rw items c.requires) c.index-p.ensures)
    ∙ ap (λ (ps : List Process). pid_at ps c.args.at) items
