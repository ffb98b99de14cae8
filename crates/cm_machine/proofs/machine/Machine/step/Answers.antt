use Rattle.std.proofs.Common.{◌≡◌, ◌<◌, false, length, slice_get, sym, ◌∙◌, ap}
use Rattle.cm_machine.proofs.Errors.{error_keeps}
use Rattle.cm_machine.proofs.machine.Machine.step.Goals as goal
use Rattle.cm_declared.specs.World.{world_of}
use Rattle.model_cred.specs.Call.{Event}
use Rattle.model_cred.specs.Process.{State, process_at}
use Rattle.model_run.specs.Step.{names_no_space}

pub returns-in_default-res-clause-told_error : goal.returns-in_default-res-clause-told_error
returns-in_default-res-clause-told_error c = λ error is.
    let s : State = c.args.self.now.state in
    let e : Event = c.args.e.now in
    let here : c.in-Some.at < length s.processes = rw (sym c.self.view_is) c.in-Some.ensures.found.0 in
    let found : slice_get s.processes c.in-Some.at ≡ process_at s.processes e.pid = rw (sym c.self.view_is, sym c.e.view_is) c.in-Some.ensures.found.1 in
    let stands : names_no_space s.spaces e.call ≡ false
    = rw (sym c.self.view_is, sym c.e.view_is) (sym c.names_no_space.ensures ∙ c.if-names_no_space.false) in
    ap (λ (t : State). record { state = t })
    (error_keeps (world_of c.args.w.now) s e error c.in-Some.at c.told_call.result c.told_call.new.state here found stands c.told_call.ensures.becomes
    c.told_call.ensures.unchanged is)
