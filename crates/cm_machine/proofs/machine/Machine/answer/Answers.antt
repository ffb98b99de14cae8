use Rattle.std.proofs.Common.{◌≡◌, Some, slice_get, sym, ◌∙◌, ap}
use Rattle.cm_base.specs.declared.res.Res.TheVariants.{Err}
use Rattle.cm_machine.proofs.Changing.{some_at}
use Rattle.cm_machine.proofs.machine.Machine.answer.Goals as goal
use Rattle.cm_state.specs.Call.{call_of}
use Rattle.cm_declared.specs.World.{world_of}
use Rattle.model_cred.specs.Process.{State, process_at}
use Rattle.model_laws.proofs.Refusals.{safe_ruling}
use Rattle.model_run.specs.Ruling.{Ruling, free_pid}

pub returns-clause-refused : goal.returns-clause-refused
returns-clause-refused c = λ error is.
    let s : State = c.args.self.now.state in
    let p = some_at _ c.in-Some.at c.in-Some.ensures.found.0 in
    let there : slice_get s.processes c.in-Some.at ≡ Some p.0 = rw (sym c.self.view_is) p.1 in
    let lives : process_at s.processes c.args.pid ≡ Some p.0 = rw (sym c.self.view_is) (sym c.in-Some.ensures.found.1 ∙ p.1) in
    let made = c.in_ok-make_own.ensures.own p.0 there in
    let told : c.in_ok-make_own.field-0 ≡ Err error = cc in
    ap (λ (t : State). record { state = t })
    (ap (λ (r : Ruling). r.state) made
    ∙ (safe_ruling (world_of c.args.w.now) s c.args.pid p.0 lives (call_of c.args.call.now) (free_pid s)).keeps error
    (sym (ap (λ (r : Ruling). r.res) made) ∙ told))
