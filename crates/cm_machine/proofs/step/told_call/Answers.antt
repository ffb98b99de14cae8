use Rattle.std.proofs.Common.{◌≡◌, true, false, sym, ap, subst, ◌∙◌}
use Rattle.cm_base.specs.declared.res.Res.{Res}
use Rattle.cm_declared.specs.World.{world_of}
use Rattle.cm_machine.proofs.Filtering.{told_where_excluded, told_where_permitted}
use Rattle.cm_machine.proofs.step.told_call.Goals as goal
use Rattle.cm_machine.specs.Asking.{is_excluded, told_excluded}
use Rattle.cm_machine.specs.Outcomes.{Becomes}
use Rattle.cm_state.specs.Call.{call_of}
use Rattle.model_cred.specs.Call.{Call, Event}
use Rattle.model_cred.specs.Process.{State}
use Rattle.model_run.specs.Step.{Outcome}

pub returns-then-is_excluded-clause-becomes : goal.returns-then-is_excluded-clause-becomes
returns-then-is_excluded-clause-becomes c = λ p there.
    let s : State = c.args.state.now in
    let procs : c.state.inside.procs ≡ s.processes = ap (λ (t : State). t.processes) c.state.view_is in
    let call : call_of c.e.inside.call ≡ c.args.e.now.call = ap (λ (e : Event). e.call) c.e.view_is in
    let res : c.e.inside.res ≡ c.args.e.now.res = ap (λ (e : Event). e.res) c.e.view_is in
    let is : is_excluded p c.args.e.now.call ≡ true
    = ap (λ (k : Call). is_excluded p k) (sym call) ∙ sym (c.is_excluded.ensures p (rw procs there)) ∙ c.if-is_excluded.true in
    subst (λ (o : Outcome). Becomes c.told_excluded.result s o)
    (ap (λ (r : Res). told_excluded s r) res ∙ sym (told_where_excluded (world_of c.args.w.now) s p c.args.e.now.call c.args.e.now.res is))
    (c.told_excluded.ensures.becomes s)

pub returns-clause-becomes : goal.returns-clause-becomes
returns-clause-becomes c = λ p there.
    let s : State = c.args.state.now in
    let procs : c.state.inside.procs ≡ s.processes = ap (λ (t : State). t.processes) c.state.view_is in
    let call : call_of c.e.inside.call ≡ c.args.e.now.call = ap (λ (e : Event). e.call) c.e.view_is in
    let is : is_excluded p c.args.e.now.call ≡ false
    = ap (λ (k : Call). is_excluded p k) (sym call) ∙ sym (c.is_excluded.ensures p (rw procs there)) ∙ c.if-is_excluded.false in
    subst (λ (o : Outcome). Becomes c.told_permitted.result c.told_permitted.new.state o)
    (sym (told_where_permitted (world_of c.args.w.now) s p c.args.e.now.call c.args.e.now.res is)) (c.told_permitted.ensures.becomes p there)
