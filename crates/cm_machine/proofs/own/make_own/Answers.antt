use Rattle.std.proofs.Common.{◌≡◌, true, false, sym, ap, ◌∙◌}
use Rattle.std.proofs.lemmas.Result.{IfOk-weaker}
use Rattle.cm_declared.specs.World.{world_of}
use Rattle.cm_machine.proofs.Filtering.{own_where_excluded, own_where_permitted}
use Rattle.cm_machine.proofs.own.make_own.Goals as goal
use Rattle.cm_machine.specs.Asking.{is_excluded}
use Rattle.cm_state.specs.Call.{call_of}
use Rattle.model_cred.specs.Process.{State}

pub returns-then-is_excluded-clause-own : goal.returns-then-is_excluded-clause-own
returns-then-is_excluded-clause-own c = λ p there.
    let s : State = c.args.state.now in
    let procs : c.state.inside.procs ≡ s.processes = ap (λ (t : State). t.processes) c.state.view_is in
    let is : is_excluded p (call_of c.args.call.now) ≡ true = sym (c.is_excluded.ensures p (rw procs there)) ∙ c.if-is_excluded.true in
    sym (own_where_excluded (world_of c.args.w.now) s p (call_of c.args.call.now) is)

pub returns-clause-own : goal.returns-clause-own
returns-clause-own c =
    let s : State = c.args.state.now in
    let procs : c.state.inside.procs ≡ s.processes = ap (λ (t : State). t.processes) c.state.view_is in
    IfOk-weaker c.make_permitted.result _ _ (λ res made p there.
    let is : is_excluded p (call_of c.args.call.now) ≡ false = sym (c.is_excluded.ensures p (rw procs there)) ∙ c.if-is_excluded.false in
    made p there ∙ sym (own_where_permitted (world_of c.args.w.now) s p (call_of c.args.call.now) is)) c.make_permitted.ensures.own
