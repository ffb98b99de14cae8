use Rattle.std.proofs.Common.{◌≡◌, ap, ◌∙◌}
use Rattle.cm_machine.proofs.Asking.{nothing_before, on_err, undone_before}
use Rattle.cm_machine.proofs.Changing.{same_there, some_at}
use Rattle.cm_machine.proofs.step.told_permitted.Goals as goal
use Rattle.cm_machine.specs.Asking.{without_groups}
use Rattle.model_cred.specs.Process.{Process, State}

pub returns-in_err-keep-clause-unchanged : goal.returns-in_err-keep-clause-unchanged
returns-in_err-keep-clause-unchanged c =
    let p = some_at c.args.state.now.processes c.args.at c.requires.here in
    on_err c.from_residual-in_err-keep.result
    (nothing_before _ _ c.args.at c.ask.new.state c.args.state.now c.keep.new.state _ (c.in_ok-res.ensures.asked p.0 p.1)
    c.in_err-keep.ensures.nothing c.in_err-keep.ensures.unchanged)

pub returns-else-is_same-clause-unchanged : goal.returns-else-is_same-clause-unchanged
returns-else-is_same-clause-unchanged c =
    let p = some_at c.args.state.now.processes c.args.at c.requires.here in
    let items : c.procs.inside.list.items ≡ c.args.state.now.processes = c.procs.view_is ∙ ap (λ (s : State). s.processes) c.state.view_is in
    let it : c.index-p.result.now ≡ p.0
    = same_there c.procs.inside.list.items c.args.at c.index-p.result.now p.0 (rw items c.requires.here) c.index-p.ensures (rw items p.1) in
    let old : c.without_groups-old.result ≡ without_groups p.0.cred
    = c.without_groups-old.ensures ∙ ap without_groups c.deref.ensures ∙ ap (λ (q : Process). without_groups q.cred) (c.p.view_is ∙ it) in
    undone_before _ _ _ c.args.at c.ask.new.state c.args.state.now c.undo.new.state _ (c.in_ok-res.ensures.asked p.0 p.1) old c.undo.ensures
