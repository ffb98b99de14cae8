use Rattle.std.proofs.Common.{◌≡◌, List, slice_set, ◌∙◌, ap, subst}
use Rattle.cm_base.specs.Outcome.{OrNoMemory}
use Rattle.cm_machine.proofs.Asking.{asked_is, asked_can, asked_takes}
use Rattle.cm_machine.proofs.Changing.{put_keeps, stands_at}
use Rattle.cm_machine.proofs.ruling.ask.Goals as goal
use Rattle.cm_base.specs.declared.res.Res.{Res}
use Rattle.cm_machine.specs.Asking.{AsksRules, pid_number}
use Rattle.cm_state.specs.Call.{call_of}
use Rattle.cm_declared.specs.World.{world_of}
use Rattle.model_cred.specs.Process.{Process, State}
use Rattle.model_run.specs.Ruling.{Ruling, permitted_ruling}

pub invariant_of-state : goal.invariant_of-state
invariant_of-state c =
    let items : c.procs.inside.list.items ≡ c.args.state.now.processes = c.procs.view_is ∙ ap (λ (s : State). s.processes) c.state.view_is in
    let place : c.ask_caller.new.p.space ≡ c.index_mut-p.result.now.space = ap (λ (p : Process). p.space) c.ask_caller.ensures.rest in
    put_keeps c.procs.inside.list.items c.args.at _ c.index_mut-p.result.now c.ask_caller.new.p (rw c.procs.view_is c.state.invariant.0)
    (rw c.procs.view_is c.state.invariant.1) (rw items c.requires.here) c.index_mut-p.ensures.value
    (ap (λ (p : Process). p.pid) c.ask_caller.ensures.rest)
    (rw place (stands_at c.procs.inside.list.items c.args.at _ c.index_mut-p.result.now (rw c.procs.view_is c.state.invariant.1)
    (rw items c.requires.here) c.index_mut-p.ensures.value))

pub returns-clause-asked : goal.returns-clause-asked
returns-clause-asked c =
    let items : c.procs.inside.list.items ≡ c.args.state.now.processes = c.procs.view_is ∙ ap (λ (s : State). s.processes) c.state.view_is in
    let before : State = record { processes = c.procs.inside.list.items; spaces = c.state.inside.spaces } in
    let after : State = record before { processes = slice_set c.procs.inside.list.items c.args.at c.ask_caller.new.p } in
    let same : before ≡ c.args.state.now
    = ap (λ (ps : List Process). record { processes = ps; spaces = c.state.inside.spaces }) c.procs.view_is ∙ c.state.view_is in
    let w = world_of c.args.w.now in
    let rules : State → Process → Ruling = λ s p. permitted_ruling w s p (call_of c.args.call.now) (pid_number c.args.child) in
    subst (λ (s : State). OrNoMemory c.ask_caller.result
    (λ (res : Res). AsksRules (record { res = res; change = c.ask_caller.new.changed }) c.args.at after s (rules s))) same
    (asked_is w before c.args.call.now c.args.child c.args.at c.index_mut-p.result.now c.ask_caller.new.p
    (rw c.procs.view_is c.state.invariant.0) (rw items c.requires.here) c.index_mut-p.ensures.value c.ask_caller.ensures.rest
    c.ask_caller.result c.ask_caller.new.changed (c.ask_caller.ensures.res c.procs.inside.list.items) c.ask_caller.ensures.change
    c.ask_caller.ensures.cred)

pub returns-clause-can : goal.returns-clause-can
returns-clause-can c =
    let items : c.procs.inside.list.items ≡ c.args.state.now.processes = c.procs.view_is ∙ ap (λ (s : State). s.processes) c.state.view_is in
    let spaces : c.state.inside.spaces ≡ c.args.state.now.spaces = ap (λ (s : State). s.spaces) c.state.view_is in
    let before : State = record { processes = c.procs.inside.list.items; spaces = c.state.inside.spaces } in
    asked_can (world_of c.args.w.now) before c.args.call.now c.args.child c.args.at c.index_mut-p.result.now c.ask_caller.new.p
    (rw c.procs.view_is c.state.invariant.0) (rw items c.requires.here) c.index_mut-p.ensures.value c.ask_caller.ensures.rest
    c.ask_caller.result c.ask_caller.new.changed (rw items c.requires.fresh) (rw spaces c.requires.stands) (rw spaces c.requires.room)
    (c.ask_caller.ensures.res c.procs.inside.list.items) c.ask_caller.ensures.change c.ask_caller.ensures.cred

pub returns-clause-made : goal.returns-clause-made
returns-clause-made c = asked_takes c.ask_caller.result c.ask_caller.new.changed c.state.inside.spaces c.args.call.now c.index_mut-p.result.now.cred c.ask_caller.ensures.change
