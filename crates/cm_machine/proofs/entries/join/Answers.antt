use Rattle.std.proofs.Common.{◌≡◌, length, List, ◌∙◌, ap}
use Rattle.cm_machine.proofs.Changing.{new_put, put_keeps, same_there}
use Rattle.cm_machine.proofs.entries.join.Goals as goal
use Rattle.cm_machine.specs.Asking.{inside, joined}
use Rattle.model_cred.specs.Process.{Process, State, put_process}

pub invariant_of-state : goal.invariant_of-state
invariant_of-state c =
    let items : c.procs.inside.list.items ≡ c.args.state.now.processes = c.procs.view_is ∙ ap (λ (s : State). s.processes) c.state.view_is in
    let spaces : c.state.inside.spaces ≡ c.args.state.now.spaces = ap (λ (s : State). s.spaces) c.state.view_is in
    let place : c.come_into.new.p.space ≡ c.args.n.0 = ap (λ (p : Process). p.space) c.come_into.ensures in
    put_keeps c.procs.inside.list.items c.args.at (length c.state.inside.spaces) c.index_mut-p.result.now c.come_into.new.p
    (rw c.procs.view_is c.state.invariant.0) (rw c.procs.view_is c.state.invariant.1) (rw items c.requires.here) c.index_mut-p.ensures.value
    (ap (λ (p : Process). p.pid) c.come_into.ensures) (rw (place, spaces) c.requires.stands)

pub returns : goal.returns
returns c p there =
    let items : c.procs.inside.list.items ≡ c.args.state.now.processes = c.procs.view_is ∙ ap (λ (s : State). s.processes) c.state.view_is in
    let before : State = record { processes = c.procs.inside.list.items; spaces = c.state.inside.spaces } in
    let same : before ≡ c.args.state.now
    = ap (λ (ps : List Process). record { processes = ps; spaces = c.state.inside.spaces }) c.procs.view_is ∙ c.state.view_is in
    let old : Process = c.index_mut-p.result.now in
    let it : old ≡ p = same_there c.procs.inside.list.items c.args.at old p (rw items c.requires.here) c.index_mut-p.ensures.value (rw items there) in
    ap (λ (ps : List Process). record before { processes = ps })
    (new_put c.procs.inside.list.items c.args.at old c.come_into.new.p (rw c.procs.view_is c.state.invariant.0) (rw items c.requires.here)
    c.index_mut-p.ensures.value (ap (λ (p : Process). p.pid) c.come_into.ensures)
    ∙ ap (λ (q : Process). put_process q c.procs.inside.list.items) (c.come_into.ensures ∙ ap (λ (q : Process). inside q c.args.n.0) it))
    ∙ ap (λ (s : State). joined s p c.args.n.0) same
