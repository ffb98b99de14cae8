use Rattle.std.proofs.Common.{◌≡◌, length, List, ◌∙◌, ap}
use Rattle.cm_machine.proofs.Changing.{new_put, put_keeps, same_there, stands_at}
use Rattle.cm_machine.proofs.filters.install.Goals as goal
use Rattle.cm_machine.specs.Asking.{filtered}
use Rattle.model_cred.specs.Process.{Process, State, put_process}
use Rattle.model_rules.specs.Install.{with_installed}

pub invariant_of-state : goal.invariant_of-state
invariant_of-state c =
    let items : c.procs.inside.list.items ≡ c.args.state.now.processes = c.procs.view_is ∙ ap (λ (s : State). s.processes) c.state.view_is in
    let space : c.add_filter.new.p.space ≡ c.index_mut-p.result.now.space = ap (λ (p : Process). p.space) c.add_filter.ensures in
    put_keeps c.procs.inside.list.items c.args.at (length c.state.inside.spaces) c.index_mut-p.result.now c.add_filter.new.p
    (rw c.procs.view_is c.state.invariant.0) (rw c.procs.view_is c.state.invariant.1) (rw items c.requires) c.index_mut-p.ensures.value
    (ap (λ (p : Process). p.pid) c.add_filter.ensures)
    (rw space (stands_at c.procs.inside.list.items c.args.at (length c.state.inside.spaces) c.index_mut-p.result.now
    (rw c.procs.view_is c.state.invariant.1) (rw items c.requires) c.index_mut-p.ensures.value))

pub returns : goal.returns
returns c p there =
    let items : c.procs.inside.list.items ≡ c.args.state.now.processes = c.procs.view_is ∙ ap (λ (s : State). s.processes) c.state.view_is in
    let before : State = record { processes = c.procs.inside.list.items; spaces = c.state.inside.spaces } in
    let same : before ≡ c.args.state.now
    = ap (λ (ps : List Process). record { processes = ps; spaces = c.state.inside.spaces }) c.procs.view_is ∙ c.state.view_is in
    let old : Process = c.index_mut-p.result.now in
    let it : old ≡ p = same_there c.procs.inside.list.items c.args.at old p (rw items c.requires) c.index_mut-p.ensures.value (rw items there) in
    ap (λ (ps : List Process). record before { processes = ps })
    (new_put c.procs.inside.list.items c.args.at old c.add_filter.new.p (rw c.procs.view_is c.state.invariant.0) (rw items c.requires)
    c.index_mut-p.ensures.value (ap (λ (p : Process). p.pid) c.add_filter.ensures)
    ∙ ap (λ (q : Process). put_process q c.procs.inside.list.items)
    (c.add_filter.ensures ∙ ap (λ (q : Process). record q { filter = with_installed q.filter c.args.more }) it))
    ∙ ap (λ (s : State). filtered s p c.args.more) same
