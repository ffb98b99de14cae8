use Rattle.std.proofs.Common.{◌≡◌, List, slice_set, ◌∙◌, ap, subst}
use Rattle.cm_base.specs.Outcome.{OrNoMemory}
use Rattle.cm_machine.proofs.Changing.{enter_keeps, entered_is}
use Rattle.cm_machine.proofs.entries.enter_new.Goals as goal
use Rattle.cm_machine.specs.Asking.{OfCaller, entered}
use Rattle.model_cred.specs.Process.{Process, State}

pub invariant_of-state : goal.invariant_of-state
invariant_of-state c =
    let items : c.procs.inside.list.items ≡ c.args.state.now.processes = c.procs.view_is ∙ ap (λ (s : State). s.processes) c.state.view_is in
    enter_keeps c.make_and_enter.result c.procs.inside.list.items c.args.at c.index_mut-p.result.now c.make_and_enter.new.p c.state.inside.spaces
    c.make_and_enter.new.spaces _ (rw c.procs.view_is c.state.invariant.0) (rw c.procs.view_is c.state.invariant.1) (rw items c.requires.here)
    c.index_mut-p.ensures.value c.make_and_enter.ensures.inside c.make_and_enter.ensures.made c.make_and_enter.ensures.unchanged
    c.make_and_enter.ensures.same_spaces

pub returns-clause-entered : goal.returns-clause-entered
returns-clause-entered c =
    let items : c.procs.inside.list.items ≡ c.args.state.now.processes = c.procs.view_is ∙ ap (λ (s : State). s.processes) c.state.view_is in
    let before : State = record { processes = c.procs.inside.list.items; spaces = c.state.inside.spaces } in
    let after : State = record {
      processes = slice_set c.procs.inside.list.items c.args.at c.make_and_enter.new.p;
      spaces = c.make_and_enter.new.spaces;
    } in
    let same : before ≡ c.args.state.now
    = ap (λ (ps : List Process). record { processes = ps; spaces = c.state.inside.spaces }) c.procs.view_is ∙ c.state.view_is in
    subst (λ (s : State). OrNoMemory c.make_and_enter.result (λ _. OfCaller s c.args.at (λ p. after ≡ entered s p))) same
    (entered_is c.make_and_enter.result before c.args.at c.index_mut-p.result.now c.make_and_enter.new.p c.make_and_enter.new.spaces
    (rw c.procs.view_is c.state.invariant.0) (rw items c.requires.here) c.index_mut-p.ensures.value c.make_and_enter.ensures.inside
    c.make_and_enter.ensures.made)
