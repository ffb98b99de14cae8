use Rattle.std.proofs.Common.{◌≡◌, List, slice_set, sym, ◌∙◌, ap, subst}
use Rattle.cm_machine.proofs.Changing.{put_keeps, cred_put, stands_at, same_there, undone_is}
use Rattle.cm_machine.proofs.change.undo.Goals as goal
use Rattle.cm_machine.specs.Asking.{undone, undone_cred}
use Rattle.model_cred.specs.Credential.{Credential}
use Rattle.model_cred.specs.Process.{Process, State}

pub invariant_of-state : goal.invariant_of-state
invariant_of-state c =
    let items : c.procs.inside.list.items ≡ c.args.state.now.processes = c.procs.view_is ∙ ap (λ (s : State). s.processes) c.state.view_is in
    let place : c.p.inside.space.0 ≡ c.index_mut-p.result.now.space = ap (λ (p : Process). p.space) c.p.view_is in
    put_keeps c.procs.inside.list.items c.args.at _ c.index_mut-p.result.now _ (rw c.procs.view_is c.state.invariant.0)
    (rw c.procs.view_is c.state.invariant.1) (rw items c.requires) c.index_mut-p.ensures.value
    (ap (λ (p : Process). p.pid) c.p.view_is)
    (rw place (stands_at c.procs.inside.list.items c.args.at _ c.index_mut-p.result.now (rw c.procs.view_is c.state.invariant.1) (rw items c.requires)
    c.index_mut-p.ensures.value))

pub returns : goal.returns
returns c p there =
    let items : c.procs.inside.list.items ≡ c.args.state.now.processes = c.procs.view_is ∙ ap (λ (s : State). s.processes) c.state.view_is in
    let before : State = record { processes = c.procs.inside.list.items; spaces = c.state.inside.spaces } in
    let after : State = record before {
      processes = slice_set c.procs.inside.list.items c.args.at
          (record {
            pid = c.p.inside.pid;
            forebear = c.p.inside.forebear;
            space = c.p.inside.space.0;
            cred = c.undo_cred.new.c;
            filter = c.p.inside.filter;
          });
    } in
    let same : before ≡ c.args.state.now
    = ap (λ (ps : List Process). record { processes = ps; spaces = c.state.inside.spaces }) c.procs.view_is
    ∙ c.state.view_is in
    let old : Process = c.index_mut-p.result.now in
    let made : c.undo_cred.new.c ≡ undone_cred c.args.change c.args.old old.cred = c.undo_cred.ensures
    ∙ ap (undone_cred c.args.change c.args.old) c.deref_mut.ensures.value
    ∙ ap (λ (q : Process). undone_cred c.args.change c.args.old q.cred) c.p.view_is in
    subst (λ (q : Process). after ≡ undone c.args.change c.args.old q c.args.state.now)
    (same_there c.procs.inside.list.items c.args.at old p (rw items c.requires) c.index_mut-p.ensures.value (rw items there))
    (ap (λ (q : Process). record before { processes = slice_set c.procs.inside.list.items c.args.at (record q { cred = c.undo_cred.new.c }) }) c.p.view_is
    ∙ ap (λ (k : Credential). record before { processes = slice_set c.procs.inside.list.items c.args.at (record old { cred = k }) }) made
    ∙ cred_put before c.args.at old (undone_cred c.args.change c.args.old old.cred) (rw c.procs.view_is c.state.invariant.0)
    (rw items c.requires) c.index_mut-p.ensures.value
    ∙ sym (undone_is c.args.change c.args.old before c.args.at old (rw c.procs.view_is c.state.invariant.0) (rw items c.requires) c.index_mut-p.ensures.value)
    ∙ ap (undone c.args.change c.args.old old) same)
