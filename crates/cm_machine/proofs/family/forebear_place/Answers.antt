use Rattle.std.proofs.Common.{◌≡◌, ◌<◌, length, List, None, get_or, slice_get, sym, ◌∙◌, ap, subst}
use Rattle.std.specs.Prelude.{IfSome, IfNone}
use Rattle.cm_machine.proofs.Families.{up_found, up_none, no_up}
use Rattle.cm_machine.proofs.family.forebear_place.Goals as goal
use Rattle.model_cred.specs.Process.{Process, State, Ascends, process_at}

pub returns-in-Some : goal.returns-in-Some
returns-in-Some c =
    let s : State = c.args.state.now in
    let p : Process = c.index-p.result.now in
    let procs : c.state.inside.procs ≡ s.processes = ap (λ (t : State). t.processes) c.state.view_is in
    let up : Ascends s.processes = subst Ascends procs c.state.invariant.0 in
    let here : p ≡ get_or s.processes c.args.at p
    = c.index-p.ensures ∙ ap (λ (ps : List Process). get_or ps c.args.at p) (c.procs.view_is ∙ procs) in
    let has = sym (ap (λ (q : Process). q.forebear) c.p.view_is) ∙ c.in-Some.is in
    let found : List Process → Type 0
    = λ ps. IfSome c.find.result (λ at. (at < length ps) × (slice_get ps at ≡ process_at ps c.in-Some.forebear)) in
    let none : List Process → Type 0 = λ ps. IfNone c.find.result (process_at ps c.in-Some.forebear ≡ None) in
    record {
      found = up_found s c.args.at c.in-Some.forebear p c.find.result up c.requires here has (subst found procs c.find.ensures.found);
      none = up_none s c.args.at c.in-Some.forebear p c.find.result up c.requires here has (subst none procs c.find.ensures.none);
    }

pub returns-in-None-clause-none : goal.returns-in-None-clause-none
returns-in-None-clause-none c =
    let procs : c.state.inside.procs ≡ c.args.state.now.processes = ap (λ (s : State). s.processes) c.state.view_is in
    no_up c.args.state.now c.args.at c.index-p.result.now (subst Ascends procs c.state.invariant.0) c.requires
    (c.index-p.ensures ∙ ap (λ (ps : List Process). get_or ps c.args.at c.index-p.result.now) (c.procs.view_is ∙ procs))
    (sym (ap (λ (p : Process). p.forebear) c.p.view_is) ∙ c.in-None.is)
