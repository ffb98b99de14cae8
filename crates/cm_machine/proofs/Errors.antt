-- A step whose result is an error leaves the state as it was.
use Rattle.std.proofs.Common.{◌≡◌, ℕ, ◌<◌, false, length, Option, slice_get, refl, sym, ap, subst, ◌∙◌}
use Rattle.std.proofs.lemmas.Bool.{cond-false}
use Rattle.std.specs.Prelude.{Result, Ok}
use Rattle.std.specs.declared.result.Result.TheVariants as result
use Rattle.cm_base.specs.Outcome.{UnchangedOnErr}
use Rattle.cm_base.specs.declared.errno.Errno.{Errno}
use Rattle.cm_base.specs.declared.res.Res.{Res}
use Rattle.cm_base.specs.declared.res.Res.TheVariants.{Err}
use Rattle.cm_machine.proofs.Changing.{some_at}
use Rattle.cm_machine.specs.Asking.{OfCaller}
use Rattle.cm_machine.specs.Outcomes.{Becomes}
use Rattle.cm_machine.specs.declared.error.StepError.{StepError}
use Rattle.model_cred.specs.Call.{Event}
use Rattle.model_cred.specs.Process.{Process, State, process_at}
use Rattle.model_cred.specs.World.{World}
use Rattle.model_laws.proofs.Refusals.{error_changes_nothing}
use Rattle.model_laws.specs.Steps.{ErrorChangesNothing}
use Rattle.model_run.specs.Step.{Outcome, NoSpace, PidInUse, names_no_space, is_living_child, outcome, outcome_for, told_call}

-- the event's result is an error
told_error_kept : {T : Type 0} (w : World) (s : State) (e : Event) (error : Errno) (r : Result T StepError) (after : State)
    → Becomes r after (outcome w s e) → UnchangedOnErr r after s → e.res ≡ Err error → after ≡ s
unfolding ErrorChangesNothing
told_error_kept w s e error (Ok _) after becomes unchanged is = error_changes_nothing w s e error after becomes is
told_error_kept w s e error (result.Err why) after becomes unchanged is = unchanged

-- The event is a call of the process at a place. What becomes of it is what becomes of the call, since it tells no child.
pub error_keeps : {T : Type 0} (w : World) (s : State) (e : Event) (error : Errno) (at : ℕ) (r : Result T StepError) (after : State)
    → at < length s.processes → slice_get s.processes at ≡ process_at s.processes e.pid → names_no_space s.spaces e.call ≡ false
    → OfCaller s at (λ p. Becomes r after (told_call w s p e.call e.res)) → UnchangedOnErr r after s → e.res ≡ Err error → after ≡ s
error_keeps w s e error at r after here found stands told unchanged is =
    let p = some_at s.processes at here in
    let fresh : is_living_child s.processes e.res ≡ false = subst (λ (res : Res). is_living_child s.processes res ≡ false) (sym is) refl in
    let same : outcome w s e ≡ told_call w s p.0 e.call e.res =
    ap (λ (caller : Option Process). outcome_for w s caller e) (sym found ∙ p.1)
    ∙ cond-false (names_no_space s.spaces e.call) NoSpace _ stands
    ∙ cond-false (is_living_child s.processes e.res) PidInUse _ fresh in
    told_error_kept w s e error r after (subst (λ (o : Outcome). Becomes r after o) (sym same) (told p.0 p.1)) unchanged is
