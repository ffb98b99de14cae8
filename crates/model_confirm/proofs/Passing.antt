-- How a run goes: over events that are a later run within the limits it goes on from where they lead.
use Rattle.std.proofs.Common.{◌≡◌, ◌⊎◌, ℕ, Bool, true, false, List, [], ◌∷◌, ◌++◌, ◌&&◌, Option, Some}
use Rattle.std.proofs.Common.{if◌then◌else◌, refl, sym, ap, ◌∙◌, inl, inr, subst}
use Rattle.std.proofs.lemmas.Bool.{cond-true, cond-false}
use Rattle.cm_base.specs.declared.limited.Limited.{Limited}
use Rattle.cm_filter.specs.Filters.{permits}
use Rattle.model_confirm.specs.Causes.{IsRefused, no_member, excluded, no_step}
use Rattle.model_confirm.specs.Confirm.{Confirmed, RefusesLine, PastLimit, by_outcome, unless_past, events_confirm, is_for_members}
use Rattle.model_cred.specs.Call.{kind_of}
use Rattle.model_cred.specs.Process.{State}
use Rattle.model_cred.specs.Right.{Right}
use Rattle.model_cred.specs.World.{World}
use Rattle.model_run.specs.Later.{is_member, members_after, LaterRun}
use Rattle.model_run.specs.Own.{may_call}
use Rattle.model_run.specs.Step.{Outcome, Goes, Step, outcome}
use Rattle.model_run.specs.Within.{exceeded, IsWithin, RunWithin}
use Rattle.model_text.specs.Reading.{Placed, End, events_of}

-- a step leads to one state
pub one_state : (become : Outcome) (one other : State) → become ≡ Goes one → become ≡ Goes other → one ≡ other
one_state become one other is it = let same : Goes one ≡ Goes other = sym is ∙ it in cc

-- an event is a step or none
pub goes_or_not : (become : Outcome) → ((s : State) × (become ≡ Goes s)) ⊎ ((s : State) → become ≡ Goes s → ⊥)
goes_or_not (Goes s) = inl (s, refl)
goes_or_not _ = inr (λ s is. cc)

-- both tests hold
pub both : (a b : Bool) → a ≡ true → b ≡ true → (a && b) ≡ true
both a b is it = ap (λ (x : Bool). x && b) is ∙ it

-- ---- one event
module _ (w : World) (before : State) (members : List ℕ) (e : Placed) (rest : State → Confirmed) where
  -- a member's step within the limits is taken
  pub taken : (become : Outcome) (mid : State) → become ≡ Goes mid → IsWithin mid → is_for_members w before members e.event ≡ true
      → by_outcome w before members e rest become ≡ rest mid
  taken become mid goes within is =
      ap (λ (o : Outcome). by_outcome w before members e rest o) goes
      ∙ ap (λ (l : Option Limited). unless_past l (if is_for_members w before members e.event then rest mid else RefusesLine e.line)) within
      ∙ cond-true (is_for_members w before members e.event) (rest mid) (RefusesLine e.line) is

  -- a step within the limits that isn't a member's, or is excluded, is refused
  pub refuses_stranger : (become : Outcome) (mid : State) → become ≡ Goes mid → IsWithin mid → is_for_members w before members e.event ≡ false
      → by_outcome w before members e rest become ≡ RefusesLine e.line
  refuses_stranger become mid goes within is =
      ap (λ (o : Outcome). by_outcome w before members e rest o) goes
      ∙ ap (λ (l : Option Limited). unless_past l (if is_for_members w before members e.event then rest mid else RefusesLine e.line)) within
      ∙ cond-false (is_for_members w before members e.event) (rest mid) (RefusesLine e.line) is

  -- so is what is no step
  pub refuses_no_step : (become : Outcome) → ((s : State) → become ≡ Goes s → ⊥) → by_outcome w before members e rest become ≡ RefusesLine e.line
  refuses_no_step (Goes s) none = absurd (none s refl)
  refuses_no_step _ none = refl

  -- a step past a limit, whoever makes it
  pub past : (become : Outcome) (after : State) (l : Limited) → become ≡ Goes after → exceeded after ≡ Some l
      → by_outcome w before members e rest become ≡ PastLimit l
  past become after l goes over =
      ap (λ (o : Outcome). by_outcome w before members e rest o) goes
      ∙ ap (λ (found : Option Limited). unless_past found (if is_for_members w before members e.event then rest after else RefusesLine e.line)) over

  -- who isn't a member, or makes an excluded call, fails the test
  pub refused_fails : (mid : State) → Step w before e.event mid → IsRefused w before members e.event → is_for_members w before members e.event ≡ false
  refused_fails mid goes (no_member is) = ap (λ (x : Bool). x && may_call (permits w.filter) before e.event.pid (kind_of e.event.call)) is
  refused_fails mid goes (excluded is) =
      either_fails (is_member members e.event.pid) (may_call (permits w.filter) before e.event.pid (kind_of e.event.call)) is
    where
      either_fails : (a b : Bool) → b ≡ false → (a && b) ≡ false
      either_fails true b is = is
      either_fails false b is = refl
  refused_fails mid goes (no_step none) = absurd (none mid goes)

  -- an event that is refused, and no step past a limit, is refused at its line
  pub refuses : ((after : State) → Step w before e.event after → IsWithin after) → IsRefused w before members e.event
      → by_outcome w before members e rest (outcome w before e.event) ≡ RefusesLine e.line
  refuses within is =
      elim (goes_or_not (outcome w before e.event)) [
        | inl goes ↦ refuses_stranger (outcome w before e.event) goes.0 goes.1 (within goes.0 goes.1) (refused_fails goes.0 goes.1 is)
        | inr none ↦ refuses_no_step (outcome w before e.event) none
      ]

-- ---- runs of events
-- Over a later run within the limits it goes on from its end.
pub run_passes : (w : World) (right : Right) (before rest : List Placed) (ending : End) (s : State) (members : List ℕ)
    (last : State) (members_then : List ℕ) → LaterRun w s members (events_of before) last members_then → RunWithin w s (events_of before) last
    → events_confirm w s members right (before ++ rest) ending ≡ events_confirm w last members_then right rest ending
run_passes w right [] rest ending s members last members_then later within =
    ap (λ (t : State). events_confirm w t members right rest ending) (sym later.0)
    ∙ ap (λ (ms : List ℕ). events_confirm w last ms right rest ending) (sym later.1)
run_passes w right (e ∷ before) rest ending s members last members_then later within =
    let members' : List ℕ = members_after members e.event.pid e.event.call e.event.res in
    let next : State → Confirmed = λ s'. events_confirm w s' members' right (before ++ rest) ending in
    let same : within.0 ≡ later.0 = one_state (outcome w s e.event) within.0 later.0 within.1 later.3 in
    let here : IsWithin later.0 = subst IsWithin same within.2 in
    let on : RunWithin w later.0 (events_of before) last = subst (λ (t : State). RunWithin w t (events_of before) last) same within.3 in
    taken w s members e next (outcome w s e.event) later.0 later.3 here
    (both (is_member members e.event.pid) (may_call (permits w.filter) s e.event.pid (kind_of e.event.call)) later.1 later.2)
    ∙ run_passes w right before rest ending later.0 members' last members_then later.4 on
