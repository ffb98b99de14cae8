-- How a replay goes: over events that are a run within the limits it goes on from the state that the run reaches, with the
-- lines of these events before the rest; and its events are such a run, or it breaks off at one of them.
use Rattle.std.proofs.Common.{◌≡◌, ℕ, suc, ◌+◌, ◌⊎◌, inl, inr, length, List, [], ◌∷◌, ◌++◌, Option, Some, None, refl, sym, ◌∙◌, ap, arith, append_assoc}
use Rattle.cm_base.specs.declared.limited.Limited.{Limited}
use Rattle.model_cred.specs.Call.{Event}
use Rattle.model_cred.specs.Process.{State}
use Rattle.model_cred.specs.World.{World}
use Rattle.model_run.specs.Step.{Outcome, Goes, Step, Run, outcome}
use Rattle.model_report.proofs.StepFacts.{goes_or_not}
use Rattle.model_run.specs.Within.{RunWithin}
use Rattle.model_report.specs.Replay.{Report, ReportLine, replayed, by_outcome, after, impossible, limit_hit, step_lines, state_or, state_after}
use Rattle.model_report.specs.Replay.{exceeded, IsWithin, unless_exceeded}
use Rattle.model_text.specs.Reading.{Placed, End, events_of}

-- ---- runs within the limits
-- such a run is a run
pub run_of_within : (w : World) (s : State) (es : List Event) (s' : State) → RunWithin w s es s' → Run w s es s'
run_of_within w s [] s' run = run
run_of_within w s (e ∷ es) s' run = (run.0, run.1, run_of_within w run.0 es s' run.3)

-- the state that a run leads to
pub run_after : (w : World) (es : List Event) (s s' : State) → Run w s es s' → state_after w s es ≡ s'
run_after w [] s s' run = sym run
run_after w (e ∷ es) s s' run = ap (λ (o : Outcome). state_after w (state_or s o) es) run.1 ∙ run_after w es run.0 s' run.2

-- ---- the lines of events
-- the lines of events that are steps, one after another
abbrev pub passed_lines : World → State → List Placed → List ReportLine
passed_lines w s [] = []
passed_lines w s (e ∷ events) =
    step_lines w (state_or s (outcome w s e.event)) e ++ passed_lines w (state_or s (outcome w s e.event)) events

-- the lines of the first of them, and those of the others
pub passed_step : (w : World) (s mid : State) (e : Placed) (events : List Placed) → Step w s e.event mid
    → passed_lines w s (e ∷ events) ≡ step_lines w mid e ++ passed_lines w mid events
passed_step w s mid e events goes = ap (λ (o : Outcome). step_lines w (state_or s o) e ++ passed_lines w (state_or s o) events) goes

-- ---- the replay over a run
-- a step to a state within the limits is taken
taken : (w : World) (s mid : State) (e : Placed) (next : State → Report) → Step w s e.event mid → IsWithin mid
    → by_outcome w e next (outcome w s e.event) ≡ after (step_lines w mid e) (next mid)
taken w s mid e next goes within =
    ap (λ (o : Outcome). by_outcome w e next o) goes
    ∙ ap (λ (l : Option Limited). unless_exceeded l (after (step_lines w mid e) (next mid))) within

pub run_passes : (w : World) (before rest : List Placed) (ending : End) (from to : State) → RunWithin w from (events_of before) to → (count : ℕ)
    → replayed w from count (before ++ rest) ending ≡ after (passed_lines w from before) (replayed w to (count + length before) rest ending)
run_passes w [] rest ending from to run count =
    let counted : count ≡ count + 0 = omega arith in
    ap (λ (s : State). replayed w s count rest ending) (sym run) ∙ ap (λ (n : ℕ). replayed w to n rest ending) counted
run_passes w (e ∷ before) rest ending from to run count =
    let next : State → Report = λ s'. replayed w s' (count + 1) (before ++ rest) ending in
    let later : Report = replayed w to (count + 1 + length before) rest ending in
    let counted : count + 1 + length before ≡ count + suc (length before) = omega arith in
    taken w from run.0 e next run.1 run.2
    ∙ ap (λ (r : Report). after (step_lines w run.0 e) r) (run_passes w before rest ending run.0 to run.3 (count + 1))
    ∙ ap (λ (ls : List ReportLine). record { status = later.status; lines = ls })
    (sym (append_assoc (step_lines w run.0 e) (passed_lines w run.0 before) later.lines))
    ∙ ap (λ (ls : List ReportLine). after ls later) (sym (passed_step w from run.0 e before run.1))
    ∙ ap (λ (n : ℕ). after (passed_lines w from (e ∷ before)) (replayed w to n rest ending)) counted

-- ---- how far a replay goes
-- Why a replay breaks off at an event: it is no step, or a step to a state that exceeds a limit.
pub data Break (w : World) (s : State) (e : Event) : Type 0 where
  no_step : ((s' : State) → ¬ Step w s e s') → Break w s e
  crowds : (s' : State) (l : Limited) → Step w s e s' → exceeded s' ≡ Some l → Break w s e

-- what is said there
abbrev pub said : (w : World) (s : State) (e : Placed) → Break w s e.event → Report
said w s e (no_step none) = impossible e.line (outcome w s e.event)
said w s e (crowds s' l goes over) = limit_hit l

-- The events before one are a run within the limits, and the replay breaks off at that one.
pub record Breaks (w : World) (from : State) (events : List Placed) : Type 0 where
  pub before : List Placed
  pub event : Placed
  pub later : List Placed
  pub state : State
  pub cut : events ≡ before ++ event ∷ later
  pub run : RunWithin w from (events_of before) state
  pub why : Break w state event.event

breaks_later : (w : World) (from mid : State) (e : Placed) (events : List Placed) → Step w from e.event mid → IsWithin mid
    → Breaks w mid events → Breaks w from (e ∷ events)
breaks_later w from mid e events goes within breaks = record {
  before = e ∷ breaks.before;
  event = breaks.event;
  later = breaks.later;
  state = breaks.state;
  cut = ap (λ (es : List Placed). e ∷ es) breaks.cut;
  run = (mid, goes, within, breaks.run);
  why = breaks.why;
}

-- the event is a step to a state within the limits, or the replay breaks off at it
passes_or_breaks : (w : World) (s : State) (e : Event) → ((mid : State) × Step w s e mid × IsWithin mid) ⊎ Break w s e
passes_or_breaks w s e =
    elim (goes_or_not (outcome w s e)) [
      | inl goes ↦ by_limit goes.0 goes.1 (exceeded goes.0) refl
      | inr none ↦ inr (no_step none)
    ]
  where
    by_limit : (mid : State) → Step w s e mid → (l : Option Limited) → exceeded mid ≡ l
        → ((mid : State) × Step w s e mid × IsWithin mid) ⊎ Break w s e
    by_limit mid goes None is = inl (mid, goes, is)
    by_limit mid goes (Some l) is = inr (crowds mid l goes is)

-- the events are a run within the limits, or the replay breaks off at one of them
pub runs_or_breaks : (w : World) (from : State) (events : List Placed) → ((s : State) × RunWithin w from (events_of events) s) ⊎ Breaks w from events
runs_or_breaks w from [] = inl (from, refl)
runs_or_breaks w from (e ∷ events) =
    elim (passes_or_breaks w from e.event) [
      | inl goes ↦
          elim (runs_or_breaks w goes.0 events) [
            | inl run ↦ inl (run.0, (goes.0, goes.1, goes.2, run.1))
            | inr breaks ↦ inr (breaks_later w from goes.0 e events goes.1 goes.2 breaks)
          ]
      | inr why ↦ inr (record { before = []; event = e; later = events; state = from; cut = refl; run = refl; why = why })
    ]

-- what is no step is impossible
no_step_ends : (w : World) (e : Placed) (next : State → Report) (become : Outcome) → ((s : State) → ¬ (become ≡ Goes s))
    → by_outcome w e next become ≡ impossible e.line become
no_step_ends w e next (Goes s) none = absurd (none s refl)
no_step_ends w e next _ none = refl

break_ends : (w : World) (s : State) (e : Placed) (next : State → Report) (why : Break w s e.event)
    → by_outcome w e next (outcome w s e.event) ≡ said w s e why
break_ends w s e next (no_step none) = no_step_ends w e next (outcome w s e.event) none
break_ends w s e next (crowds s' l goes over) =
    ap (λ (o : Outcome). by_outcome w e next o) goes
    ∙ ap (λ (found : Option Limited). unless_exceeded found (after (step_lines w s' e) (next s'))) over

-- the replay of events at one of which it breaks off
pub break_passes : (w : World) (from : State) (events : List Placed) (ending : End) (count : ℕ) → (breaks : Breaks w from events)
    → replayed w from count events ending ≡ after (passed_lines w from breaks.before) (said w breaks.state breaks.event breaks.why)
break_passes w from events ending count breaks =
    let next : State → Report = λ s'. replayed w s' (count + length breaks.before + 1) breaks.later ending in
    ap (λ (es : List Placed). replayed w from count es ending) breaks.cut
    ∙ run_passes w breaks.before (breaks.event ∷ breaks.later) ending from breaks.state breaks.run count
    ∙ ap (λ (r : Report). after (passed_lines w from breaks.before) r) (break_ends w breaks.state breaks.event next breaks.why)
