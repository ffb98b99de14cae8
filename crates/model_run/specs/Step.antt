-- Steps and runs. A step is one completed call of one live process: what the rules give for it, or an error from
-- outside with nothing changed.
use Rattle.std.specs.Prelude.{◌≡◌, ℕ, ◌&&◌, Bool, false, not, List, [], ◌∷◌, Option, Some, None, if◌then◌else◌}
use Rattle.cm_base.specs.declared.res.Res.{Res}
use Rattle.cm_base.specs.declared.res.Res.TheVariants.{Child}
use Rattle.cm_filter.specs.Filters.{permits}
use Rattle.model_cred.specs.Call.{Call, SetNs, WriteUidMap, WriteGidMap, WriteSetgroups, Event, kind_of}
use Rattle.model_cred.specs.Process.{Process, State, process_at, is_alive}
use Rattle.model_cred.specs.Space.{Spaces, stands}
use Rattle.model_cred.specs.World.{World}
use Rattle.model_run.specs.Outside.{comes_from_outside}
use Rattle.model_run.specs.Ruling.{Ruling, ruling, own}
use Rattle.model_run.specs.Same.{same_res}
pub use Rattle.model_run.specs.Ruling.{with_cred}

-- What becomes of an event: a step to a state, or the reason why it is none. `Wrong` has the rules' own answer.
pub data Outcome : Type 0 where
  Goes : State → Outcome
  NoProcess : Outcome
  NoSpace : Outcome
  PidInUse : Outcome
  Wrong : Res → Outcome

-- the call names a space that doesn't stand
abbrev pub names_no_space : Spaces → Call → Bool
names_no_space spaces (SetNs n) = not (stands spaces n)
names_no_space spaces (WriteUidMap n given) = not (stands spaces n)
names_no_space spaces (WriteGidMap n given) = not (stands spaces n)
names_no_space spaces (WriteSetgroups n deny) = not (stands spaces n)
names_no_space spaces _ = false

-- the result is a child whose pid is alive already
abbrev pub is_living_child : List Process → Res → Bool
is_living_child processes (Child pid) = is_alive processes pid
is_living_child processes _ = false

-- the child that is told, 0 (which is no pid) where there is none
abbrev pub told_child : Res → ℕ
told_child (Child pid) = pid
told_child _ = 0

-- The result that is told against what the rules give for it. Where the two differ, the outcome has what the rules
-- answer of themselves.
abbrev pub told_rules : Res → Ruling → Ruling → Outcome
told_rules told given answer = if same_res told given.res then Goes given.state else Wrong answer.res

-- The result is an error from outside that the process's call may answer: a call that its filter excludes has none.
abbrev pub answers_from_outside : Process → Call → Res → Bool
answers_from_outside p call told = permits p.filter (kind_of call) && comes_from_outside call told

-- The call of a live process with the result that is told: an error from outside with nothing changed, or what the rules
-- give.
abbrev pub told_call : World → State → Process → Call → Res → Outcome
told_call w s p call told =
    if answers_from_outside p call told then Goes s else told_rules told (ruling w s p call (told_child told)) (own w s p call)

-- the event with the process that its pid names
abbrev pub outcome_for : World → State → Option Process → Event → Outcome
outcome_for w s None e = NoProcess
outcome_for w s (Some p) e =
    if names_no_space s.spaces e.call then NoSpace
    else if is_living_child s.processes e.res then PidInUse
    else told_call w s p e.call e.res

-- what becomes of an event in a state
abbrev pub outcome : World → State → Event → Outcome
outcome w s e = outcome_for w s (process_at s.processes e.pid) e

-- the event leads from the one state to the other
abbrev pub Step : World → State → Event → State → Type 0
Step w s e s' = outcome w s e ≡ Goes s'

-- the events, one after another, lead from the one state to the other
abbrev pub Run : World → State → List Event → State → Type 0
Run w s [] s' = s' ≡ s
Run w s (e ∷ es) s' = (mid : State) × Step w s e mid × Run w mid es s'
