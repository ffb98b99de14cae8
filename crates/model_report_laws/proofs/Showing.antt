-- What the lines of a report show: after lines that show a state, the lines of a step show the state that it leads to.
use Rattle.std.proofs.Common.{◌≡◌, ◌≢◌, ℕ, suc, ◌==◌, ◌⊎◌, cond, inl, inr, List, [], ◌∷◌, ◌++◌, Option, Some, None, IsSomeAnd, refl, sym, ◌∙◌, ap, subst}
use Rattle.std.proofs.Common.{arith, append_assoc, append-nil, map, false}
use Rattle.std.proofs.lemmas.Bool.{cases_eq}
use Rattle.std.specs.Option.{option_or}
use Rattle.cm_base.specs.declared.res.Res.{Res}
use Rattle.cm_base.specs.declared.res.Res.TheVariants.{Child}
use Rattle.model_cred.specs.Process.{Process, State, Ascends, process_at, is_alive}
use Rattle.model_cred.specs.World.{World}
use Rattle.model_rules.proofs.Options.{none_there, or_none, or_assoc}
use Rattle.model_run.specs.Step.{Step, Run}
use Rattle.model_report.proofs.Replays.{passed_lines, passed_step}
use Rattle.model_cred.proofs.Lookups.{pid_of_found, IsLike}
use Rattle.model_report.proofs.StepFacts.{WasThere, others_were_there}
use Rattle.model_report_laws.specs.Laws.{Shows, last_credentials}
use Rattle.model_report.specs.Replay.{ReportLine, Credentials, credentials_if, child_lines, step_lines}
use Rattle.model_text.specs.Reading.{Placed, events_of}
use Rattle.model_cred.proofs.Finds.{dead_below}
use Rattle.model_cred.proofs.Orders.{AscendsFrom, ascends_forth}

-- ---- the last credential lines
-- the last credential line of two lists of lines is that of the second, where there is one
pub last_append : (pid : ℕ) (first second : List ReportLine)
    → last_credentials pid (first ++ second) ≡ option_or (last_credentials pid second) (last_credentials pid first)
last_append pid [] second = elim (last_credentials pid second) as (λ o. o ≡ option_or o None) [ None ↦ refl | Some p ↦ refl ]
last_append pid (Credentials w p ∷ first) second =
    ap (λ (o : Option Process). option_or o (cond (p.pid == pid) (Some p) None)) (last_append pid first second)
    ∙ or_assoc (last_credentials pid second) (last_credentials pid first) (cond (p.pid == pid) (Some p) None)
last_append pid (_ ∷ first) second = last_append pid first second

-- ---- what is shown
-- the second is shown of the first
abbrev IsShown : Process → Process → Type 0
IsShown p q = (q.pid ≡ p.pid) × (q.space ≡ p.space) × (q.cred ≡ p.cred)

-- lines after which none is a credential line show the same
pub silent_shown : (lines silent : List ReportLine) (s : State) → ((pid : ℕ) → last_credentials pid silent ≡ None) → Shows lines s → Shows (lines ++ silent) s
silent_shown lines silent s none shows p found =
    subst (λ (o : Option Process). IsSomeAnd o (IsShown p)) (sym (last_append p.pid lines silent
    ∙ ap (λ (o : Option Process). option_or o (last_credentials p.pid lines)) (none p.pid))) (shows p found)

-- ---- the credential lines of a step
-- that of the pid of a process tells it
own_line : (w : World) (ps : List Process) (pid : ℕ) (p : Process) → process_at ps p.pid ≡ Some p → p.pid ≡ pid
    → last_credentials p.pid (credentials_if w (process_at ps pid)) ≡ Some p
own_line w ps pid p found same =
    ap (λ (n : ℕ). last_credentials p.pid (credentials_if w (process_at ps n))) (sym same)
    ∙ ap (λ (o : Option Process). last_credentials p.pid (credentials_if w o)) found ∙ grind (arith)

line_of_other : (w : World) (pid : ℕ) (p : Process) (found : Option Process) → ((q : Process) → found ≡ Some q → q.pid ≡ pid) → p.pid ≢ pid
    → last_credentials p.pid (credentials_if w found) ≡ None
line_of_other w pid p None has other = refl
line_of_other w pid p (Some q) has other = let own : q.pid ≡ pid = has q refl in grind (arith, own, other)

-- and that of another pid tells nothing of it
other_line : (w : World) (ps : List Process) (pid : ℕ) (p : Process) → p.pid ≢ pid
    → last_credentials p.pid (credentials_if w (process_at ps pid)) ≡ None
other_line w ps pid p other = line_of_other w pid p (process_at ps pid) (pid_of_found ps pid) other

-- the lines of the child that a result tells show a process, or it isn't that child
child_line : (w : World) (s : State) (res : Res) (p : Process) → process_at s.processes p.pid ≡ Some p
    → (last_credentials p.pid (child_lines w s res) ≡ Some p) ⊎
    ((last_credentials p.pid (child_lines w s res) ≡ None) × ((pid : ℕ) → res ≡ Child pid → p.pid ≢ pid))
child_line w s (Child pid) p found =
    elim (cases_eq p.pid pid) [
      | inl same ↦ inl (own_line w s.processes pid p found same)
      | inr other ↦ inr (other_line w s.processes pid p other, λ told is. let this : pid ≡ told = cc in λ same. other (same ∙ sym this))
    ]
child_line w s _ p found = inr (refl, λ told is. absurd (cc))

shown_as_like : (found : Option Process) (q p : Process) → IsLike q p → IsSomeAnd found (IsShown q) → IsSomeAnd found (IsShown p)
shown_as_like None q p like shown = absurd shown
shown_as_like (Some r) q p like (pid, space, cred) = (pid ∙ like.pid, space ∙ like.space, cred ∙ like.cred)

-- a process that was there before is shown as it was
shown_before : (before : List ReportLine) (s : State) → Shows before s → (p : Process) → WasThere s p → IsSomeAnd (last_credentials p.pid before) (IsShown p)
shown_before before s shows p was =
    let found : process_at s.processes was.process.pid ≡ Some was.process = ap (λ (n : ℕ). process_at s.processes n) was.like.pid ∙ was.found in
    shown_as_like (last_credentials p.pid before) was.process p was.like
    (subst (λ (n : ℕ). IsSomeAnd (last_credentials n before) (IsShown was.process)) was.like.pid (shows was.process found))

-- the lines of a step show the state that it leads to, after lines that show the state before
pub step_shows : (w : World) (s : State) (e : Placed) (s' : State) → Step w s e.event s'
    → (before : List ReportLine) → Shows before s → Shows (before ++ step_lines w s' e) s'
step_shows w s e s' goes before shows p found =
    let child : Option Process = last_credentials p.pid (child_lines w s' e.event.res) in
    let caller : Option Process = last_credentials p.pid (credentials_if w (process_at s'.processes e.event.pid)) in
    let earlier : Option Process = last_credentials p.pid before in
    let last : last_credentials p.pid (before ++ step_lines w s' e) ≡ option_or (option_or child caller) earlier
    = last_append p.pid before (step_lines w s' e)
    ∙ ap (λ (o : Option Process). option_or o earlier)
    (last_append p.pid (credentials_if w (process_at s'.processes e.event.pid)) (child_lines w s' e.event.res)) in
    let by_child : (o : Option Process) → child ≡ o → IsSomeAnd (option_or (option_or o caller) earlier) (IsShown p)
    → IsSomeAnd (last_credentials p.pid (before ++ step_lines w s' e)) (IsShown p)
    = λ o is shown. subst (λ (x : Option Process). IsSomeAnd x (IsShown p))
    (sym (last ∙ ap (λ (x : Option Process). option_or (option_or x caller) earlier) is)) shown in
    let by_caller : (o : Option Process) → caller ≡ o → IsSomeAnd (option_or o earlier) (IsShown p) → IsSomeAnd (option_or caller earlier) (IsShown p)
    = λ o is shown. subst (λ (x : Option Process). IsSomeAnd (option_or x earlier) (IsShown p)) (sym is) shown in
    elim (child_line w s' e.event.res p found) [
      | inl is ↦ by_child (Some p) is (refl, refl, refl)
      | inr none ↦
          by_child None none.0 (elim (cases_eq p.pid e.event.pid) [
            | inl same ↦ by_caller (Some p) (own_line w s'.processes e.event.pid p found same) (refl, refl, refl)
            | inr other ↦ by_caller None (other_line w s'.processes e.event.pid p other)
                (shown_before before s shows p (others_were_there w s e.event s' goes p found other none.1))
          ])
    ]

-- and so do the lines of a run
pub run_shows : (w : World) (events : List Placed) (from to : State) → Run w from (events_of events) to
    → (before : List ReportLine) → Shows before from
    → Shows (before ++ passed_lines w from events) to
run_shows w [] from to run before shows =
    subst (λ (ls : List ReportLine). Shows ls to) (sym (append-nil before)) (subst (λ (s : State). Shows before s) (sym run) shows)
run_shows w (e ∷ events) from to run before shows =
    let step : List ReportLine = step_lines w run.0 e in
    let rest : List ReportLine = passed_lines w run.0 events in
    let shown : Shows ((before ++ step) ++ rest) to
    = run_shows w events run.0 to run.2 (before ++ step) (step_shows w from e run.0 run.1 before shows) in
    subst (λ (ls : List ReportLine). Shows ls to)
    (append_assoc before step rest ∙ ap (λ (ls : List ReportLine). before ++ ls) (sym (passed_step w from run.0 e events run.1))) shown

-- ---- the credential lines at the start
not_found : (pid : ℕ) (ps : List Process) → is_alive ps pid ≡ false → process_at ps pid ≡ None
not_found pid ps free = none_there (process_at ps pid) free

-- the last credential line of a process that has its pid alone shows it
shows_from : (w : World) (low : ℕ) (ps : List Process) → AscendsFrom low ps → (pid : ℕ) → last_credentials pid (map (Credentials w) ps) ≡ process_at ps pid
shows_from w low [] ascends pid = refl
shows_from w low (p ∷ ps) ascends pid =
    let dead : is_alive ps p.pid ≡ false = dead_below (suc p.pid) p.pid ps ascends.1 (omega arith) in
    grind (arith, dead, shows_from w (suc p.pid) ps ascends.1, not_found pid ps, or_none (process_at ps pid))

pub start_shows : (w : World) (ps : List Process) → Ascends ps → (pid : ℕ) → last_credentials pid (map (Credentials w) ps) ≡ process_at ps pid
start_shows w ps ascends pid = shows_from w 0 ps (ascends_forth ps ascends) pid
