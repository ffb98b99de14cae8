-- A report's text doesn't rest on the form of log that the world declares.
use Rattle.std.proofs.Common.{◌≡◌, ℕ, ◌+◌, List, [], ◌∷◌, ◌++◌, Option, None, Some, Bool, true, false, nat_lt, length, map, Result, Ok, Err, refl, sym, ap, ap₂, ◌∙◌, subst}
use Rattle.std.specs.Prelude.{codes, decimal, if◌then◌else◌}
use Rattle.cm_filter.specs.Filters.{excludes, permits}
use Rattle.cm_filter.specs.Kinds.{call_name, kind_named}
use Rattle.cm_base.specs.declared.limited.Limited.{Limited}
use Rattle.cm_base.specs.declared.res.Res.{Res}
use Rattle.cm_base.specs.declared.res.Res.TheVariants as res
use Rattle.cm_base.specs.declared.status.Status.{Status}
use Rattle.cm_base.specs.declared.status.Status.TheVariants as status
use Rattle.cm_base.specs.Limited.{limit_number}
use Rattle.cm_base.specs.declared.limited.Limited.TheVariants as limit
use Rattle.cm_filter.specs.declared.kind.CallKind.{CallKind}
use Rattle.cm_lines.specs.declared.limits.Past.{Past}
use Rattle.model_box.specs.Bounds.{BoxRow}
use Rattle.model_cert.specs.Document.{certificate}
use Rattle.model_cert.specs.Fault.{CertFault}
use Rattle.model_confirm.specs.Confirm.{Confirmed, RefusesLine, unless_past, is_for_members, events_confirm, confirm_of}
use Rattle.model_confirm.specs.Confirm as confirm
use Rattle.model_cred.specs.Call as model
use Rattle.model_cred.specs.Call.{Call, Event, kind_of}
use Rattle.model_cred.specs.Process.{Process, State, process_at}
use Rattle.model_cred.specs.Right.{Right}
use Rattle.model_cred.specs.Space.{Spaces}
use Rattle.model_cred.specs.World.{World, LogForm}
use Rattle.model_plans.proofs.Nested.{walk_finds_the_same}
use Rattle.model_plans.specs.Firsts.{WalkFindsTheSame}
use Rattle.model_plans.specs.PlanRun.{first_found}
use Rattle.model_plans.specs.Walk.{walked}
use Rattle.model_report.specs.Answer.{answer, query_answer, asked_answer, right_answer, task_report, verdict_report, certificate_report}
use Rattle.model_report.specs.Answer.{confirmed_report, unless_large, bad_query, is_over_standing}
use Rattle.model_report.specs.Causes.{AsksVerdict}
use Rattle.model_report.specs.Checked.{Checked, NotStart, NotClosed, MeetsRight, Holds, IsChecked}
use Rattle.model_report.specs.Given.{StateGives, LogGives}
use Rattle.model_report_laws.specs.Laws.{SameText}
use Rattle.model_report.specs.Judged.{Judged}
use Rattle.model_report.specs.Query.{Query, asked_process, right_token}
use Rattle.model_report.specs.Replay.{Report, ReportLine, Credentials, Plain, text_of, after, at_line, by_end, by_outcome, child_lines}
use Rattle.model_report.specs.Replay.{plain_lines, silenced, silent}
use Rattle.model_report.specs.Replay.{credentials_if, exceeded, impossible, limit_hit, replayed, state_after, state_or, step_lines, unless_exceeded}
use Rattle.model_report.specs.Report.{go_on, log_report, replay_of, start_lines, shown, shows}
use Rattle.model_report.specs.Task.{Task, NoTask, ToJudge, ToCheck, ToConfirm}
use Rattle.model_report.specs.Told.{TellsNo, TellsYes, TellsUndecided, verdict_in, IsVerdictOn}
use Rattle.model_report.specs.Told as told
use Rattle.model_report_laws.proofs.Lines.{plain_step}
use Rattle.model_run.specs.Family.{family}
use Rattle.model_run.specs.Later.{members_after}
use Rattle.model_run.specs.Within.{RunWithin}
use Rattle.model_run.specs.Ruling.{Ruling, ruling, permitted_ruling, excluded_ruling, free_pid}
use Rattle.model_run.specs.Step.{Outcome, Goes, NoProcess, NoSpace, PidInUse, Wrong, outcome, outcome_for}
use Rattle.model_run.specs.Step.{told_child, told_rules, names_no_space, is_living_child, answers_from_outside}
use Rattle.model_text.specs.Arguments.{Argument, Form, Pattern, argument_text, argument_token, arguments_of, form_at, pattern_of, spaced_texts, takes}
use Rattle.model_text.specs.Arguments as argument
use Rattle.model_text.specs.Print.{credential_line, event_line, event_text, res_text}
use Rattle.model_text.specs.Cut.{tokens_of}
use Rattle.cm_base.specs.declared.faults.LineFault.TheVariants as fault
use Rattle.model_report.proofs.Texts.{text_of_append}
use Rattle.model_text.specs.Line.{Line, NoEvent, Parts, Tokens, parts_of, arguments_from, argument_before, call_read, outcome_line, parts_line}
use Rattle.model_text.specs.Line.{kind_line, call_line, pid_line, tokens_line}
use Rattle.model_text.specs.Reading.{Placed, End, Reading, events_of, from_line, line_cut, lines_reading, script_reading}
use Rattle.model_text.specs.Token.{pid_token, is_comment}
use Rattle.model_verdict.specs.Verdict.{Verdict, No, Yes, Undecided}
use Rattle.model_verdict.specs.InWorld.{VerdictIn}

-- the world, with that form of log
abbrev in_form : World → LogForm → World
in_form v form = record v { form = form }

-- ---- what becomes of events
permitted_form : (v : World) (form : LogForm) (s : State) (p : Process) (call : Call) (n : ℕ)
    → permitted_ruling (in_form v form) s p call n ≡ permitted_ruling v s p call n
permitted_form v form s p model.Exit n = refl
permitted_form v form s p _ n = refl

ruling_form : (v : World) (form : LogForm) (s : State) (p : Process) (call : Call) (n : ℕ) → ruling (in_form v form) s p call n ≡ ruling v s p call n
ruling_form v form s p call n =
    ap (λ (r : Ruling). if excludes p.filter (kind_of call) then excluded_ruling s else r) (permitted_form v form s p call n)

-- what becomes of a call by what the rules give and what they answer of themselves
abbrev become : State → Process → Event → Ruling → Ruling → Outcome
become s p e given answer =
    if names_no_space s.spaces e.call then NoSpace
    else if is_living_child s.processes e.res then PidInUse
    else if answers_from_outside p e.call e.res then Goes s
    else told_rules e.res given answer

outcome_for_form : (v : World) (form : LogForm) (s : State) (p : Option Process) (e : Event) → outcome_for (in_form v form) s p e ≡ outcome_for v s p e
outcome_for_form v form s None e = refl
outcome_for_form v form s (Some p) e =
    ap₂ (λ (given answer : Ruling). become s p e given answer) (ruling_form v form s p e.call (told_child e.res)) (ruling_form v form s p e.call (free_pid s))

outcome_form : (v : World) (form : LogForm) (s : State) (e : Event) → outcome (in_form v form) s e ≡ outcome v s e
outcome_form v form s e = outcome_for_form v form s (process_at s.processes e.pid) e

state_form : (v : World) (form : LogForm) (s : State) (es : List Event) → state_after (in_form v form) s es ≡ state_after v s es
state_form v form s [] = refl
state_form v form s (e ∷ es) =
    state_form v form (state_or s (outcome (in_form v form) s e)) es
    ∙ ap (λ (o : Outcome). state_after v (state_or s o) es) (outcome_form v form s e)

-- ---- how events are written
argument_form : (v : World) (form : LogForm) (a : Argument) → argument_text (in_form v form) a ≡ argument_text v a
argument_form v form (argument.Kind kind) = refl
argument_form v form (argument.Id n) = refl
argument_form v form _ = refl

arguments_form : (v : World) (form : LogForm) (arguments : List Argument) → spaced_texts (in_form v form) arguments ≡ spaced_texts v arguments
arguments_form v form [] = refl
arguments_form v form (a ∷ arguments) =
    ap₂ (λ (one more : List ℕ). (32 ∷ one) ++ more) (argument_form v form a) (arguments_form v form arguments)

event_form : (v : World) (form : LogForm) (e : Event) → event_text (in_form v form) e ≡ event_text v e
unfolding event_text
event_form v form e =
    ap (λ (texts : List ℕ). decimal e.pid ++ (codes " " ++ call_name (kind_of e.call) ++ texts) ++ codes " = " ++ res_text e.res)
    (arguments_form v form (arguments_of e.call))

event_line_form : (v : World) (form : LogForm) (e : Placed) → event_line (in_form v form) e.line e.event ≡ event_line v e.line e.event
unfolding event_line
event_line_form v form e = ap (λ (text : List ℕ). decimal e.line ++ codes ": " ++ text) (event_form v form e.event)

-- ---- lines
-- lines of the same text, and then others of the same text
same_lines : (a b c d : List ReportLine) → text_of a ≡ text_of b → text_of c ≡ text_of d → text_of (a ++ c) ≡ text_of (b ++ d)
same_lines a b c d one two =
    text_of_append a c ∙ ap₂ (λ (s t : List ℕ). s ++ t) one two ∙ sym (text_of_append b d)

-- the lines of processes
starts_form : (v : World) (form : LogForm) (ps : List Process) → text_of (map (Credentials v) ps) ≡ text_of (map (Credentials (in_form v form)) ps)
starts_form v form [] = refl
starts_form v form (p ∷ ps) = ap (λ (text : List ℕ). (credential_line v.names p ++ 10 ∷ []) ++ text) (starts_form v form ps)

credentials_form : (v : World) (form : LogForm) (p : Option Process) → text_of (credentials_if v p) ≡ text_of (credentials_if (in_form v form) p)
credentials_form v form None = refl
credentials_form v form (Some p) = refl

child_form : (v : World) (form : LogForm) (s : State) (told : Res) → text_of (child_lines v s told) ≡ text_of (child_lines (in_form v form) s told)
child_form v form s (res.Child pid) = credentials_form v form (process_at s.processes pid)
child_form v form s _ = refl

steps_form : (v : World) (form : LogForm) (s : State) (e : Placed) → text_of (step_lines v s e) ≡ text_of (step_lines (in_form v form) s e)
steps_form v form s e =
    ap₂ (λ (told more : List ℕ). (told ++ 10 ∷ []) ++ more) (sym (event_line_form v form e))
    (same_lines (credentials_if v (process_at s.processes e.event.pid)) (credentials_if (in_form v form) (process_at s.processes e.event.pid))
    (child_lines v s e.event.res) (child_lines (in_form v form) s e.event.res)
    (credentials_form v form (process_at s.processes e.event.pid)) (child_form v form s e.event.res))

-- ---- the replay
-- Reports that are alike so, where each is like itself, and stays so after the lines of a step.
module _ (Same : Report → Report → Type 0) (self : (r : Report) → Same r r) (v : World) (form : LogForm)
    (step : (s : State) (e : Placed) (r q : Report) → Same r q
    → Same (after (step_lines v s e) r) (after (step_lines (in_form v form) s e) q)) where
  goes_same : (s : State) (e : Placed) (r q : Report) → Same r q → (over : Option Limited)
      → Same (unless_exceeded over (after (step_lines v s e) r)) (unless_exceeded over (after (step_lines (in_form v form) s e) q))
  goes_same s e r q is None = step s e r q is
  goes_same s e r q is (Some l) = self (limit_hit l)

  turn_same : (e : Placed) (rest more : State → Report) → ((s : State) → Same (rest s) (more s)) → (o : Outcome)
      → Same (by_outcome v e rest o) (by_outcome (in_form v form) e more o)
  turn_same e rest more is (Goes s) = goes_same s e (rest s) (more s) (is s) (exceeded s)
  turn_same e rest more is NoProcess = self (impossible e.line NoProcess)
  turn_same e rest more is NoSpace = self (impossible e.line NoSpace)
  turn_same e rest more is PidInUse = self (impossible e.line PidInUse)
  turn_same e rest more is (Wrong told) = self (impossible e.line (Wrong told))

  replayed_same : (s : State) (count : ℕ) (es : List Placed) (ending : End)
      → Same (replayed v s count es ending) (replayed (in_form v form) s count es ending)
  replayed_same s count [] ending = self (by_end count ending)
  replayed_same s count (e ∷ es) ending =
      subst (λ (o : Outcome). Same (replayed v s count (e ∷ es) ending)
      (by_outcome (in_form v form) e (λ s'. replayed (in_form v form) s' (count + 1) es ending) o))
      (sym (outcome_form v form s e.event))
      (turn_same e (λ s'. replayed v s' (count + 1) es ending) (λ s'. replayed (in_form v form) s' (count + 1) es ending)
      (λ s'. replayed_same s' (count + 1) es ending) (outcome v s e.event))

same_self : (r : Report) → SameText r r
same_self r = record { status = refl; text = refl }

-- lines of the same text before reports of the same text
same_after : (a b : List ReportLine) (r q : Report) → text_of a ≡ text_of b → SameText r q → SameText (after a r) (after b q)
same_after a b r q lines is = record { status = is.status; text = same_lines a b r.lines q.lines lines is.text }

replayed_form : (v : World) (form : LogForm) (s : State) (count : ℕ) (es : List Placed) (ending : End)
    → SameText (replayed v s count es ending) (replayed (in_form v form) s count es ending)
replayed_form v form =
    replayed_same SameText same_self v form
    (λ s e r q is. same_after (step_lines v s e) (step_lines (in_form v form) s e) r q (steps_form v form s e) is)

-- ---- a replay that isn't shown
-- the reports have the same status, and the same lines of plain text
record SameUnshown (one other : Report) : Type 0 where
  status : one.status ≡ other.status
  lines : plain_lines one.lines ≡ plain_lines other.lines

unshown_form : (v : World) (form : LogForm) (s : State) (count : ℕ) (es : List Placed) (ending : End)
    → SameUnshown (replayed v s count es ending) (replayed (in_form v form) s count es ending)
unshown_form v form =
    replayed_same SameUnshown (λ r. record { status = refl; lines = refl }) v form
    (λ s e r q is. record {
      status = is.status;
      lines = plain_step v s e r.lines ∙ is.lines ∙ sym (plain_step (in_form v form) s e q.lines);
    })

silenced_same : (st : Status) (one other : List ReportLine) → plain_lines one ≡ plain_lines other → silenced st one ≡ silenced st other
silenced_same status.Accepted one other is = refl
silenced_same _ one other is = is

silent_same : (r q : Report) → SameUnshown r q → SameText (silent r) (silent q)
silent_same r q is = record {
  status = is.status;
  text = ap text_of (silenced_same r.status r.lines q.lines is.lines ∙ ap (λ (st : Status). silenced st q.lines) is.status);
}

-- the replay, shown or not
shown_form : (b : Bool) (v : World) (form : LogForm) (reading : Reading) → SameText (shown b v reading) (shown b (in_form v form) reading)
shown_form true v form reading =
    same_after (start_lines v) (start_lines (in_form v form)) (replay_of v reading) (replay_of (in_form v form) reading)
    (starts_form v form v.start.processes) (replayed_form v form v.start 0 reading.events reading.ending)
shown_form false v form reading =
    silent_same (replay_of v reading) (replay_of (in_form v form) reading) (unshown_form v form v.start 0 reading.events reading.ending)

-- ---- what is read of scripts
token_form : (v : World) (form : LogForm) (f : Form) (token : List ℕ) → argument_token (in_form v form) f token ≡ argument_token v f token
token_form v form argument.AnId token = refl
token_form v form _ token = refl

arguments_read : (v : World) (form : LogForm) (pattern : Pattern) (place : ℕ) (tokens : Tokens)
    → arguments_from (in_form v form) pattern place tokens ≡ arguments_from v pattern place tokens
arguments_read v form pattern place [] = refl
arguments_read v form pattern place (token ∷ tokens) =
    ap₂ (λ (one : Option Argument) (rest : Result (List Argument) ℕ). argument_before (place + 1) one rest)
    (token_form v form (form_at pattern place) token) (arguments_read v form pattern (place + 1) tokens)

parts_form : (v : World) (form : LogForm) (pid : ℕ) (kind : CallKind) (parts : Option Parts)
    → parts_line (in_form v form) pid kind parts ≡ parts_line v pid kind parts
parts_form v form pid kind None = refl
parts_form v form pid kind (Some parts) =
    ap (λ (read : Result (List Argument) ℕ). outcome_line pid kind
    (if takes (pattern_of kind) (length parts.arguments) then call_read kind read else Err fault.Count) parts.outcome)
    (arguments_read v form (pattern_of kind) 0 parts.arguments)

kind_form : (v : World) (form : LogForm) (pid : ℕ) (kind : Option CallKind) (tokens : Tokens)
    → kind_line (in_form v form) pid kind tokens ≡ kind_line v pid kind tokens
kind_form v form pid None tokens = refl
kind_form v form pid (Some kind) tokens = parts_form v form pid kind (parts_of tokens)

call_form : (v : World) (form : LogForm) (pid : ℕ) (tokens : Tokens) → call_line (in_form v form) pid tokens ≡ call_line v pid tokens
call_form v form pid [] = refl
call_form v form pid (name ∷ tokens) = kind_form v form pid (kind_named name) tokens

pid_form : (v : World) (form : LogForm) (pid : Option ℕ) (tokens : Tokens) → pid_line (in_form v form) pid tokens ≡ pid_line v pid tokens
pid_form v form None tokens = refl
pid_form v form (Some pid) tokens = call_form v form pid tokens

tokens_form : (v : World) (form : LogForm) (tokens : Tokens) → tokens_line (in_form v form) tokens ≡ tokens_line v tokens
tokens_form v form [] = refl
tokens_form v form (first ∷ tokens) =
    ap (λ (line : Line). if is_comment first then NoEvent else line) (pid_form v form (pid_token first) tokens)

lines_form : (v : World) (form : LogForm) (number : ℕ) (lines : List (List ℕ)) (stop : Option Past)
    → lines_reading (in_form v form) number lines stop ≡ lines_reading v number lines stop
lines_form v form number [] stop = refl
lines_form v form number (line ∷ lines) stop =
    ap₂ (λ (told : Line) (rest : Reading). from_line number told rest) (tokens_form v form (tokens_of line))
    (lines_form v form (number + 1) lines stop)

-- ---- runs that are put forward
confirm_turn : (v : World) (form : LogForm) (before : State) (members : List ℕ) (e : Placed) (rest more : State → Confirmed) → ((s : State) → rest s ≡ more s) → (o : Outcome)
    → confirm.by_outcome (in_form v form) before members e rest o ≡ confirm.by_outcome v before members e more o
confirm_turn v form before members e rest more is (Goes s) =
    ap (λ (r : Confirmed). unless_past (exceeded s) (if is_for_members v before members e.event then r else RefusesLine e.line)) (is s)
confirm_turn v form before members e rest more is _ = refl

confirm_form : (v : World) (form : LogForm) (s : State) (members : List ℕ) (right : Right) (es : List Placed) (ending : End)
    → events_confirm (in_form v form) s members right es ending ≡ events_confirm v s members right es ending
confirm_form v form s members right [] ending = refl
confirm_form v form s members right (e ∷ es) ending =
    let next : List ℕ = members_after members e.event.pid e.event.call e.event.res in
    ap (λ (o : Outcome). confirm.by_outcome (in_form v form) s members e (λ s'. events_confirm (in_form v form) s' next right es ending) o)
    (outcome_form v form s e.event)
    ∙ confirm_turn v form s members e (λ s'. events_confirm (in_form v form) s' next right es ending)
    (λ s'. events_confirm v s' next right es ending) (λ s'. confirm_form v form s' next right es ending) (outcome v s e.event)

-- ---- the answer
runs_form : (v : World) (form : LogForm) (run : List Event)
    → map (λ e. Plain (event_text (in_form v form) e)) run ≡ map (λ e. Plain (event_text v e)) run
runs_form v form [] = refl
runs_form v form (e ∷ run) = ap₂ (λ (text : List ℕ) (more : List ReportLine). Plain text ∷ more) (event_form v form e) (runs_form v form run)

verdict_form : (v : World) (form : LogForm) (spaces : Spaces) (x : told.Told) → verdict_report (in_form v form) spaces x ≡ verdict_report v spaces x
verdict_form v form spaces (TellsNo found) =
    ap (λ (calls : List ReportLine). record {
      status = status.No;
      lines = Plain (at_line (codes "no ") (length found.run)) ∷ calls ++ Plain (at_line (codes "holder ") found.holder) ∷ [];
    }) (runs_form v form found.run)
verdict_form v form spaces _ = refl

certificate_form : (v : World) (form : LogForm) (spaces : Spaces) (x : Checked) (read : Result (List BoxRow) CertFault)
    → certificate_report (in_form v form) spaces x read ≡ certificate_report v spaces x read
certificate_form v form spaces x (Err why) = refl
certificate_form v form spaces (NotStart row) (Ok rows) = refl
certificate_form v form spaces _ (Ok rows) = refl

task_form : (v : World) (form : LogForm) (task : Task) (j : Judged) (s : State) (members : List ℕ) (right : Right)
    → task_report task j (in_form v form) s members right ≡ task_report task j v s members right
task_form v form NoTask j s members right = refl
task_form v form (ToJudge q) j s members right = verdict_form v form s.spaces j.verdict
task_form v form (ToCheck q text) j s members right =
    ap (λ (r : Report). if nat_lt (limit_number limit.Certificate) (length text) then limit_hit limit.Certificate else r)
    (certificate_form v form s.spaces j.checked (certificate (length s.spaces) text))
task_form v form (ToConfirm q text) j s members right =
    ap (λ (x : Confirmed). if nat_lt (limit_number limit.Run) (length text) then limit_hit limit.Run else confirmed_report x)
    (ap (λ (r : Reading). confirm_of (in_form v form) s members right r) (lines_form v form 1 (line_cut text).lines (line_cut text).stop)
    ∙ confirm_form v form s members right (script_reading v text).events (script_reading v text).ending)

right_form : (v : World) (form : LogForm) (task : Task) (j : Judged) (s : State) (p : Process) (right : Right)
    → right_answer task j (in_form v form) s p right ≡ right_answer task j v s p right
right_form v form task j s p right =
    ap (λ (r : Report). if is_over_standing s.spaces right then unless_large (length (family s p.pid)) r else bad_query (codes "space"))
    (task_form v form task j s (family s p.pid) right)

asked_form : (v : World) (form : LogForm) (task : Task) (j : Judged) (s : State) (p : Option Process) (right : Option Right)
    → asked_answer task j (in_form v form) s p right ≡ asked_answer task j v s p right
asked_form v form task j s (Some p) (Some right) = right_form v form task j s p right
asked_form v form task j s _ _ = refl

query_form : (v : World) (form : LogForm) (task : Task) (j : Judged) (s : State) (q : Query)
    → query_answer task j (in_form v form) s q ≡ query_answer task j v s q
query_form v form task j s q = asked_form v form task j s (asked_process s q.pid) (right_token v.names q.right)

answer_form : (v : World) (form : LogForm) (task : Task) (j : Judged) (s : State) → answer task j (in_form v form) s ≡ answer task j v s
answer_form v form NoTask j s = refl
answer_form v form (ToJudge q) j s = query_form v form (ToJudge q) j s q
answer_form v form (ToCheck q text) j s = query_form v form (ToCheck q text) j s q
answer_form v form (ToConfirm q text) j s = query_form v form (ToConfirm q text) j s q

-- ---- what is given
found_form : (v : World) (form : LogForm) (s : State) (members : List ℕ) (right : Right)
    → first_found (permits v.filter) (in_form v form) s members right ≡ first_found (permits v.filter) v s members right
unfolding WalkFindsTheSame walked
found_form v form s members right =
    walk_finds_the_same (permits v.filter) (in_form v form) s members right
    ∙ sym (walk_finds_the_same (permits v.filter) v s members right)

is_verdict_form : (v : World) (form : LogForm) (s : State) (members : List ℕ) (right : Right) (u : Verdict)
    → VerdictIn (in_form v form) s members right u → VerdictIn v s members right u
is_verdict_form v form s members right (No found) is = sym (found_form v form s members right) ∙ is
is_verdict_form v form s members right (Yes bounds) (none, least, apart) = (sym (found_form v form s members right) ∙ none, least, apart)
is_verdict_form v form s members right (Undecided blame below) (none, met, is) = (sym (found_form v form s members right) ∙ none, met, is)

checked_form : (v : World) (form : LogForm) (s : State) (members : List ℕ) (right : Right) (rows : List BoxRow) (x : Checked)
    → IsChecked (in_form v form) s members right rows x → IsChecked v s members right rows x
checked_form v form s members right rows (NotStart row) is = is
checked_form v form s members right rows (NotClosed turn) is = record { covers = is.covers; first = is.first }
checked_form v form s members right rows (MeetsRight row) is = record { encloses = is.encloses; first = is.first }
checked_form v form s members right rows Holds is = record { encloses = is.encloses; apart = is.apart }

within_form : (v : World) (form : LogForm) (s : State) (es : List Event) (s' : State) → RunWithin v s es s' → RunWithin (in_form v form) s es s'
within_form v form s [] s' run = run
within_form v form s (e ∷ es) s' (mid, step, within, run) =
    (mid, outcome_form v form s e ∙ step, within, within_form v form mid es s' run)

asks_form : (v : World) (form : LogForm) (q : Query) (s : State) (p : Process) (right : Right) → AsksVerdict q v s p right
    → AsksVerdict q (in_form v form) s p right
asks_form v form q s p right asked =
    record { asks = record { process = asked.asks.process; asked = asked.asks.asked }; standing = asked.standing; size = asked.size }

state_gives_form : (v : World) (form : LogForm) (task : Task) (s : State) (j : Judged) → StateGives task (in_form v form) s j → StateGives task v s j
state_gives_form v form (ToJudge q) s j gives = λ p right asked.
    let is : IsVerdictOn (in_form v form) s (family s p.pid) right j.verdict = gives p right (asks_form v form q s p right asked) in
    record { verdict = is_verdict_form v form s (family s p.pid) right (verdict_in j.verdict) is.verdict; bounds = is.bounds }
state_gives_form v form (ToCheck q text) s j gives = λ p right rows asked reads.
    checked_form v form s (family s p.pid) right rows j.checked (gives p right rows (asks_form v form q s p right asked) reads)
state_gives_form v form _ s j gives = tt

-- what a log gives in a world that declares another form, it gives
pub gives_form : (v : World) (form : LogForm) (task : Task) (reading : Reading) (j : Judged)
    → LogGives task (in_form v form) reading j → LogGives task v reading j
gives_form v form task reading j gives = λ s ending run.
    state_gives_form v form task s j (gives s ending (within_form v form v.start (events_of reading.events) s run))

-- ---- the report
goes_on : (st : Status) (r q next : Report) → SameText r q → SameText (go_on st r next) (go_on st q next)
goes_on status.Accepted r q next is = same_after r.lines q.lines next next is.text (same_self next)
goes_on _ r q next is = is

-- the report of a reading has the same text, whatever form of log the world declares
pub same_text : (task : Task) (j : Judged) (v : World) (form : LogForm) (reading : Reading)
    → SameText (log_report task j v reading) (log_report task j (record v { form = form }) reading)
same_text task j v form reading =
    let one : Report = shown (shows task) v reading in
    let two : Report = shown (shows task) (in_form v form) reading in
    let is : SameText one two = shown_form (shows task) v form reading in
    let es : List Event = events_of reading.events in
    let next : Report = answer task j v (state_after v v.start es) in
    let next_is : answer task j (in_form v form) (state_after (in_form v form) v.start es) ≡ next
    = ap (λ (s : State). answer task j (in_form v form) s) (state_form v form v.start es) ∙ answer_form v form task j (state_after v v.start es) in
    subst (λ (st : Status). SameText (go_on one.status one next) (go_on st two (answer task j (in_form v form) (state_after (in_form v form) v.start es))))
    is.status
    (subst (λ (n : Report). SameText (go_on one.status one next) (go_on one.status two n)) (sym next_is) (goes_on one.status one two next is))
