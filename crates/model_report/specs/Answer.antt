-- The answer to what is asked, in the state after an accepted log: why the query is refused, or what its verdict says, what
-- the rows of a certificate are found to be, or what a run comes to.
use Rattle.std.specs.Prelude.{ℕ, codes, Bool, true, nat_lt, length, List, [], ◌∷◌, ◌++◌, map, Option, Some, None, if◌then◌else◌}
use Rattle.std.specs.Prelude.{Result, Ok, Err, option_map}
use Rattle.cm_base.specs.declared.limited.Limited.TheVariants as limit
use Rattle.cm_base.specs.declared.status.Status.TheVariants as status
use Rattle.cm_base.specs.Limited.{limit_number}
use Rattle.model_box.specs.Bounds.{BoxRow}
use Rattle.model_box.specs.Row.{Row, Standing, Fresh, row_at, space_under}
use Rattle.model_box.specs.RuleNames.{rule_name}
use Rattle.model_cert.specs.Document.{certificate}
use Rattle.model_cert.specs.Fault.{CertFault, Json, Shape, Order}
use Rattle.model_cert.specs.Written.{certificate_text}
use Rattle.model_confirm.specs.Confirm.{Confirmed, Confirms, RefusesLine, RefusesEnd, PastLimit, confirm_of}
use Rattle.model_cred.specs.Call.{Event}
use Rattle.model_cred.specs.Process.{Process, State}
use Rattle.model_cred.specs.Right.{Right, Cap, Uid, Gid}
use Rattle.model_cred.specs.Space.{Spaces, stands}
use Rattle.model_cred.specs.World.{World}
use Rattle.model_plans.specs.PlanRun.{Found}
use Rattle.model_report.specs.Checked.{Checked, NotStart, NotClosed, MeetsRight, Holds}
use Rattle.model_report.specs.Judged.{Judged}
use Rattle.model_report.specs.Query.{Query, asked_process, right_token}
use Rattle.model_report.specs.Replay.{ReportLine, Plain, Report, says, at_line, limit_hit}
use Rattle.model_report.specs.Task.{Task, NoTask, ToJudge, ToCheck, ToConfirm}
use Rattle.model_report.specs.Told.{Told, TellsNo, TellsYes, TellsUndecided}
use Rattle.model_run.specs.Family.{family}
use Rattle.model_text.specs.Print.{event_text}
use Rattle.model_text.specs.Reading.{script_reading}
use Rattle.model_text.specs.SpaceToken.{space_token}
use Rattle.model_verdict.specs.Blame.{Blame, AtStart, ByTurn}

-- ---- words
-- The token of a row: that of its space; for the fresh row `fresh(` and `)` around it. `names` are those of the
-- declared spaces.
abbrev pub row_token : List (List ℕ) → Row → List ℕ
row_token names (Standing n) = space_token names n
row_token names (Fresh n) = codes "fresh(" ++ space_token names n ++ codes ")"

-- what tells a row: its token; `document` where there is none, or its space doesn't stand
abbrev pub row_text : List (List ℕ) → Spaces → Option Row → List ℕ
row_text names spaces None = codes "document"
row_text names spaces (Some row) = if stands spaces (space_under row) then row_token names row else codes "document"

-- what tells the rule that is blamed: its name, or `start`
abbrev pub blamed_rule : Blame → List ℕ
blamed_rule (AtStart row) = codes "start"
blamed_rule (ByTurn turn) = rule_name turn.rule

-- the row of what is blamed
abbrev pub blamed_row : Blame → Row
blamed_row (AtStart row) = row
blamed_row (ByTurn turn) = turn.row

-- the line of what is blamed
abbrev pub undecided_text : List (List ℕ) → Spaces → Blame → List ℕ
undecided_text names spaces blame =
    codes "undecided " ++ blamed_rule blame ++ codes " " ++ row_text names spaces (Some (blamed_row blame))

-- ---- verdicts
-- events, each as a script line
abbrev pub event_lines : World → List Event → List ReportLine
event_lines w events = map (λ e. Plain (event_text w e)) events

-- the lines of a run after which a member holds the right: how many calls, the calls, and the holder
abbrev pub run_lines : World → Found → List ReportLine
run_lines w found =
    Plain (at_line (codes "no ") (length found.run))
    ∷ event_lines w found.run ++ Plain (at_line (codes "holder ") found.holder) ∷ []

-- the certificate of rows, on a line of its own
abbrev pub certificate_line : List BoxRow → ReportLine
certificate_line rows = Plain (certificate_text rows)

-- what a verdict says, the spaces being those of the state
abbrev pub verdict_report : World → Spaces → Told → Report
verdict_report w spaces (TellsNo found) = record { status = status.No; lines = run_lines w found }
verdict_report w spaces (TellsYes rows) =
    record { status = status.Accepted; lines = Plain (codes "yes") ∷ certificate_line rows ∷ [] }
verdict_report w spaces (TellsUndecided blame rows) =
    record { status = status.Undecided; lines = Plain (undecided_text w.names spaces blame) ∷ certificate_line rows ∷ [] }

-- ---- certificates and runs
-- a certificate or a run is refused, for this reason
abbrev pub refused : List ℕ → Report
refused why = says status.Refused (codes "refused " ++ why)

-- why a certificate isn't read, in words
abbrev pub fault_words : List (List ℕ) → Spaces → CertFault → List ℕ
fault_words names spaces Json = codes "json"
fault_words names spaces (Shape y) = codes "shape " ++ row_text names spaces (option_map row_at y)
fault_words names spaces (Order y) = codes "order " ++ row_text names spaces (Some (row_at y))

-- what the rows of a certificate are found to be
abbrev pub checked_report : World → Spaces → Checked → Report
checked_report w spaces (NotStart row) = refused (codes "not-start " ++ row_text w.names spaces (Some row))
checked_report w spaces (NotClosed turn) =
    refused (codes "not-closed " ++ rule_name turn.rule ++ codes " " ++ row_text w.names spaces (Some turn.row))
checked_report w spaces (MeetsRight row) = refused (codes "meets " ++ row_text w.names spaces (Some row))
checked_report w spaces Holds = says status.Accepted (codes "holds")

-- what a certificate comes to that reads so, where its rows are found to be this
abbrev pub certificate_report : World → Spaces → Checked → Result (List BoxRow) CertFault → Report
certificate_report w spaces checked (Err why) = refused (fault_words w.names spaces why)
certificate_report w spaces checked (Ok rows) = checked_report w spaces checked

-- what a run comes to
abbrev pub confirmed_report : Confirmed → Report
confirmed_report (Confirms pid) = says status.Accepted (at_line (codes "confirmed ") pid)
confirmed_report (RefusesLine number) = refused (at_line (codes "line ") number)
confirmed_report RefusesEnd = refused (codes "end")
confirmed_report (PastLimit l) = limit_hit l

-- where nothing is asked, nothing is answered
abbrev pub nothing_more : Report
nothing_more = record { status = status.Accepted; lines = [] }

-- The answer for a family and a right: a verdict; what a certificate comes to, or a run, within the limit of its size.
abbrev pub task_report : Task → Judged → World → State → List ℕ → Right → Report
task_report NoTask j w s members right = nothing_more
task_report (ToJudge q) j w s members right = verdict_report w s.spaces j.verdict
task_report (ToCheck q text) j w s members right =
    if nat_lt (limit_number limit.Certificate) (length text) then limit_hit limit.Certificate
    else certificate_report w s.spaces j.checked (certificate (length s.spaces) text)
task_report (ToConfirm q text) j w s members right =
    if nat_lt (limit_number limit.Run) (length text) then limit_hit limit.Run
    else confirmed_report (confirm_of w s members right (script_reading w text))

-- ---- the query
-- a query that names no live process, no right, or a space that doesn't stand
abbrev pub bad_query : List ℕ → Report
bad_query word = says status.BadQuery (codes "bad query: " ++ word)

-- the space that the right names, where it names one, stands
abbrev pub is_over_standing : Spaces → Right → Bool
is_over_standing spaces (Cap cap n) = stands spaces n
is_over_standing spaces (Uid id) = true
is_over_standing spaces (Gid id) = true

-- the rest, unless a family of so many members exceeds the limit
abbrev pub unless_large : ℕ → Report → Report
unless_large size rest = if nat_lt (limit_number limit.Family) size then limit_hit limit.Family else rest

-- The answer about a right of the family of a process, where the right's space stands and the family isn't too large.
abbrev pub right_answer : Task → Judged → World → State → Process → Right → Report
right_answer task j w s p right =
    if is_over_standing s.spaces right then unless_large (length (family s p.pid)) (task_report task j w s (family s p.pid) right)
    else bad_query (codes "space")

-- first the process is looked for, and then the right
abbrev pub asked_answer : Task → Judged → World → State → Option Process → Option Right → Report
asked_answer task j w s None right = bad_query (codes "pid")
asked_answer task j w s (Some p) None = bad_query (codes "right")
asked_answer task j w s (Some p) (Some right) = right_answer task j w s p right

-- the answer to a query
abbrev pub query_answer : Task → Judged → World → State → Query → Report
query_answer task j w s q = asked_answer task j w s (asked_process s q.pid) (right_token w.names q.right)

-- The answer to what is asked in a state, with what is judged where the query isn't refused.
abbrev pub answer : Task → Judged → World → State → Report
answer NoTask j w s = nothing_more
answer (ToJudge q) j w s = query_answer (ToJudge q) j w s q
answer (ToCheck q text) j w s = query_answer (ToCheck q text) j w s q
answer (ToConfirm q text) j w s = query_answer (ToConfirm q text) j w s q
