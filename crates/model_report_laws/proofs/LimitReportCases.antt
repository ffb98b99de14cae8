-- Worked cases, by computation, of the lines that tell a limit: their words, and that a limit is hit by one past its number
-- (choice).
use Rattle.std.proofs.Common.{◌≡◌, ℕ, zero, suc, ◌+◌, ◌-◌, min, List, [], ◌∷◌, ◌++◌, cond, length, map, nat_lt}
use Rattle.std.proofs.Common.{None, Some, refl, sym, ◌∙◌, ap, subst, arith}
use Rattle.std.specs.Prelude.{codes}
use Rattle.cm_base.specs.declared.limited.Limited.TheVariants as limit
use Rattle.cm_base.specs.declared.status.Status.TheVariants as status
use Rattle.cm_base.specs.Limited.{limit_number}
use Rattle.cm_lines.specs.Cut.{Cut, cut_by, cut_lines, ends_by, past_of}
use Rattle.cm_lines.specs.Lines.{lines_of}
use Rattle.cm_lines.specs.declared.limits.Past.TheVariants.{Line as PastLine, Whole}
use Rattle.model_cred.specs.Process.{State}
use Rattle.model_cred.specs.Space.{Spaces, first_spaces}
use Rattle.model_cred.specs.World.{World, Script}
use Rattle.model_report_laws.proofs.CaseReports.{AllSay, Replays, Says, TextReplays, none_judged, root_line, user_line, user_ids, of_100}
use Rattle.model_report_laws.proofs.CaseReports.{line_of, all_sets, world_of_100}
use Rattle.model_report.specs.Judged.{Judged}
use Rattle.model_report.specs.Replay.{Report, after, by_outcome, limit_hit, step_lines, unless_exceeded}
use Rattle.model_report.specs.Task.{Task, NoTask, ToCheck}
use Rattle.model_report.specs.Report.{by_world, files_report, log_report}
use Rattle.model_run.proofs.Worlds.{new_space}
use Rattle.model_run.specs.Step.{Goes}
use Rattle.model_text.proofs.LimitCases.{with_rows}
use Rattle.model_text.proofs.PrintCases.{print_on_literals, process_100}
use Rattle.model_text.proofs.WorldCases.{world_on_literals, world_with}
use Rattle.model_text.specs.Line.{Line, NoEvent, script_line}
use Rattle.model_text.specs.Reading.{Placed, AtEnd, ends_at, from_line, log_cut}
use Rattle.model_strace.specs.Logs.{form_of_cut}
use Rattle.model_text.specs.WorldText.{table_world, text_as, world_text}

pub each_limit_has_its_words : AllSay
    (map limit_hit (limit.World ∷ limit.Log ∷ limit.Line ∷ limit.Processes ∷ limit.Spaces ∷ limit.Mounts ∷ limit.Files
    ∷ limit.Groups ∷ limit.Family ∷ []))
    status.Limit
    ((codes "limit world 1048576" ∷ []) ∷ (codes "limit log 1099511627776" ∷ []) ∷ (codes "limit line 1048576" ∷ [])
    ∷ (codes "limit processes 4096" ∷ [])
    ∷ (codes "limit spaces 256" ∷ []) ∷ (codes "limit mounts 64" ∷ []) ∷ (codes "limit files 4096" ∷ [])
    ∷ (codes "limit groups 1024" ∷ []) ∷ (codes "limit family 256" ∷ []) ∷ [])
unfolding print_on_literals
each_limit_has_its_words = record { statuses = refl; texts = refl }

-- ---- sizes of texts
-- a world of as many bytes is read, whatever they are; one of a byte more isn't
by_size : (task : Task) (j : Judged) (world log : List ℕ) (size : ℕ) → length world ≡ size
    → files_report task j world log ≡ cond (nat_lt (limit_number limit.World) size) (limit_hit limit.World)
    (by_world task j (world_text world) log)
by_size task j world log size long =
    ap (λ (n : ℕ). cond (nat_lt (limit_number limit.World) n) (limit_hit limit.World) (by_world task j (world_text world) log)) long

pub a_world_of_as_many_bytes_is_read : (task : Task) (j : Judged) (world log : List ℕ) → length world ≡ 1048576
    → files_report task j world log ≡ by_world task j (world_text world) log
a_world_of_as_many_bytes_is_read task j world log long = by_size task j world log 1048576 long

pub a_world_of_one_byte_more_is_not : (task : Task) (j : Judged) (world log : List ℕ) → length world ≡ 1048577
    → files_report task j world log ≡ limit_hit limit.World
a_world_of_one_byte_more_is_not task j world log long = by_size task j world log 1048577 long

-- ---- the limits of a log
-- what is said of a log of which this comes, in the world of root
abbrev cut_replay : Task → Cut → Report
cut_replay task cut = log_report task none_judged (world_of_100 0) (form_of_cut Script (world_of_100 0) cut)

-- what is told of one event
abbrev one_event : List (List ℕ)
one_event = root_line ∷ codes "1: 100 setuid 0 = 0" ∷ root_line ∷ []

-- a log whose second line is this
abbrev with_line : List ℕ → List ℕ
with_line line = codes "100 setuid 0 = 0\n" ++ line

-- what comes of it, where the line has so many bytes and no LF
with_line_cut : (line : List ℕ) (size : ℕ) → lines_of line ≡ line ∷ [] → length line ≡ size → (whole : ℕ) → length (with_line line) ≡ whole
    → log_cut (with_line line) ≡ cut_by (past_of 1048576 1099511627776 0 16 (min 17 (whole - 0))) (codes "100 setuid 0 = 0")
    (cut_by (past_of 1048576 1099511627776 17 size (min (size + 1) (whole - 17))) line (ends_by None))
with_line_cut line size one long whole all =
    ap (λ (ls : List (List ℕ)). cut_lines 1048576 1099511627776 (length (with_line line)) 0 (codes "100 setuid 0 = 0" ∷ ls)) one
    ∙ ap (λ (n : ℕ). cut_lines 1048576 1099511627776 n 0 (codes "100 setuid 0 = 0" ∷ line ∷ [])) all
    ∙ ap (λ (n : ℕ). cut_by (past_of 1048576 1099511627776 0 16 (min 17 (whole - 0))) (codes "100 setuid 0 = 0")
    (cut_by (past_of 1048576 1099511627776 17 n (min (n + 1) (whole - 17))) line (ends_by None))) long

-- a line of as many bytes as lines may have is read; here it tells nothing, as one of `;` alone
pub a_line_of_as_many_bytes_is_read : (line : List ℕ) → lines_of line ≡ line ∷ [] → length line ≡ 1048576
    → script_line (world_of_100 0) line ≡ NoEvent
    → Replays (world_of_100 0) (with_line line) status.Accepted (one_event ++ codes "end 1" ∷ [])
unfolding print_on_literals
a_line_of_as_many_bytes_is_read line one long silent =
    let all : length (with_line line) ≡ 1048593 = omega (arith, long) in
    subst (λ (cut : Cut). Says (cut_replay NoTask cut) status.Accepted (one_event ++ codes "end 1" ∷ []))
    (sym (with_line_cut line 1048576 one long 1048593 all))
    (subst (λ (told : Line). Says (log_report NoTask none_judged (world_of_100 0)
    (from_line 1 (script_line (world_of_100 0) (codes "100 setuid 0 = 0")) (from_line 2 told (ends_at AtEnd)))) status.Accepted
    (one_event ++ codes "end 1" ∷ []))
    (sym silent) (record { status = refl; text = refl }))

-- one of a byte more, whatever it is, is past their limit, which is told in its place: after the lines at the start, and those of
-- the events before
pub a_line_of_one_byte_more_is_not : (line : List ℕ) → lines_of line ≡ line ∷ [] → length line ≡ 1048577
    → Replays (world_of_100 0) (with_line line) status.Limit (one_event ++ codes "limit line 1048576" ∷ [])
unfolding print_on_literals
a_line_of_one_byte_more_is_not line one long =
    let all : length (with_line line) ≡ 1048594 = omega (arith, long) in
    subst (λ (cut : Cut). Says (cut_replay NoTask cut) status.Limit (one_event ++ codes "limit line 1048576" ∷ []))
    (sym (with_line_cut line 1048577 one long 1048594 all)) (record { status = refl; text = refl })

pub limits_of_logs : record {
  -- so is that of a log's bytes; here by the line that comes, and that the next one is past the limit
  a_log_of_too_many_bytes : Says
      (cut_replay NoTask (record { lines = codes "100 setuid 0 = 0" ∷ []; stop = Some Whole })) status.Limit
      (one_event ++ codes "limit log 1099511627776" ∷ []);
  -- a line with a fault, and an event that is no step, come before a limit behind them
  a_fault_before_the_limit : Says
      (cut_replay NoTask (record { lines = codes "100 setuid 0 = 0" ∷ codes "x" ∷ []; stop = Some PastLine }))
      status.BadLog (one_event ++ codes "bad log line 2: pid" ∷ []);
  an_impossible_line_before_the_limit : Says
      (cut_replay NoTask (record { lines = codes "100 setuid 0 = EPERM" ∷ []; stop = Some Whole })) status.Impossible
      (root_line ∷ codes "impossible line 1: the rules give 0" ∷ []);
  -- where the replay isn't shown, the limit alone is told, and not a word of the query
  a_limit_of_a_log_that_is_not_shown : Says
      (cut_replay (ToCheck (record { pid = codes "x"; right = codes "x" }) []) (record { lines = codes "100 setuid 0 = 0" ∷ []; stop = Some PastLine }))
      status.Limit (codes "limit line 1048576" ∷ []);
}
unfolding print_on_literals
limits_of_logs = search

-- ---- rows of worlds
-- so many times this text
abbrev times : ℕ → List ℕ → List ℕ
times zero text = []
times (suc n) text = text ++ times n text

-- a world with so many rows that lack a key: the count comes before their faults
abbrev rows : ℕ → List ℕ → List ℕ
rows n head = codes "log = \"script\"\n" ++ times n head

pub counts_of_rows : record {
  mounts_as_many_as_the_limit : TextReplays (rows 63 (codes "[[mount]]\n")) [] status.BadWorld
      (codes "bad world mount 1: MissingKey" ∷ []);
  one_mount_more : TextReplays (rows 64 (codes "[[mount]]\n")) [] status.Limit (codes "limit mounts 64" ∷ []);
  spaces_more_than_the_limit : TextReplays (rows 256 (codes "[[space]]\n")) [] status.Limit
      (codes "limit spaces 256" ∷ []);
}
unfolding print_on_literals world_on_literals
counts_of_rows = search

pub files_and_processes_more_than_the_limit : AllSay
    (map (λ key. by_world NoTask none_judged (text_as (table_world (with_rows key 4097))) []) (codes "file" ∷ codes "process" ∷ []))
    status.Limit
    ((codes "limit files 4096" ∷ []) ∷ (codes "limit processes 4096" ∷ []) ∷ [])
unfolding print_on_literals
files_and_processes_more_than_the_limit = record { statuses = refl; texts = refl }

pub order_of_tables : record {
  -- an earlier table's fault comes before a later table's count, and the other way
  a_fault_before_a_limit : TextReplays (rows 64 (codes "[[mount]]\n") ++ codes "[[space]]\n") [] status.BadWorld
      (codes "bad world space 1: MissingKey" ∷ []);
  a_limit_before_a_fault : TextReplays (rows 64 (codes "[[mount]]\n") ++ codes "[[process]]\n") [] status.Limit
      (codes "limit mounts 64" ∷ []);
}
unfolding print_on_literals world_on_literals
order_of_tables = search

-- ---- groups
-- a call with one group, so many times
abbrev groups_of : ℕ → List ℕ
groups_of n = codes "100 setgroups" ++ times n (codes " 7")

pub groups_as_many_as_the_limit : Replays (world_of_100 0) (groups_of 1024 ++ codes " = 0\n") status.Accepted
    (root_line ∷ (codes "1: " ++ groups_of 1024 ++ codes " = 0")
    ∷ of_100 (codes " uid=0,0,0,0 gid=0,0,0,0 groups=7") all_sets ∷ codes "end 1" ∷ [])
unfolding print_on_literals
groups_as_many_as_the_limit = record { status = refl; text = refl }

pub one_group_more : Replays (world_of_100 0) (groups_of 1025 ++ codes " = 0\n") status.Limit
    (root_line ∷ codes "limit groups 1024" ∷ [])
unfolding print_on_literals
one_group_more = record { status = refl; text = refl }

-- the faults of its line come first
pub a_fault_of_many_groups : Replays (world_of_100 0) (groups_of 1025 ++ codes " x = 0\n") status.BadLog
    (root_line ∷ codes "bad log line 1: argument 1026" ∷ [])
unfolding print_on_literals
a_fault_of_many_groups = record { status = refl; text = refl }

-- ---- processes and spaces of a state
-- so many spaces beside one another, and user 1000 in the initial one
abbrev beside : ℕ → Spaces
beside zero = first_spaces
beside (suc n) = new_space 0 1000 ∷ beside n

abbrev user_beside : ℕ → World
user_beside n = record (world_with []) { start = record { processes = process_100 1000 ∷ []; spaces = beside n } }

pub counts_of_spaces : record {
  the_last_space_is_made : Replays (user_beside 254) (codes "100 unshare = 0\n") status.Accepted
      (user_line ∷ codes "1: 100 unshare = 0" ∷ line_of (codes "100") (codes "#255") user_ids all_sets
      ∷ codes "end 1" ∷ []);
  one_space_more : Replays (user_beside 255) (codes "100 unshare = 0\n") status.Limit
      (user_line ∷ codes "limit spaces 256" ∷ []);
  -- an event that is no step is told and not the limit
  no_step_comes_first : Replays (user_beside 255) (codes "100 unshare = EPERM\n") status.Impossible
      (user_line ∷ codes "impossible line 1: the rules give 0" ∷ []);
}
unfolding print_on_literals
counts_of_spaces = search

-- a step to a state with one process more than the limit isn't taken
pub one_process_more : (w : World) (e : Placed) (rest : State → Report) (s : State) → length s.processes ≡ 4097
    → by_outcome w e rest (Goes s) ≡ limit_hit limit.Processes
one_process_more w e rest s many =
    ap (λ (n : ℕ). unless_exceeded
    (cond (nat_lt (limit_number limit.Processes) n) (Some limit.Processes)
    (cond (nat_lt (limit_number limit.Spaces) (length s.spaces)) (Some limit.Spaces) None))
    (after (step_lines w s e) (rest s))) many
