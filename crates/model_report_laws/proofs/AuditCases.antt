-- Worked cases, by computation, of answers to audits: from the words and the bytes of the files, and a verdict, to the text;
-- and what is found in the state after a log.
use Rattle.std.proofs.Common.{◌≡◌, ℕ, true, List, [], ◌∷◌, ◌++◌, length, map, Option, Some, None, ap, cond, nat_lt}
use Rattle.std.specs.Prelude.{codes}
use Rattle.cm_base.specs.declared.limited.Limited.TheVariants as limit
use Rattle.cm_base.specs.declared.res.Res.TheVariants.{Done}
use Rattle.cm_base.specs.declared.status.Status.{Status}
use Rattle.cm_base.specs.declared.status.Status.TheVariants as status
use Rattle.cm_base.specs.CapSet.{full, none}
use Rattle.cm_base.specs.Limited.{limit_number}
use Rattle.model_box.specs.Row.{Row, Standing, Fresh}
use Rattle.model_box.specs.Rule.{ExecUid, Maps, rules_in_order}
use Rattle.model_box.specs.RuleNames.{rule_name}
use Rattle.cm_filter.specs.Filters.{permits}
use Rattle.model_cred.specs.Call.{Call, Event, CapSet, SetResUid}
use Rattle.model_cred.specs.Process.{Process, State}
use Rattle.model_cred.specs.Right.{Right, Cap, Uid}
use Rattle.model_cred.specs.Space.{Spaces, first_spaces}
use Rattle.model_cred.specs.World.{World}
use Rattle.model_plans.specs.PlanRun.{Found, first_found}
use Rattle.model_report_laws.proofs.CaseReports.{Says, RowAudits, files, audit_words, root_line, user_line, ids_of, of_100}
use Rattle.model_report_laws.proofs.CaseReports.{judged, all, none as no_caps, no_flags, sets_of, world_of_100}
use Rattle.model_cert.specs.Written.{certificate_text}
use Rattle.model_box.specs.Bounds.{BoxRow, no_row}
use Rattle.model_cred.specs.Intervals.{Interval}
use Rattle.model_report.specs.Answer.{right_answer, row_text, task_report, undecided_text, unless_large}
use Rattle.model_report.specs.Judged.{Judged}
use Rattle.model_report.specs.Task.{Task}
use Rattle.model_report.specs.Told.{Told, TellsNo, TellsYes, TellsUndecided}
use Rattle.model_report.specs.Replay.{Report, limit_hit, state_after}
use Rattle.model_report.specs.Report.{report}
use Rattle.model_run.proofs.Worlds.{new_space}
use Rattle.model_run.specs.Family.{family}
use Rattle.model_rules.specs.SetId.{minus_one}
use Rattle.model_text.proofs.PrintCases.{print_on_literals}
use Rattle.model_text.proofs.ProcessCases.{of_row}
use Rattle.model_text.proofs.WorldCases.{world_on_literals}
use Rattle.model_text.specs.Reading.{events_of, script_reading}
use Rattle.model_verdict.specs.Blame.{AtStart, ByTurn}

-- ---- words
-- three spaces: the initial one, one that is declared as `box`, and one that a call made
abbrev three : Spaces
three = new_space 0 1000 ∷ new_space 0 1000 ∷ first_spaces

-- what tells a row among them
abbrev told : Option Row → List ℕ
told row = row_text (codes "box" ∷ []) three row

pub told_words : record {
  each_rule_has_its_name : map rule_name rules_in_order
      ≡ codes "setuid" ∷ codes "setfsuid" ∷ codes "setgid" ∷ codes "setfsgid" ∷ codes "setgroups" ∷ codes "capset"
      ∷ codes "securebits" ∷ codes "exec_uid" ∷ codes "exec_gid" ∷ codes "exec_caps" ∷ codes "exec_root"
      ∷ codes "create" ∷ codes "join" ∷ codes "maps" ∷ [];
  rows_are_told_by_their_spaces : map told
      (Some (Standing 0) ∷ Some (Fresh 0) ∷ Some (Standing 1) ∷ Some (Fresh 1) ∷ Some (Standing 2)
      ∷ Some (Fresh 2) ∷ [])
      ≡ codes "init" ∷ codes "fresh(init)" ∷ codes "box" ∷ codes "fresh(box)" ∷ codes "#2" ∷ codes "fresh(#2)" ∷ [];
  no_row_is_told_so : map told (None ∷ Some (Standing 3) ∷ Some (Fresh 3) ∷ [])
      ≡ codes "document" ∷ codes "document" ∷ codes "document" ∷ [];
  what_is_blamed_is_told : map (undecided_text (codes "box" ∷ []) three)
      (AtStart (Standing 1) ∷ ByTurn (record { rule = ExecUid; row = Standing 0 })
      ∷ ByTurn (record { rule = Maps; row = Fresh 2 }) ∷ [])
      ≡ codes "undecided start box" ∷ codes "undecided exec_uid init" ∷ codes "undecided maps fresh(#2)" ∷ [];
}
unfolding print_on_literals
told_words = search

-- ---- verdicts
-- a call of process 100 that is done
abbrev done : Call → Event
done call = record { pid = 100; call = call; res = Done }

-- what root that made 1000 its effective id, and kept 0 as its real and saved one, does to hold each user id
abbrev raises_and_becomes_7 : Found
raises_and_becomes_7 = record { run = done (CapSet full full none) ∷ done (SetResUid minus_one 7 minus_one) ∷ []; holder = 100 }

abbrev raises : Found
raises = record { run = done (CapSet full full none) ∷ []; holder = 100 }

abbrev steps_down : List ℕ
steps_down = codes "100 setresuid -1 1000 -1 = 0\n"

-- the lines of its replay
abbrev stepped_down : List (List ℕ)
stepped_down =
    root_line ∷ codes "1: 100 setresuid -1 1000 -1 = 0"
    ∷ of_100 (ids_of (codes "0,1000,0,1000")) (sets_of no_caps all no_caps all no_caps no_flags) ∷ codes "end 1" ∷ []

-- a process whose ids are all 1000, without groups, capabilities and with no_new_privs, in the initial space: what it has, and
-- what that space maps, row by row
abbrev pub one_id : ℕ → List Interval
one_id n = record { first = n; last = n } ∷ []

abbrev pub plain_rows : List BoxRow
plain_rows =
    record {
      uids = one_id 1000;
      effective_uids = one_id 1000;
      fs_uids = one_id 1000;
      gids = one_id 1000;
      effective_gids = one_id 1000;
      fs_gids = one_id 1000;
      groups = [];
      mapped_uids = record { first = 0; last = 4294967294 } ∷ [];
      mapped_gids = record { first = 0; last = 4294967294 } ∷ [];
      permitted = 0;
      inheritable = 0;
      bounding = 0;
      no_new_privs = true;
      root_counts = true;
      lock_clear = true;
    }
    ∷ no_row ∷ []

-- the line of their certificate
abbrev pub plain_certificate : List ℕ
plain_certificate = certificate_text plain_rows

-- what is found in the state after a log
abbrev found_after : List ℕ → Right → Option Found
found_after log right =
    let w : World = world_of_100 0 in
    let s : State = state_after w w.start (events_of (script_reading w log).events) in
    first_found (permits w.filter) w s (family s 100) right

pub verdicts : record {
  root_that_stepped_down_takes_each_user_id : RowAudits [] steps_down (codes "uid:7") (TellsNo raises_and_becomes_7)
      status.No
      (stepped_down ++ codes "no 2" ∷ codes "100 capset 000001ffffffffff 000001ffffffffff 0000000000000000 = 0"
      ∷ codes "100 setresuid -1 7 -1 = 0" ∷ codes "holder 100" ∷ []);
  its_capabilities_come_back : RowAudits [] steps_down (codes "cap:CAP_SYS_ADMIN@init") (TellsNo raises) status.No
      (stepped_down ++ codes "no 1" ∷ codes "100 capset 000001ffffffffff 000001ffffffffff 0000000000000000 = 0"
      ∷ codes "holder 100" ∷ []);
  -- who holds the right already needs no call
  a_right_that_is_held : RowAudits [] [] (codes "uid:0") (TellsNo (record { run = []; holder = 100 })) status.No
      (root_line ∷ codes "end 0" ∷ codes "no 0" ∷ codes "holder 100" ∷ []);
  bounds_that_exclude_the_right : RowAudits (codes "uid = 1000\n") (codes "100 setresuid 0 0 0 = EPERM\n")
      (codes "uid:0") (TellsYes plain_rows) status.Accepted
      (user_line ∷ codes "1: 100 setresuid 0 0 0 = EPERM" ∷ user_line ∷ codes "end 1" ∷ codes "yes"
      ∷ plain_certificate ∷ []);
  a_right_in_the_gap : RowAudits (codes "uid = 1000\n") [] (codes "uid:0")
      (TellsUndecided (ByTurn (record { rule = ExecUid; row = Standing 0 })) plain_rows) status.Undecided
      (user_line ∷ codes "end 0" ∷ codes "undecided exec_uid init" ∷ plain_certificate ∷ []);
}
unfolding print_on_literals world_on_literals
verdicts = search

pub found_runs : record {
  -- the runs are those that are found in the state after the log
  the_run_to_user_id_7_is_found : found_after steps_down (Uid 7) ≡ Some raises_and_becomes_7;
  the_run_to_all_capabilities_is_found : found_after steps_down (Cap 21 0) ≡ Some raises;
  it_is_found : found_after [] (Uid 0) ≡ Some (record { run = []; holder = 100 });
}
unfolding first_found
found_runs = search

-- ---- queries that are refused, whatever the verdict
-- an audit of root's process
abbrev AuditsRoot : List ℕ → List ℕ → List ℕ → Told → Status → List (List ℕ) → Type 0
AuditsRoot log pid right x st lines = Says (report (audit_words pid right) (files (of_row []) log) (judged x)) st lines

pub refused_queries : record {
  pid_of_no_process : (x : Told) → AuditsRoot [] (codes "101") (codes "uid:0") x status.BadQuery
      (root_line ∷ codes "end 0" ∷ codes "bad query: pid" ∷ []);
  pid_of_one_that_exited : (x : Told) → AuditsRoot (codes "100 exit = 0\n") (codes "100") (codes "uid:0") x
      status.BadQuery (root_line ∷ codes "1: 100 exit = 0" ∷ codes "end 1" ∷ codes "bad query: pid" ∷ []);
  the_pid_is_looked_at_first : (x : Told) → AuditsRoot [] (codes "101") (codes "uid:x") x status.BadQuery
      (root_line ∷ codes "end 0" ∷ codes "bad query: pid" ∷ []);
  text_of_no_right : (x : Told) → AuditsRoot [] (codes "100") (codes "uid:x") x status.BadQuery
      (root_line ∷ codes "end 0" ∷ codes "bad query: right" ∷ []);
  -- a name that no space has makes the text no right
  capability_over_no_name : (x : Told) → AuditsRoot [] (codes "100") (codes "cap:CAP_KILL@child") x status.BadQuery
      (root_line ∷ codes "end 0" ∷ codes "bad query: right" ∷ []);
  -- a number that none has names a space that doesn't stand
  capability_over_no_space : (x : Told) → AuditsRoot [] (codes "100") (codes "cap:CAP_KILL@#5") x status.BadQuery
      (root_line ∷ codes "end 0" ∷ codes "bad query: space" ∷ []);
  a_log_that_is_not_accepted_comes_first : (x : Told) → AuditsRoot (codes "100 setuid 0 = EPERM\n") (codes "101")
      (codes "uid:x") x status.Impossible (root_line ∷ codes "impossible line 1: the rules give 0" ∷ []);
}
unfolding print_on_literals world_on_literals
refused_queries = search

-- a family of so many members is asked about, and not one of a member more
by_size : (size : ℕ) (rest : Report) (n : ℕ) → size ≡ n
    → unless_large size rest ≡ cond (nat_lt (limit_number limit.Family) n) (limit_hit limit.Family) rest
by_size size rest n is = ap (λ (m : ℕ). cond (nat_lt (limit_number limit.Family) m) (limit_hit limit.Family) rest) is

pub a_family_of_as_many_as_the_limit : (task : Task) (j : Judged) (w : World) (s : State) (p : Process) (k : ℕ) → length (family s p.pid) ≡ 256
    → right_answer task j w s p (Uid k) ≡ task_report task j w s (family s p.pid) (Uid k)
a_family_of_as_many_as_the_limit task j w s p k many =
    by_size (length (family s p.pid)) (task_report task j w s (family s p.pid) (Uid k)) 256 many

pub one_member_more : (task : Task) (j : Judged) (w : World) (s : State) (p : Process) (k : ℕ) → length (family s p.pid) ≡ 257
    → right_answer task j w s p (Uid k) ≡ limit_hit limit.Family
one_member_more task j w s p k many = by_size (length (family s p.pid)) (task_report task j w s (family s p.pid) (Uid k)) 257 many
