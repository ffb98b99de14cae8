-- Worked cases, by computation, of whole reports on fork(2), exits and declared parents: from the bytes of a world and a log
-- to the text, and the forebears that a log leaves.
use Rattle.std.proofs.Common.{◌≡◌, ℕ, List, [], ◌∷◌, ◌++◌, map, Option, None, Some}
use Rattle.std.specs.Prelude.{codes}
use Rattle.cm_base.specs.declared.status.Status.TheVariants as status
use Rattle.model_report_laws.proofs.CaseReports.{RowReplays, root_line, user_line, root_at, user_at, line_of, sets_of, of_100, none, kill}
use Rattle.model_cred.specs.Process.{State}
use Rattle.model_report.specs.Replay.{state_after}
use Rattle.model_run.specs.Family.{family}
use Rattle.model_text.proofs.ParentCases.{of_forebear}
use Rattle.model_text.proofs.PrintCases.{print_on_literals}
use Rattle.model_text.proofs.ProcessCases.{root}
use Rattle.model_text.proofs.WorldCases.{world_on_literals, world_with}
use Rattle.model_text.specs.Reading.{events_of, script_reading}

-- ---- births and exits
pub births : record {
  -- a birth shows the parent and the child, an exit nobody
  child_and_grandchild : RowReplays (codes "uid = 0\n") (codes "100 fork = 101\n101 fork = 102\n101 exit = 0\n")
      status.Accepted
      (root_line ∷ codes "1: 100 fork = 101" ∷ root_line ∷ root_at (codes "101") ∷ codes "2: 101 fork = 102"
      ∷ root_at (codes "101") ∷ root_at (codes "102") ∷ codes "3: 101 exit = 0" ∷ codes "end 3" ∷ []);
  -- a pid that is alive is no child's
  pid_in_use : RowReplays (codes "uid = 0\n") (codes "100 fork = 101\n101 fork = 102\n101 exit = 0\n100 fork = 102\n")
      status.Impossible
      (root_line ∷ codes "1: 100 fork = 101" ∷ root_line ∷ root_at (codes "101") ∷ codes "2: 101 fork = 102"
      ∷ root_at (codes "101") ∷ root_at (codes "102") ∷ codes "3: 101 exit = 0"
      ∷ codes "impossible line 4: pid in use" ∷ []);
  -- one that isn't any more may be
  pid_used_again : RowReplays (codes "uid = 0\n")
      (codes "100 fork = 101\n101 setuid 1000 = 0\n101 exit = 0\n100 fork = 101\n") status.Accepted
      (root_line ∷ codes "1: 100 fork = 101" ∷ root_line ∷ root_at (codes "101") ∷ codes "2: 101 setuid 1000 = 0"
      ∷ user_at (codes "101") ∷ codes "3: 101 exit = 0" ∷ codes "4: 100 fork = 101" ∷ root_line ∷ root_at (codes "101")
      ∷ codes "end 4" ∷ []);
  nobody_is_its_own_child : RowReplays [] (codes "100 fork = 100\n") status.Impossible
      (root_line ∷ codes "impossible line 1: pid in use" ∷ []);
  -- a child inherits all credentials, and from then on each has its own
  child_inherits_all : RowReplays
      (codes "uid = [0, 1000, 0, 1000]\ngid = 34\ngroups = [5, 4]\npermitted = \"CAP_KILL\"\ninheritable = \"CAP_KILL\"\n"
      ++ codes "ambient = \"CAP_KILL\"\nbounding = \"CAP_KILL\"\nsecurebits = 32\nno_new_privs = true\n")
      (codes "100 fork = 4194304\n4194304 amb_clear = 0\n100 exit = 0\n") status.Accepted
      (of_100 (codes " uid=0,1000,0,1000 gid=34,34,34,34 groups=4,5") (sets_of kill kill none kill kill (codes "sec=20 nnp=1"))
      ∷ codes "1: 100 fork = 4194304"
      ∷ of_100 (codes " uid=0,1000,0,1000 gid=34,34,34,34 groups=4,5") (sets_of kill kill none kill kill (codes "sec=20 nnp=1"))
      ∷ line_of (codes "4194304") (codes "init") (codes " uid=0,1000,0,1000 gid=34,34,34,34 groups=4,5") (sets_of kill kill none kill kill (codes "sec=20 nnp=1"))
      ∷ codes "2: 4194304 amb_clear = 0"
      ∷ line_of (codes "4194304") (codes "init") (codes " uid=0,1000,0,1000 gid=34,34,34,34 groups=4,5") (sets_of kill kill none kill none (codes "sec=20 nnp=1"))
      ∷ codes "3: 100 exit = 0" ∷ codes "end 3" ∷ []);
  -- the caller's line comes first, also where the child has the lower pid
  caller_before_child : RowReplays (codes "uid = 1000\n") (codes "100 fork = 0007\n") status.Accepted
      (user_line ∷ codes "1: 100 fork = 7" ∷ user_line ∷ user_at (codes "7") ∷ codes "end 1" ∷ []);
}
unfolding print_on_literals world_on_literals
births = search

-- ---- births that fail
pub failed_births : record {
  fork_fails_from_outside : RowReplays [] (codes "100 fork = EAGAIN\n100 fork = ENOMEM\n") status.Accepted
      (root_line ∷ codes "1: 100 fork = EAGAIN" ∷ root_line ∷ codes "2: 100 fork = ENOMEM" ∷ root_line
      ∷ codes "end 2" ∷ []);
  -- no rule refuses a fork; of its own a child has the least pid that isn't alive
  fork_is_not_refused : RowReplays [] (codes "100 fork = EPERM\n") status.Impossible
      (root_line ∷ codes "impossible line 1: the rules give 1" ∷ []);
  nor_is_it_invalid : RowReplays [] (codes "100 fork = 1\n100 fork = EINVAL\n") status.Impossible
      (root_line ∷ codes "1: 100 fork = 1" ∷ root_line ∷ root_at (codes "1")
      ∷ codes "impossible line 2: the rules give 2" ∷ []);
}
unfolding print_on_literals world_on_literals
failed_births = search

-- ---- exits
pub exits : record {
  who_exited_makes_no_call : RowReplays [] (codes "100 exit = 0\n\n100 setuid 0 = 0\n") status.Impossible
      (root_line ∷ codes "1: 100 exit = 0" ∷ codes "impossible line 3: no process" ∷ []);
  nor_exits_again : RowReplays [] (codes "100 exit = 0\n100 exit = 0\n") status.Impossible
      (root_line ∷ codes "1: 100 exit = 0" ∷ codes "impossible line 2: no process" ∷ []);
  the_last_one_exits : RowReplays [] (codes "100 exit = 0\n") status.Accepted
      (root_line ∷ codes "1: 100 exit = 0" ∷ codes "end 1" ∷ []);
  exit_has_no_error : RowReplays [] (codes "100 fork = 101\n101 exit = EAGAIN\n") status.BadLog
      (root_line ∷ codes "1: 100 fork = 101" ∷ root_line ∷ root_at (codes "101") ∷ codes "bad log line 2: result" ∷ []);
}
unfolding print_on_literals world_on_literals
exits = search

-- ---- declared parents
pub declared_parents : record {
  parents_are_not_printed : RowReplays (codes "[[process]]\npid = 7\nparent = 100\nuid = 1000\n")
      (codes "7 fork = 101\n100 exit = 0\n") status.Accepted
      (user_at (codes "7") ∷ root_line ∷ codes "1: 7 fork = 101" ∷ user_at (codes "7") ∷ user_at (codes "101")
      ∷ codes "2: 100 exit = 0" ∷ codes "end 2" ∷ []);
  parent_of_no_row : RowReplays (codes "parent = 99\n") (codes "100 fork = 101\n") status.BadWorld
      (codes "bad world process 1: NoSuchParent" ∷ []);
}
unfolding print_on_literals world_on_literals
declared_parents = search

-- ---- the forebears that a log leaves
-- the state after the events of a log, from that of process 100 of root alone
abbrev pub state_at_end : List ℕ → State
state_at_end log = let w = world_with (of_forebear 100 None root ∷ []) in state_after w w.start (events_of (script_reading w log).events)

-- the pids and forebears of the processes of a state
abbrev pub forebears : State → List (ℕ × Option ℕ)
forebears s = map (λ p. (p.pid, p.forebear)) s.processes

pub left_forebears : record {
  a_child_knows_its_parent : forebears (state_at_end (codes "100 fork = 102\n102 fork = 101\n"))
      ≡ (100, None) ∷ (101, Some 102) ∷ (102, Some 100) ∷ [];
  -- the children of one that exits take over its forebear, also where there is none
  a_grandchild_comes_to_its_grandparent : forebears
      (state_at_end (codes "100 fork = 101\n101 fork = 102\n101 exit = 0\n"))
      ≡ (100, None) ∷ (102, Some 100) ∷ [];
  whose_family_it_stays_in : family (state_at_end (codes "100 fork = 101\n101 fork = 102\n101 exit = 0\n")) 100
      ≡ 100 ∷ 102 ∷ [];
  two_exits_in_a_row : forebears
      (state_at_end (codes "100 fork = 101\n101 fork = 102\n102 fork = 103\n102 fork = 104\n101 exit = 0\n102 exit = 0\n"))
      ≡ (100, None) ∷ (103, Some 100) ∷ (104, Some 100) ∷ [];
  two_exits_the_other_way : forebears
      (state_at_end (codes "100 fork = 101\n101 fork = 102\n102 fork = 103\n102 fork = 104\n102 exit = 0\n101 exit = 0\n"))
      ≡ (100, None) ∷ (103, Some 100) ∷ (104, Some 100) ∷ [];
  the_first_of_a_family_exits : forebears (state_at_end (codes "100 fork = 101\n101 fork = 102\n100 exit = 0\n"))
      ≡ (101, None) ∷ (102, Some 101) ∷ [];
  -- a pid that is used again is no parent of those before
  a_pid_used_again_has_no_children : forebears
      (state_at_end (codes "100 fork = 101\n101 fork = 102\n101 exit = 0\n102 fork = 101\n"))
      ≡ (100, None) ∷ (101, Some 102) ∷ (102, Some 100) ∷ [];
}
left_forebears = search
