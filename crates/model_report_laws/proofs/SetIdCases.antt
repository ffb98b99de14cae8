-- Worked cases, by computation, of whole reports on the calls that set ids and groups: from the bytes of a world and a log
-- to the text.
use Rattle.std.proofs.Common.{[], ◌∷◌, ◌++◌, refl}
use Rattle.std.specs.Prelude.{codes}
use Rattle.cm_base.specs.declared.status.Status.TheVariants as status
use Rattle.model_report_laws.proofs.CaseReports.{RowReplays, root_line, user_line, ids_of, sets_of, user_ids, of_100}
use Rattle.model_report_laws.proofs.CaseReports.{all, none, kill, net_bind, no_flags, keep_caps, all_sets, no_sets}
use Rattle.model_text.proofs.PrintCases.{print_on_literals}
use Rattle.model_text.proofs.WorldCases.{world_on_literals}

-- ---- user ids
pub user_ids_set : record {
  -- a real id that is given makes the effective one also the saved one
  setreuid_saves_the_effective_id : RowReplays (codes "uid = [0, 0, 7, 0]\n") (codes "100 setreuid 1000 -1 = 0\n")
      status.Accepted
      (of_100 (ids_of (codes "0,0,7,0")) all_sets ∷ codes "1: 100 setreuid 1000 -1 = 0"
      ∷ of_100 (ids_of (codes "1000,0,0,0")) all_sets ∷ codes "end 1" ∷ []);
  -- without CAP_SETUID setuid goes to the real or the saved id alone, and not to the effective one
  setuid_to_the_effective_id_is_refused : RowReplays (codes "uid = [1000, 33, 44, 33]\n")
      (codes "100 setuid 33 = EPERM\n") status.Accepted
      (of_100 (ids_of (codes "1000,33,44,33")) no_sets ∷ codes "1: 100 setuid 33 = EPERM"
      ∷ of_100 (ids_of (codes "1000,33,44,33")) no_sets ∷ codes "end 1" ∷ []);
  it_is_never_done : RowReplays (codes "uid = [1000, 33, 44, 33]\n") (codes "100 setuid 33 = 0\n") status.Impossible
      (of_100 (ids_of (codes "1000,33,44,33")) no_sets ∷ codes "impossible line 1: the rules give EPERM" ∷ []);
  -- setfsuid has no error: what it may not do changes nothing
  setfsuid_that_may_not_changes_nothing : RowReplays (codes "uid = 1000\n") (codes "100 setfsuid 5 = 1000\n")
      status.Accepted (user_line ∷ codes "1: 100 setfsuid 5 = 1000" ∷ user_line ∷ codes "end 1" ∷ []);
  setfsuid_gives_the_id_before : RowReplays (codes "uid = 1000\n") (codes "100 setfsuid 5 = 5\n") status.Impossible
      (user_line ∷ codes "impossible line 1: the rules give 1000" ∷ []);
  -- what is possible is printed up to the line that isn't
  third_line_is_impossible : RowReplays (codes "uid = 1000\n")
      (codes "100 setresuid -1 -1 -1 = 0\n100 setfsuid 5 = 1000\n100 setresuid 0 0 0 = 0\n") status.Impossible
      (user_line ∷ codes "1: 100 setresuid -1 -1 -1 = 0" ∷ user_line ∷ codes "2: 100 setfsuid 5 = 1000" ∷ user_line
      ∷ codes "impossible line 3: the rules give EPERM" ∷ []);
  -- with CAP_SETUID the fs id goes to 5, and the capabilities that follow it (0 to 4, 9, 27, 32: 0x10800021f) leave the
  -- effective set; by the run back the permitted ones of them come again
  root_sets_its_fs_id : RowReplays [] (codes "100 setfsuid 5 = 0\n100 setfsuid 0 = 5\n") status.Accepted
      (root_line ∷ codes "1: 100 setfsuid 5 = 0"
      ∷ of_100 (ids_of (codes "0,0,0,5")) (sets_of none all (codes "000001fef7fffde0") all none no_flags)
      ∷ codes "2: 100 setfsuid 0 = 5" ∷ root_line ∷ codes "end 2" ∷ []);
}
unfolding print_on_literals world_on_literals
user_ids_set = search

-- ---- securebits
pub secure_bits : record {
  -- under SECBIT_KEEP_CAPS the permitted set stays where root ids are given up; the effective id wasn't root before, so
  -- the
  -- effective set stays too
  kept_caps_stay_effective : RowReplays
      (codes "uid = [0, 1000, 0, 1000]\npermitted = \"CAP_KILL\"\neffective = \"CAP_KILL\"\nsecurebits = 16\n")
      (codes "100 setresuid 1000 1000 1000 = 0\n") status.Accepted
      (of_100 (ids_of (codes "0,1000,0,1000")) (sets_of none kill kill all none keep_caps)
      ∷ codes "1: 100 setresuid 1000 1000 1000 = 0" ∷ of_100 user_ids (sets_of none kill kill all none keep_caps)
      ∷ codes "end 1" ∷ []);
  -- the ambient set goes then, and the effective set of one whose effective id was root
  kept_caps_leave_the_ambient_set : RowReplays
      (codes "uid = 0\ninheritable = \"CAP_NET_BIND_SERVICE\"\nambient = \"CAP_NET_BIND_SERVICE\"\nsecurebits = 16\n")
      (codes "100 setresuid 1000 1000 1000 = 0\n") status.Accepted
      (of_100 (ids_of (codes "0,0,0,0")) (sets_of net_bind all all all net_bind keep_caps)
      ∷ codes "1: 100 setresuid 1000 1000 1000 = 0" ∷ of_100 user_ids (sets_of net_bind all none all none keep_caps)
      ∷ codes "end 1" ∷ []);
}
unfolding print_on_literals world_on_literals
secure_bits = search

-- ---- group ids and groups
pub groups_set : record {
  -- a service gives up its groups, its group ids and its user ids, in this order
  service_gives_up_root : RowReplays (codes "groups = [0, 4]\n")
      (codes "100 setgroups 34 33 34 = 0\n100 setresgid 33 33 33 = 0\n100 setuid 33 = 0\n100 setgroups = EPERM\n"
      ++ codes "100 setgid 0 = EPERM\n") status.Accepted
      (of_100 (codes " uid=0,0,0,0 gid=0,0,0,0 groups=0,4") all_sets ∷ codes "1: 100 setgroups 34 33 34 = 0"
      ∷ of_100 (codes " uid=0,0,0,0 gid=0,0,0,0 groups=33,34") all_sets ∷ codes "2: 100 setresgid 33 33 33 = 0"
      ∷ of_100 (codes " uid=0,0,0,0 gid=33,33,33,33 groups=33,34") all_sets ∷ codes "3: 100 setuid 33 = 0"
      ∷ of_100 (codes " uid=33,33,33,33 gid=33,33,33,33 groups=33,34") no_sets ∷ codes "4: 100 setgroups = EPERM"
      ∷ of_100 (codes " uid=33,33,33,33 gid=33,33,33,33 groups=33,34") no_sets ∷ codes "5: 100 setgid 0 = EPERM"
      ∷ of_100 (codes " uid=33,33,33,33 gid=33,33,33,33 groups=33,34") no_sets ∷ codes "end 5" ∷ []);
  -- one that drops its user ids first can't drop its groups any more
  groups_are_given_up_too_late : RowReplays (codes "groups = [0]\n") (codes "100 setuid 33 = 0\n100 setgroups = 0\n")
      status.Impossible
      (of_100 (codes " uid=0,0,0,0 gid=0,0,0,0 groups=0") all_sets ∷ codes "1: 100 setuid 33 = 0"
      ∷ of_100 (codes " uid=33,33,33,33 gid=0,0,0,0 groups=0") no_sets
      ∷ codes "impossible line 2: the rules give EPERM" ∷ []);
  group_ids_of_a_user : RowReplays (codes "uid = 1000\ngid = [10, 11, 12, 13]\n")
      (codes "100 setregid 11 12 = 0\n100 setfsgid 11 = 12\n100 setresgid -1 -1 13 = EPERM\n") status.Accepted
      (of_100 (codes " uid=1000,1000,1000,1000 gid=10,11,12,13 groups=-") no_sets ∷ codes "1: 100 setregid 11 12 = 0"
      ∷ of_100 (codes " uid=1000,1000,1000,1000 gid=11,12,12,12 groups=-") no_sets ∷ codes "2: 100 setfsgid 11 = 12"
      ∷ of_100 (codes " uid=1000,1000,1000,1000 gid=11,12,12,11 groups=-") no_sets
      ∷ codes "3: 100 setresgid -1 -1 13 = EPERM"
      ∷ of_100 (codes " uid=1000,1000,1000,1000 gid=11,12,12,11 groups=-") no_sets ∷ codes "end 3" ∷ []);
}
unfolding print_on_literals world_on_literals
groups_set = search

-- ---- the largest and the smallest id, and those that aren't any
pub minus_one_is_no_id : RowReplays []
    (codes "100 setuid -1 = EINVAL\n100 setgid 4294967295 = EINVAL\n100 setgroups 5 -1 = EINVAL\n100 setfsuid -1 = 0\n"
    ++ codes "100 setreuid -1 -1 = 0\n") status.Accepted
    (root_line ∷ codes "1: 100 setuid -1 = EINVAL" ∷ root_line ∷ codes "2: 100 setgid -1 = EINVAL" ∷ root_line
    ∷ codes "3: 100 setgroups 5 -1 = EINVAL" ∷ root_line ∷ codes "4: 100 setfsuid -1 = 0" ∷ root_line
    ∷ codes "5: 100 setreuid -1 -1 = 0" ∷ root_line ∷ codes "end 5" ∷ [])
unfolding print_on_literals world_on_literals
minus_one_is_no_id = record { status = refl; text = refl }

-- ---- the ends of a log
pub ends_of_logs : record {
  fault_of_setgroups : RowReplays [] (codes "100 setgroups = 0\n100 setgroups 5\n") status.BadLog
      (root_line ∷ codes "1: 100 setgroups = 0" ∷ root_line ∷ codes "bad log line 2: shape" ∷ []);
  fault_of_unshare : RowReplays [] (codes "100 setgroups = 0\n7 unshare x = 0\n") status.BadLog
      (root_line ∷ codes "1: 100 setgroups = 0" ∷ root_line ∷ codes "bad log line 2: count" ∷ []);
  world_with_a_bad_set : RowReplays (codes "permitted = \"CAP_FOO\"\n") (codes "100 capset = 0\n") status.BadWorld
      (codes "bad world process 1: BadCaps" ∷ []);
}
unfolding print_on_literals world_on_literals
ends_of_logs = search
