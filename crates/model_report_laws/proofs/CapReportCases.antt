-- Worked cases, by computation, of whole reports on capset(2) and the prctl(2) calls on capabilities, securebits and
-- no_new_privs: from the bytes of a world and a log to the text.
use Rattle.std.proofs.Common.{[], ◌∷◌, ◌++◌, refl}
use Rattle.std.specs.Prelude.{codes}
use Rattle.cm_base.specs.declared.status.Status.TheVariants as status
use Rattle.model_report_laws.proofs.CaseReports.{RowReplays, root_line, user_line, ids_of, sets_of, user_ids, of_100}
use Rattle.model_report_laws.proofs.CaseReports.{all, none, kill, net_bind, no_flags, keep_caps, all_sets}
use Rattle.model_text.proofs.PrintCases.{print_on_literals}
use Rattle.model_text.proofs.WorldCases.{world_on_literals}

-- ---- keeping capabilities while the ids go
pub kept_capabilities : record {
  -- under SECBIT_KEEP_CAPS the permitted set stays where root ids are given up; the effective and the ambient set go
  keepcaps_and_then_the_ids : RowReplays
      (codes "uid = 0\ninheritable = \"CAP_NET_BIND_SERVICE\"\nambient = \"CAP_NET_BIND_SERVICE\"\n")
      (codes "100 keepcaps 1 = 0\n100 setresuid 1000 1000 1000 = 0\n") status.Accepted
      (of_100 (ids_of (codes "0,0,0,0")) (sets_of net_bind all all all net_bind no_flags)
      ∷ codes "1: 100 keepcaps 1 = 0"
      ∷ of_100 (ids_of (codes "0,0,0,0")) (sets_of net_bind all all all net_bind keep_caps)
      ∷ codes "2: 100 setresuid 1000 1000 1000 = 0" ∷ of_100 user_ids (sets_of net_bind all none all none keep_caps)
      ∷ codes "end 2" ∷ []);
  -- the server that keeps one capability, and lets nothing come back
  server_keeps_one_capability : RowReplays []
      (codes "100 keepcaps 1 = 0\n100 setresuid 33 33 33 = 0\n"
      ++ codes "100 capset CAP_NET_BIND_SERVICE CAP_NET_BIND_SERVICE none = 0\n100 no_new_privs 1 = 0\n")
      status.Accepted
      (root_line ∷ codes "1: 100 keepcaps 1 = 0"
      ∷ of_100 (ids_of (codes "0,0,0,0")) (sets_of none all all all none keep_caps)
      ∷ codes "2: 100 setresuid 33 33 33 = 0"
      ∷ of_100 (ids_of (codes "33,33,33,33")) (sets_of none all none all none keep_caps)
      ∷ codes "3: 100 capset 0000000000000400 0000000000000400 0000000000000000 = 0"
      ∷ of_100 (ids_of (codes "33,33,33,33")) (sets_of none net_bind net_bind all none keep_caps)
      ∷ codes "4: 100 no_new_privs 1 = 0"
      ∷ of_100 (ids_of (codes "33,33,33,33")) (sets_of none net_bind net_bind all none (codes "sec=10 nnp=1"))
      ∷ codes "end 4" ∷ []);
}
unfolding print_on_literals world_on_literals
kept_capabilities = search

-- ---- capset
pub capsets : record {
  -- with a saved root id all is permitted, and what is permitted is made effective again
  saved_root_brings_capabilities_back : RowReplays (codes "uid = 0\n")
      (codes "100 setresuid -1 1000 -1 = 0\n100 capset all all none = 0\n") status.Accepted
      (root_line ∷ codes "1: 100 setresuid -1 1000 -1 = 0"
      ∷ of_100 (ids_of (codes "0,1000,0,1000")) (sets_of none all none all none no_flags)
      ∷ codes "2: 100 capset 000001ffffffffff 000001ffffffffff 0000000000000000 = 0"
      ∷ of_100 (ids_of (codes "0,1000,0,1000")) all_sets ∷ codes "end 2" ∷ []);
  nothing_new_is_permitted : RowReplays (codes "uid = 1000\n")
      (codes "100 capset none CAP_KILL none = EPERM\n100 capset none none none = 0\n100 capset none none CAP_KILL = 0\n")
      status.Impossible
      (user_line ∷ codes "1: 100 capset 0000000000000000 0000000000000020 0000000000000000 = EPERM" ∷ user_line
      ∷ codes "2: 100 capset 0000000000000000 0000000000000000 0000000000000000 = 0" ∷ user_line
      ∷ codes "impossible line 3: the rules give EPERM" ∷ []);
}
unfolding print_on_literals world_on_literals
capsets = search

-- ---- the bounding set
pub bounding_sets : record {
  -- CAP_NET_RAW is 13; the others stay
  bounding_set_loses_one : RowReplays []
      (codes "100 bset_drop CAP_NET_RAW = 0\n100 bset_drop 13 = 0\n100 bset_drop 41 = EINVAL\n") status.Accepted
      (root_line ∷ codes "1: 100 bset_drop CAP_NET_RAW = 0"
      ∷ of_100 (ids_of (codes "0,0,0,0")) (sets_of none all all (codes "000001ffffffdfff") none no_flags)
      ∷ codes "2: 100 bset_drop CAP_NET_RAW = 0"
      ∷ of_100 (ids_of (codes "0,0,0,0")) (sets_of none all all (codes "000001ffffffdfff") none no_flags)
      ∷ codes "3: 100 bset_drop 41 = EINVAL"
      ∷ of_100 (ids_of (codes "0,0,0,0")) (sets_of none all all (codes "000001ffffffdfff") none no_flags)
      ∷ codes "end 3" ∷ []);
  -- without CAP_SETPCAP it is refused, before the number is looked at
  user_drops_nothing_from_it : RowReplays (codes "uid = 1000\n")
      (codes "100 bset_drop 41 = EPERM\n100 bset_drop 0 = EPERM\n") status.Accepted
      (user_line ∷ codes "1: 100 bset_drop 41 = EPERM" ∷ user_line ∷ codes "2: 100 bset_drop CAP_CHOWN = EPERM"
      ∷ user_line ∷ codes "end 2" ∷ []);
}
unfolding print_on_literals world_on_literals
bounding_sets = search

-- ---- the ambient set
pub ambient_set_comes_and_goes : RowReplays
    (codes "uid = 1000\npermitted = \"CAP_KILL,CAP_NET_BIND_SERVICE\"\ninheritable = \"CAP_KILL,CAP_NET_BIND_SERVICE\"\n")
    (codes "100 amb_raise CAP_KILL = 0\n100 amb_raise 10 = 0\n100 amb_lower CAP_KILL = 0\n"
    ++ codes "100 amb_raise 0 = EPERM\n100 amb_raise 41 = EINVAL\n100 amb_clear = 0\n") status.Accepted
    (of_100 user_ids (sets_of (codes "0000000000000420") (codes "0000000000000420") none all none no_flags)
    ∷ codes "1: 100 amb_raise CAP_KILL = 0"
    ∷ of_100 user_ids (sets_of (codes "0000000000000420") (codes "0000000000000420") none all kill no_flags)
    ∷ codes "2: 100 amb_raise CAP_NET_BIND_SERVICE = 0"
    ∷ of_100 user_ids
    (sets_of (codes "0000000000000420") (codes "0000000000000420") none all (codes "0000000000000420") no_flags)
    ∷ codes "3: 100 amb_lower CAP_KILL = 0"
    ∷ of_100 user_ids (sets_of (codes "0000000000000420") (codes "0000000000000420") none all net_bind no_flags)
    ∷ codes "4: 100 amb_raise CAP_CHOWN = EPERM"
    ∷ of_100 user_ids (sets_of (codes "0000000000000420") (codes "0000000000000420") none all net_bind no_flags)
    ∷ codes "5: 100 amb_raise 41 = EINVAL"
    ∷ of_100 user_ids (sets_of (codes "0000000000000420") (codes "0000000000000420") none all net_bind no_flags)
    ∷ codes "6: 100 amb_clear = 0"
    ∷ of_100 user_ids (sets_of (codes "0000000000000420") (codes "0000000000000420") none all none no_flags)
    ∷ codes "end 6" ∷ [])
unfolding print_on_literals world_on_literals
ambient_set_comes_and_goes = record { status = refl; text = refl }

-- ---- securebits and flags
pub flags : record {
  -- 0x2f: NOROOT, NO_SETUID_FIXUP and their locks, and the lock of KEEP_CAPS
  locks_are_never_cleared : RowReplays []
      (codes "100 securebits 47 = 0\n100 securebits 0 = EPERM\n100 securebits 256 = EPERM\n100 keepcaps 1 = EPERM\n"
      ++ codes "100 keepcaps 2 = EINVAL\n") status.Accepted
      (root_line ∷ codes "1: 100 securebits 47 = 0"
      ∷ of_100 (ids_of (codes "0,0,0,0")) (sets_of none all all all none (codes "sec=2f nnp=0"))
      ∷ codes "2: 100 securebits 0 = EPERM"
      ∷ of_100 (ids_of (codes "0,0,0,0")) (sets_of none all all all none (codes "sec=2f nnp=0"))
      ∷ codes "3: 100 securebits 256 = EPERM"
      ∷ of_100 (ids_of (codes "0,0,0,0")) (sets_of none all all all none (codes "sec=2f nnp=0"))
      ∷ codes "4: 100 keepcaps 1 = EPERM"
      ∷ of_100 (ids_of (codes "0,0,0,0")) (sets_of none all all all none (codes "sec=2f nnp=0"))
      ∷ codes "5: 100 keepcaps 2 = EINVAL"
      ∷ of_100 (ids_of (codes "0,0,0,0")) (sets_of none all all all none (codes "sec=2f nnp=0")) ∷ codes "end 5" ∷ []);
  no_new_privs_stays : RowReplays (codes "uid = 1000\n") (codes "100 no_new_privs 1 = 0\n100 no_new_privs 0 = 0\n")
      status.Impossible
      (user_line ∷ codes "1: 100 no_new_privs 1 = 0"
      ∷ of_100 user_ids (sets_of none none none all none (codes "sec=00 nnp=1"))
      ∷ codes "impossible line 2: the rules give EINVAL" ∷ []);
}
unfolding print_on_literals world_on_literals
flags = search

-- ---- the ends of a log
pub ends_of_logs : record {
  interrupted_calls_change_nothing : RowReplays []
      (codes "100 capset none none none = EINTR\n100 amb_clear = EFAULT\n100 securebits 1 = ENOSPC\n") status.Impossible
      (root_line ∷ codes "1: 100 capset 0000000000000000 0000000000000000 0000000000000000 = EINTR" ∷ root_line
      ∷ codes "2: 100 amb_clear = EFAULT" ∷ root_line ∷ codes "impossible line 3: the rules give 0" ∷ []);
  fault_of_capset : RowReplays [] (codes "100 amb_clear = 0\n100 capset all all = 0\n") status.BadLog
      (root_line ∷ codes "1: 100 amb_clear = 0" ∷ root_line ∷ codes "bad log line 2: count" ∷ []);
}
unfolding print_on_literals world_on_literals
ends_of_logs = search
