-- Worked cases, by computation, of the calls that change credentials, and of their arguments.
use Rattle.std.proofs.Common.{◌++◌, [], ◌∷◌}
use Rattle.std.specs.Prelude.{codes}
use Rattle.cm_base.specs.declared.faults.LineFault.TheVariants as fault
use Rattle.cm_base.specs.declared.errno.Errno.TheVariants.{EPERM, EINVAL, ENOENT}
use Rattle.cm_base.specs.declared.res.FileRef.TheVariants.{Plain, Row}
use Rattle.cm_base.specs.declared.res.Res.TheVariants.{Done, Err}
use Rattle.model_cred.specs.Call.{SetUid, SetReUid, SetGid, SetReGid, SetResGid, SetGroups, CapSet, BsetDrop, AmbRaise}
use Rattle.model_cred.specs.Call.{AmbLower, AmbClear, SecureBits, KeepCaps, NoNewPrivs, Exec}
use Rattle.model_strace.proofs.CaseWorld.{Tells, Have}

-- ---- ids

pub ids : record {
  one_id : Tells (codes "200 setgid(34) = 0") (SetGid 34) Done;
  two_ids : Tells (codes "200 setreuid(1000, -1) = 0") (SetReUid 1000 4294967295) Done;
  two_group_ids : Tells (codes "200 setregid(-1, 4294967295) = -1 EINVAL (Invalid argument)")
      (SetReGid 4294967295 4294967295) (Err EINVAL);
  three_group_ids : Tells (codes "200 setresgid(1, 2, 3) = 0") (SetResGid 1 2 3) Done;
  further_arguments_are_not_looked_at : Tells (codes "200 setuid(33, x, {y}) = 0") (SetUid 33) Done;
  the_first_id_is_none : Have (fault.Argument 1)
      (codes "200 setuid(x) = 0" ∷ codes "200 setuid() = 0" ∷ codes "200 setuid(-2) = 0"
      ∷ codes "200 setuid(4294967296) = 0" ∷ codes "200 setuid(0x1) = 0" ∷ codes "200 setuid([1]) = 0"
      ∷ codes "200 setresuid(x, y, z) = 0" ∷ codes "200 setuid(,33) = 0" ∷ codes "200 setgid() = -1 EPERM" ∷ []);
  the_second_id_is_none : Have (fault.Argument 2)
      (codes "200 setreuid(1) = 0" ∷ codes "200 setreuid(1, x) = 0" ∷ codes "200 setresgid(1, , 3) = 0" ∷ []);
  the_third_id_is_none : Have (fault.Argument 3)
      (codes "200 setresuid(1, 2) = 0" ∷ codes "200 setresuid(1, 2, 3 4) = 0" ∷ []);
}
ids = search

-- ---- setgroups

pub group_lists : record {
  groups_as_they_stand : Tells (codes "200 setgroups(3, [34, 10, 34]) = 0") (SetGroups (34 ∷ 10 ∷ 34 ∷ [])) Done;
  no_groups : Tells (codes "200 setgroups(0, []) = 0") (SetGroups []) Done;
  a_null_list_is_empty : Tells (codes "200 setgroups32(0, NULL) = -1 EPERM (Operation not permitted)") (SetGroups [])
      (Err EPERM);
  a_length_that_is_no_number : Have (fault.Argument 1)
      (codes "200 setgroups(x, []) = 0" ∷ codes "200 setgroups() = 0"
      ∷ codes "200 setgroups(-1, NULL) = -1 EINVAL" ∷ []);
  a_list_that_is_cut_or_has_another_length : Have (fault.Argument 2)
      (codes "200 setgroups(3, [1, 2, ...]) = 0" ∷ codes "200 setgroups(2, [1]) = 0"
      ∷ codes "200 setgroups(1, NULL) = 0" ∷ codes "200 setgroups(0, [0]) = 0" ∷ codes "200 setgroups(0, 0x7ffe) = 0"
      ∷ codes "200 setgroups(1, 1) = 0" ∷ codes "200 setgroups(1, [x]) = 0" ∷ codes "200 setgroups(2, [1, ]) = 0"
      ∷ codes "200 setgroups(0) = -1 EPERM" ∷ codes "200 setgroups(1, [1]x) = 0" ∷ []);
}
group_lists = search

-- ---- capset

pub capsets : record {
  three_sets : Tells
      (codes "200 capset({version=_LINUX_CAPABILITY_VERSION_3, pid=0}, "
      ++ codes "{effective=1<<CAP_CHOWN|1<<CAP_KILL, permitted=1<<CAP_KILL, inheritable=0}) = 0") (CapSet 33 32 0) Done;
  the_process_may_be_the_caller : Tells
      (codes "200 capset({version=0x20080522, pid=200}, {effective=0, permitted=0|0, "
      ++ codes "inheritable=1<<CAP_CHECKPOINT_RESTORE}) = -1 EPERM (Operation not permitted)")
      (CapSet 0 0 1099511627776) (Err EPERM);
  a_header_of_another_process : Have (fault.Argument 1)
      (codes "200 capset({version=V, pid=201}, {effective=0, permitted=0, inheritable=0}) = 0"
      ∷ codes "200 capset({version=, pid=0}, {effective=0, permitted=0, inheritable=0}) = 0"
      ∷ codes "200 capset({version=V}, {effective=0, permitted=0, inheritable=0}) = 0"
      ∷ codes "200 capset({pid=0, version=V}, x) = 0" ∷ codes "200 capset({version=V, pid=0, x=1}, x) = 0"
      ∷ codes "200 capset(NULL, NULL) = -1 EFAULT" ∷ codes "200 capset() = 0"
      ∷ codes "200 capset({version=V, pid=x}, x) = 0" ∷ []);
  sets_that_are_none : Have (fault.Argument 2)
      (codes "200 capset({version=V, pid=0}, {effective=0, permitted=0}) = 0"
      ∷ codes "200 capset({version=V, pid=0}, {permitted=0, effective=0, inheritable=0}) = 0"
      ∷ codes "200 capset({version=V, pid=0}, {effective=0x1, permitted=0, inheritable=0}) = 0"
      ∷ (codes "200 capset({version=V, pid=0}, {effective=1<<CAP_CHOWN|0x20, permitted=0, " ++ codes "inheritable=0}) = 0")
      ∷ codes "200 capset({version=V, pid=0}, {effective=CAP_CHOWN, permitted=0, inheritable=0}) = 0"
      ∷ codes "200 capset({version=V, pid=0}, {effective=, permitted=0, inheritable=0}) = 0"
      ∷ codes "200 capset({version=V, pid=0}, {effective=0, permitted=0, inheritable=0|}) = 0"
      ∷ codes "200 capset({version=V, pid=0}, NULL) = 0" ∷ codes "200 capset({version=V, pid=0}) = 0"
      ∷ codes "200 capset({version=V, pid=0}, {effective=1<<CAP_NONE, permitted=0, inheritable=0}) = 0"
      ∷ codes "200 capset({version=V, pid=0}, {effective=0, permitted=0, inheritable=0, x=0}) = 0" ∷ []);
}
capsets = search

-- ---- prctl

pub prctls : record {
  keepcaps : Tells (codes "200 prctl(PR_SET_KEEPCAPS, 0) = 0") (KeepCaps 0) Done;
  a_number_that_the_rules_refuse : Tells (codes "200 prctl(PR_SET_KEEPCAPS, 2, x) = -1 EINVAL (Invalid argument)")
      (KeepCaps 2) (Err EINVAL);
  no_new_privs : Tells (codes "200 prctl(PR_SET_NO_NEW_PRIVS, 1, 0, 0, 0) = 0") (NoNewPrivs 1) Done;
  no_number_of_a_flag : Have (fault.Argument 2)
      (codes "200 prctl(PR_SET_KEEPCAPS) = 0" ∷ codes "200 prctl(PR_SET_KEEPCAPS, 0x1) = 0"
      ∷ codes "200 prctl(PR_SET_NO_NEW_PRIVS, -1) = -1 EINVAL"
      ∷ codes "200 prctl(PR_SET_NO_NEW_PRIVS, 1 /* c */) = 0" ∷ []);
  no_securebits : Tells (codes "200 prctl(PR_SET_SECUREBITS, 0) = 0") (SecureBits 0) Done;
  securebits_by_a_number : Tells (codes "200 prctl(PR_SET_SECUREBITS, 0x2F) = 0") (SecureBits 47) Done;
  securebits_by_names : Tells
      (codes "200 prctl(PR_SET_SECUREBITS, SECBIT_NOROOT|SECBIT_NOROOT_LOCKED|SECBIT_NO_SETUID_FIXUP "
      ++ codes "| SECBIT_NO_CAP_AMBIENT_RAISE_LOCKED) = 0") (SecureBits 135) Done;
  each_securebit : Tells
      (codes "200 prctl(PR_SET_SECUREBITS, "
      ++ codes "SECBIT_NO_SETUID_FIXUP_LOCKED|SECBIT_KEEP_CAPS|SECBIT_KEEP_CAPS_LOCKED|SECBIT_NO_CAP_AMBIENT_RAISE) "
      ++ codes "= 0") (SecureBits 120) Done;
  securebits_that_are_none : Have (fault.Argument 2)
      (codes "200 prctl(PR_SET_SECUREBITS) = 0" ∷ codes "200 prctl(PR_SET_SECUREBITS, 5) = 0"
      ∷ codes "200 prctl(PR_SET_SECUREBITS, 0x) = 0" ∷ codes "200 prctl(PR_SET_SECUREBITS, 0x100000000) = 0"
      ∷ codes "200 prctl(PR_SET_SECUREBITS, SECBIT_X) = 0"
      ∷ codes "200 prctl(PR_SET_SECUREBITS, SECBIT_NOROOT|0x100) = 0" ∷ codes "200 prctl(PR_SET_SECUREBITS, NOROOT) = 0"
      ∷ codes "200 prctl(PR_SET_SECUREBITS, 0x2a /* SECBIT_??? */) = 0"
      ∷ codes "200 prctl(PR_SET_SECUREBITS, SECBIT_NOROOT|) = 0" ∷ []);
  a_capability_by_its_name : Tells (codes "200 prctl(PR_CAPBSET_DROP, CAP_SYS_ADMIN) = 0") (BsetDrop 21) Done;
  a_capability_by_a_number : Tells (codes "200 prctl(PR_CAPBSET_DROP, 41) = -1 EINVAL (Invalid argument)") (BsetDrop 41)
      (Err EINVAL);
  a_comment_after_it : Tells
      (codes "200 prctl(PR_CAPBSET_DROP, 0x2a /* CAP_??? */, 0, 0) = -1 EINVAL (Invalid argument)") (BsetDrop 42)
      (Err EINVAL);
  a_comma_in_the_comment : Tells (codes "200 prctl(PR_CAPBSET_DROP, 0x15 /* CAP_SYS_ADMIN, or so,*/, 0, 0) = 0")
      (BsetDrop 21) Done;
  a_comma_in_the_comment_of_the_last_argument : Tells
      (codes "200 prctl(PR_CAP_AMBIENT, PR_CAP_AMBIENT_RAISE, 5 /*,*/) = 0") (AmbRaise 5) Done;
  brackets_in_the_comment : Tells
      (codes "200 prctl(PR_CAP_AMBIENT, PR_CAP_AMBIENT_LOWER, CAP_KILL /* [, (a, */ , 0) = 0") (AmbLower 5) Done;
  an_ambient_capability_is_raised : Tells (codes "200 prctl(PR_CAP_AMBIENT, PR_CAP_AMBIENT_RAISE, CAP_KILL, 0, 0) = 0")
      (AmbRaise 5) Done;
  an_ambient_capability_is_lowered : Tells (codes "200 prctl(PR_CAP_AMBIENT, PR_CAP_AMBIENT_LOWER, 0x5/**/, 0, 0) = 0")
      (AmbLower 5) Done;
  the_ambient_set_is_cleared : Tells (codes "200 prctl(PR_CAP_AMBIENT, PR_CAP_AMBIENT_CLEAR_ALL, x) = 0") AmbClear Done;
  no_capability : Have (fault.Argument 2)
      (codes "200 prctl(PR_CAPBSET_DROP) = 0" ∷ codes "200 prctl(PR_CAPBSET_DROP, CAP_NONE) = 0"
      ∷ codes "200 prctl(PR_CAPBSET_DROP, 0x2a /* CAP_???) = 0" ∷ codes "200 prctl(PR_CAPBSET_DROP, 1 /* a */ b */) = 0"
      ∷ codes "200 prctl(PR_CAPBSET_DROP, /* a */) = 0" ∷ codes "200 prctl(PR_CAPBSET_DROP, 1 /* a, b */ c, 0) = 0"
      ∷ codes "200 prctl(PR_CAPBSET_DROP, 1 /* a, 0) = 0" ∷ codes "200 prctl(PR_CAPBSET_DROP, 1 /*/) = 0"
      ∷ codes "200 prctl(PR_CAPBSET_DROP, 0x1ffffffff) = 0" ∷ []);
  no_ambient_capability : Have (fault.Argument 3)
      (codes "200 prctl(PR_CAP_AMBIENT, PR_CAP_AMBIENT_RAISE) = 0"
      ∷ codes "200 prctl(PR_CAP_AMBIENT, PR_CAP_AMBIENT_LOWER, x) = 0" ∷ []);
  no_option : Have (fault.Argument 1)
      (codes "200 prctl() = 0" ∷ codes "200 prctl() = 7" ∷ codes "200 prctl( ) = -1 EINVAL" ∷ []);
  no_ambient_option : Have (fault.Argument 2)
      (codes "200 prctl(PR_CAP_AMBIENT) = 0" ∷ codes "200 prctl(PR_CAP_AMBIENT) = -1 EINVAL"
      ∷ codes "200 prctl(PR_CAP_AMBIENT) = 4294967296" ∷ []);
  a_result_that_is_none_comes_before_a_missing_option : Have fault.Outcome
      (codes "200 prctl() = 0x5" ∷ codes "200 prctl() = x" ∷ codes "200 prctl( ) = -1 EFOO" ∷ codes "200 prctl() ="
      ∷ codes "200 prctl(PR_CAP_AMBIENT) = 0x5" ∷ codes "200 prctl(PR_CAP_AMBIENT) = -1 EFOO"
      ∷ codes "200 execveat() = x" ∷ codes "200 execveat() = -1 EFOO" ∷ codes "200 execveat( ) = -1" ∷ []);
}
prctls = search

-- ---- execve

pub execves : record {
  a_declared_file : Tells (codes "200 execve(\"/bin/su\", [\"su\"], 0x7ffe /* 10 vars */) = 0") (Exec (Row 0)) Done;
  another_file : Tells (codes "200 execve(\"/bin/ls\", [\"ls\"], NULL) = -1 ENOENT (No such file or directory)")
      (Exec Plain) (Err ENOENT);
  a_path_is_read_with_its_escapes : Tells (codes "200 execve(\"\\57bi\\156/s\\165\", []) = 0") (Exec (Row 0)) Done;
  execveat_of_the_current_folder : Tells (codes "200 execveat(AT_FDCWD, \"/bin/su\", [\"su\"], [], 0) = 0")
      (Exec (Row 0)) Done;
  a_path_that_can_not_be_read : Have (fault.Argument 1)
      (codes "200 execve(\"/bin/su\"..., []) = 0" ∷ codes "200 execve(\"/bin/s\\x75\", []) = 0"
      ∷ codes "200 execve(\"\\400\", []) = 0" ∷ codes "200 execve(\"\\8\", []) = 0"
      ∷ codes "200 execve(0x7ffe, []) = -1 EFAULT" ∷ codes "200 execve() = 0" ∷ codes "200 execve(\"/bin/su\"x, []) = 0"
      ∷ codes "200 execve(NULL, []) = -1 EFAULT" ∷ []);
  a_path_of_execveat_that_can_not_be_read : Have (fault.Argument 2)
      (codes "200 execveat(AT_FDCWD, \"/bin/su\"..., []) = 0" ∷ codes "200 execveat(AT_FDCWD) = 0" ∷ []);
  an_execveat_of_no_folder : Have (fault.Argument 1)
      (codes "200 execveat() = 0" ∷ codes "200 execveat() = 7" ∷ codes "200 execveat() = -1 EACCES" ∷ []);
  an_execveat_of_a_descriptor : Have fault.Descriptor
      (codes "200 execveat(3, \"\", [\"x\"], [], AT_EMPTY_PATH) = 0" ∷ codes "200 execveat(3) = 7" ∷ []);
}
execves = search
