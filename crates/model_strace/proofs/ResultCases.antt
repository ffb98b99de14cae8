-- Worked cases, by computation, of the shape of calls and of their results.
use Rattle.std.proofs.Common.{[], ◌∷◌}
use Rattle.std.specs.Prelude.{codes}
use Rattle.cm_base.specs.declared.faults.LineFault.TheVariants as fault
use Rattle.cm_base.specs.declared.errno.Errno.TheVariants.{EPERM, EAGAIN}
use Rattle.cm_base.specs.declared.res.FileRef.TheVariants.{Row}
use Rattle.cm_base.specs.declared.res.Res.TheVariants.{Done, Id, Err}
use Rattle.model_cred.specs.Call.{SetUid, SetResUid, SetFsUid, SetFsGid, Exec}
use Rattle.model_strace.proofs.CaseWorld.{Tells, TellNothing, Have}

-- ---- the shape

pub shapes : record {
  another_call_is_no_event_whatever_follows : TellNothing (codes "200 getuid() = 0" ∷ codes "200 setuidx(0) = 0"
      ∷ codes "200 setuid_(0" ∷ codes "200 foo" ∷ codes "200 getpid) = )" ∷ codes "200 ??? = 0" ∷ codes "200 (33) = 0"
      ∷ codes "200 exit_group(0) = ?" ∷ codes "200 setuid3232(0) = 0" ∷ []);
  a_call_has_a_shape : Have fault.Shape
      (codes "200 setuid foo" ∷ codes "200 setuid" ∷ codes "200 setuid(0" ∷ codes "200 setuid(0)"
      ∷ codes "200 setuid(0) 0" ∷ codes "200 setuid = 0" ∷ codes "200 setuid foo(0) = 0" ∷ codes "200 setuid(0) x = 0"
      ∷ codes "200 setuid[0] = 0" ∷ codes "200 setuid32(0" ∷ codes "200 close(" ∷ codes "200 write" ∷ []);
  an_equals_sign_in_quotes_is_none : Have fault.Shape
      (codes "200 execve(\") = 0" ∷ codes "200 execve(\"x) = 0\"" ∷ codes "200 execve(\"\\\") = 0" ∷ []);
  blanks_between_the_parts_are_free : Tells (codes "200\t setuid\t(\t33 ) \t=\t0") (SetUid 33) Done;
  no_blanks_are_needed : Tells (codes "200 setuid(33)=0") (SetUid 33) Done;
  a_final_32_is_dropped : Tells (codes "200 setresuid32(1, 2, -1) = 0") (SetResUid 1 2 4294967295) Done;
  the_last_equals_sign_counts : Have fault.Outcome (codes "200 setuid(0) = 0) = 1" ∷ []);
  the_arguments_go_on_to_it : Have (fault.Argument 1)
      (codes "200 setuid(0) = 0) = 0" ∷ codes "200 setuid(0) (1) = 0" ∷ []);
  quotes_hide_what_they_hold : Tells (codes "200 execve(\"/bin/su\", [\"a) = -1 EPERM\", \"\\\") = 5\"]) = 0")
      (Exec (Row 0)) Done;
}
shapes = search

-- ---- results

pub results : record {
  an_empty_result_is_a_fault : Have fault.Outcome (codes "200 setuid(33) =" ∷ codes "200 setuid(33) = " ∷ []);
  a_question_mark_is_no_event : TellNothing
      (codes "200 setuid(33) = ?" ∷ codes "200 setuid(33) = ? ERESTARTSYS (To be restarted)" ∷ codes "200 setuid(x) = ?"
      ∷ codes "200 prctl() = ?" ∷ codes "200 fork() = ?x" ∷ []);
  a_call_that_the_kernel_lacks_is_no_event : TellNothing
      (codes "200 clone3({flags=CLONE_NEWUSER}, 88) = -1 ENOSYS (Function not implemented)"
      ∷ codes "200 setuid(x) = -1 ENOSYS" ∷ codes "200 setuid(33) = -1\t ENOSYS(x" ∷ []);
  a_call_fails : Tells (codes "200 setuid(33) = -1 EPERM (Operation not permitted)") (SetUid 33) (Err EPERM);
  anything_follows_the_name_of_an_error : Tells (codes "200 setuid(33) = -1  EAGAIN(") (SetUid 33) (Err EAGAIN);
  other_results_are_a_fault : Have fault.Outcome
      (codes "200 setuid(33) = -1" ∷ codes "200 setuid(33) = -1 ESRCH (No such process)"
      ∷ codes "200 setuid(33) = -1EPERM" ∷ codes "200 setuid(33) = EPERM" ∷ codes "200 setuid(33) = -2"
      ∷ codes "200 setuid(33) = 0x0" ∷ codes "200 setuid(33) = 0 (done)" ∷ codes "200 setuid(33) = x"
      ∷ codes "200 setuid(33) = -1 (EPERM)" ∷ codes "200 setuid(33) = -1 eperm" ∷ []);
  a_number_other_than_zero_is_a_fault : Have fault.Outcome
      (codes "200 setuid(33) = 1" ∷ codes "200 setgroups(0, NULL) = 4294967296"
      ∷ codes "200 prctl(PR_SET_KEEPCAPS, 1) = 1" ∷ codes "200 execve(\"/bin/su\", []) = 3"
      ∷ codes "200 unshare(CLONE_NEWUSER) = 1" ∷ []);
  zero_may_have_leading_zeros : Tells (codes "200 setuid(33) = 00") (SetUid 33) Done;
  setfsuid_answers_the_id_before : Tells (codes "200 setfsuid(5) = 1000") (SetFsUid 5) (Id 1000);
  setfsgid_answers_the_largest_number : Tells (codes "200 setfsgid(-1) = 4294967295") (SetFsGid 4294967295)
      (Id 4294967295);
  setfsuid_answers_nothing_else : Have fault.Outcome
      (codes "200 setfsuid(5) = -1 EPERM (Operation not permitted)" ∷ codes "200 setfsuid(5) = 4294967296"
      ∷ codes "200 setfsgid(5) = -1 EINVAL" ∷ codes "200 setfsgid(5) = 18446744073709551616" ∷ []);
  a_result_comes_before_the_arguments : Have fault.Outcome
      (codes "200 setuid(x) = x" ∷ codes "200 setresuid(1) = 7" ∷ codes "200 capset(x) = 3"
      ∷ codes "200 setgroups() = x" ∷ codes "200 prctl(PR_SET_KEEPCAPS) = -1 ESRCH" ∷ codes "200 execve() = 1"
      ∷ codes "200 setfsuid() = -1 EPERM" ∷ []);
}
results = search

-- ---- lines whose result is not looked at

pub results_not_looked_at : record {
  a_prctl_that_is_not_read : TellNothing
      (codes "200 prctl(PR_GET_DUMPABLE) = 1 (SUID_DUMP_USER)" ∷ codes "200 prctl(PR_SET_NAME, \"x\") = x"
      ∷ codes "200 prctl(PR_CAP_AMBIENT, PR_CAP_AMBIENT_IS_SET, CAP_KILL) = 1"
      ∷ codes "200 prctl(PR_CAP_AMBIENT, 0x9, 1) = x" ∷ codes "200 prctl(0x59616d61) = -1 ESRCH" ∷ []);
  an_unshare_of_something_else : TellNothing
      (codes "200 unshare(CLONE_NEWNS) = x" ∷ codes "200 unshare(CLONE_NEWNS|CLONE_FS) = -1 ESRCH"
      ∷ codes "200 unshare() = 5" ∷ codes "200 unshare(0) = 0" ∷ codes "200 unshare(CLONE_NEWUSERS) = 0" ∷ []);
  an_execveat_that_fails : TellNothing
      (codes "200 execveat(3, \"\", [], [], AT_EMPTY_PATH) = -1 ESRCH" ∷ codes "200 execveat(3, \"x\") = x"
      ∷ codes "200 execveat(AT_FDCWDX) = -1 EACCES (Permission denied)" ∷ []);
  a_setns_that_is_not_followed : TellNothing
      (codes "200 setns(3, CLONE_NEWUSER) = -1 ESRCH" ∷ codes "200 setns(3, 0) = x"
      ∷ codes "200 setns(3, CLONE_NEWNS) = 0" ∷ codes "200 setns(3, CLONE_NEWNS) = x"
      ∷ codes "200 setns(x, CLONE_NEWUSER) = -1 EPERM (Operation not permitted)" ∷ []);
  calls_of_descriptors : TellNothing
      (codes "200 open(\"/x\", O_RDONLY) = x" ∷ codes "200 openat(AT_FDCWD, \"/x\", O_RDONLY) = -1 ESRCH"
      ∷ codes "200 creat(\"/x\", 0600) = -1" ∷ codes "200 close(3) = x" ∷ codes "200 dup(3) = x"
      ∷ codes "200 dup2(3, 4) = -1 ESRCH" ∷ codes "200 dup3(3, 4, 0) = x"
      ∷ codes "200 fcntl(0, F_GETFL) = 0x8402 (flags O_RDWR)" ∷ codes "200 write(1, \"x\", 1) = x"
      ∷ codes "200 pwrite64(1, \"x\", 1, 0) = -1 EPIPE (Broken pipe)" ∷ []);
}
results_not_looked_at = search
