-- Worked cases, by computation, of births, of the lines that are held for them, and of user namespaces.
use Rattle.std.proofs.Common.{◌≡◌, ◌++◌, [], ◌∷◌}
use Rattle.std.specs.Prelude.{codes}
use Rattle.cm_base.specs.declared.faults.LineFault.TheVariants as fault
use Rattle.cm_base.specs.declared.errno.Errno.TheVariants.{EPERM, ENOSPC}
use Rattle.cm_base.specs.declared.res.Res.TheVariants.{Done, Child, Err}
use Rattle.model_cred.specs.Call.{SetUid, Fork, CloneUser, Unshare, WriteUidMap, WriteGidMap, Exit}
use Rattle.model_strace.proofs.CaseWorld.{the_world, at_line, extent, to_the_end, up_to_fault, Tells, TellNothing, Have}
use Rattle.model_strace.specs.Lines.{reading}

-- ---- births

pub births : record {
  a_fork : Tells (codes "200 fork() = 201") Fork (Child 201);
  a_vfork : Tells (codes "200 vfork() = 0201") Fork (Child 201);
  a_thread : Tells
      (codes "200 clone(child_stack=0x7f, flags=CLONE_VM|CLONE_THREAD|CLONE_FILES, parent_tid=[201]) = 201") Fork
      (Child 201);
  a_birth_in_a_user_namespace : Tells (codes "200 clone(child_stack=NULL, flags=CLONE_NEWUSER|SIGCHLD) = 201") CloneUser
      (Child 201);
  flags_between_braces : Tells
      (codes "200 clone3({flags=CLONE_NEWUSER, exit_signal=SIGCHLD, stack=NULL} => {parent_tid=[0]}, "
      ++ codes "88) = 201") CloneUser (Child 201);
  one_flag_between_braces : Tells (codes "200 clone3({flags=CLONE_NEWUSER}, 88) = 201") CloneUser (Child 201);
  the_first_flags_count : Tells (codes "200 clone(flags=SIGCHLD, flags=CLONE_NEWUSER) = 201") Fork (Child 201);
  a_word_elsewhere_is_no_flag : Tells
      (codes "200 clone3({exit_signal=CLONE_NEWUSER, xflags=CLONE_NEWUSER} => {flags=CLONE_NEWUSER}, "
      ++ codes "88) = 201") Fork (Child 201);
  a_failed_birth_in_a_user_namespace : Tells
      (codes "200 clone(flags=CLONE_NEWUSER|CLONE_FILES) = -1 ENOSPC (No space left on device)") CloneUser (Err ENOSPC);
  another_failed_birth_is_no_event : TellNothing
      (codes "200 fork() = -1 EAGAIN (Resource temporarily unavailable)"
      ∷ codes "200 clone(child_stack=NULL, flags=SIGCHLD) = -1 EPERM (Operation not permitted)" ∷ []);
  a_birth_answers_a_pid : Have fault.Outcome
      (codes "200 fork() = 0" ∷ codes "200 fork() = 4194305" ∷ codes "200 fork() = 4294967296" ∷ codes "200 fork() = x"
      ∷ codes "200 fork() = -1 ESRCH" ∷ codes "200 clone(flags=CLONE_NEWUSER) = 0" ∷ []);
}
births = search

-- ---- held lines

pub held_lines : record {
  a_line_before_its_birth_is_held : reading the_world
      (codes "201 setuid(1) = 0" ∷ codes "200 setuid(2) = 0" ∷ codes "200 fork() = 201"
      ∷ codes "200 setuid(3) = 0" ∷ [])
      ≡ to_the_end (at_line 2 200 (SetUid 2) Done ∷ at_line 3 200 Fork (Child 201) ∷ at_line 1 201 (SetUid 1) Done
      ∷ at_line 4 200 (SetUid 3) Done ∷ []);
  held_lines_of_another_stay_held : reading the_world
      (codes "202 setuid(1) = 0" ∷ codes "201 setuid(2) = 0" ∷ codes "201 setuid(3) = 0" ∷ codes "200 fork() = 201"
      ∷ codes "200 fork() = 202" ∷ [])
      ≡ to_the_end (at_line 4 200 Fork (Child 201) ∷ at_line 2 201 (SetUid 2) Done ∷ at_line 3 201 (SetUid 3) Done
      ∷ at_line 5 200 Fork (Child 202) ∷ at_line 1 202 (SetUid 1) Done ∷ []);
  -- by the held lines of its child, before the next of its own
  a_birth_among_them_is_followed_at_once : reading the_world
      (codes "202 setuid(1) = 0" ∷ codes "201 fork() = 202" ∷ codes "201 setuid(2) = 0" ∷ codes "202 setuid(3) = 0"
      ∷ codes "200 fork() = 201" ∷ [])
      ≡ to_the_end (at_line 5 200 Fork (Child 201) ∷ at_line 2 201 Fork (Child 202) ∷ at_line 1 202 (SetUid 1) Done
      ∷ at_line 4 202 (SetUid 3) Done ∷ at_line 3 201 (SetUid 2) Done ∷ []);
  siblings_come_one_after_the_other : reading the_world
      (codes "203 setuid(1) = 0" ∷ codes "202 setuid(2) = 0" ∷ codes "201 fork() = 202" ∷ codes "201 fork() = 203"
      ∷ codes "200 fork() = 201" ∷ [])
      ≡ to_the_end (at_line 5 200 Fork (Child 201) ∷ at_line 3 201 Fork (Child 202) ∷ at_line 2 202 (SetUid 2) Done
      ∷ at_line 4 201 Fork (Child 203) ∷ at_line 1 203 (SetUid 1) Done ∷ []);
  -- what is left stays held, for another birth of that pid
  an_exit_among_them_ends_their_reading : reading the_world
      (codes "201 setuid(1) = 0" ∷ codes "201 +++ exited with 0 +++" ∷ codes "201 setuid(2) = 0"
      ∷ codes "200 fork() = 201" ∷ codes "200 setuid(3) = 0" ∷ codes "200 fork() = 201" ∷ [])
      ≡ to_the_end (at_line 4 200 Fork (Child 201) ∷ at_line 1 201 (SetUid 1) Done ∷ at_line 2 201 Exit Done
      ∷ at_line 5 200 (SetUid 3) Done ∷ at_line 6 200 Fork (Child 201) ∷ at_line 3 201 (SetUid 2) Done ∷ []);
  -- the line that is left is read at the end of the log
  an_exit_of_a_grandchild_ends_its_own_alone : reading the_world
      (codes "202 +++ exited with 0 +++" ∷ codes "202 setuid(1) = 0" ∷ codes "201 fork() = 202"
      ∷ codes "201 setuid(2) = 0" ∷ codes "200 fork() = 201" ∷ [])
      ≡ to_the_end (at_line 5 200 Fork (Child 201) ∷ at_line 3 201 Fork (Child 202) ∷ at_line 1 202 Exit Done
      ∷ at_line 4 201 (SetUid 2) Done ∷ at_line 2 202 (SetUid 1) Done ∷ []);
  a_held_line_has_its_fault_where_it_is_read : reading the_world
      (codes "201 setuid(x) = 0" ∷ codes "200 setuid(1) = 0" ∷ codes "200 fork() = 201"
      ∷ codes "200 setuid(2) = 0" ∷ [])
      ≡ up_to_fault (at_line 2 200 (SetUid 1) Done ∷ at_line 3 200 Fork (Child 201) ∷ []) 1 (fault.Argument 1);
  a_held_line_without_a_pid_has_it_at_once : reading the_world
      (codes "201 setuid(1) = 0" ∷ codes "2o1 setuid(1) = 0" ∷ codes "200 fork() = 201" ∷ [])
      ≡ up_to_fault [] 2 fault.Pid;
  held_calls_in_two_parts : reading the_world
      (codes "201 setuid(1 <unfinished ...>" ∷ codes "200 clone(flags=SIGCHLD <unfinished ...>"
      ∷ codes "201 <... setuid resumed>) = 0" ∷ codes "200 <... clone resumed>) = 201" ∷ [])
      ≡ to_the_end (at_line 4 200 Fork (Child 201) ∷ at_line 3 201 (SetUid 1) Done ∷ []);
}
held_lines = search

-- ---- the end of the log

pub ends_of_logs : record {
  held_lines_are_read_up_to_an_event : reading the_world
      (codes "202 getpid() = 202" ∷ codes "201 --- SIGCONT ---" ∷ codes "203 setuid(1) = 0"
      ∷ codes "201 setuid(x) = 0" ∷ [])
      ≡ to_the_end (at_line 3 203 (SetUid 1) Done ∷ []);
  or_up_to_a_fault : reading the_world
      (codes "202 getpid() = 202" ∷ codes "201 setuid(x) = 0" ∷ codes "203 setuid(1) = 0" ∷ [])
      ≡ up_to_fault [] 2 (fault.Argument 1);
  or_up_to_a_call_in_two_parts : reading the_world
      (codes "201 setuid(1 <unfinished ...>" ∷ codes "201 getpid() = 201" ∷ codes "201 wait4( <unfinished ...>" ∷ [])
      ≡ up_to_fault [] 3 fault.Unfinished;
  calls_of_held_lines_have_their_parts : reading the_world
      (codes "201 setuid(1 <unfinished ...>" ∷ codes "201 <... setuid resumed>) = 0" ∷ [])
      ≡ to_the_end (at_line 2 201 (SetUid 1) Done ∷ []);
  held_lines_that_tell_nothing_end_the_log : reading the_world
      (codes "201 getpid() = 201" ∷ codes "202" ∷ codes "201 setuid(33 <unfinished ...>" ∷ [])
      ≡ to_the_end [];
  the_kept_call_of_a_dead_process_is_gone_by_then : reading the_world
      (codes "200 fork() = 201" ∷ codes "201 wait4( <unfinished ...>" ∷ codes "201 +++ killed by SIGKILL +++"
      ∷ codes "201 wait4( <unfinished ...>" ∷ [])
      ≡ to_the_end (at_line 1 200 Fork (Child 201) ∷ at_line 3 201 Exit Done ∷ []);
}
ends_of_logs = search

-- ---- user namespaces

pub user_namespaces : record {
  a_process_is_followed_into_its_own : reading the_world
      (codes "200 unshare(CLONE_NEWNS|CLONE_NEWUSER) = 0" ∷ codes "200 open(\"/proc/self/uid_map\", O_WRONLY) = 3"
      ∷ codes "200 write(3, \"0 1000 1\\n\", 9) = 9" ∷ [])
      ≡ to_the_end (at_line 1 200 Unshare Done ∷ at_line 3 200 (WriteUidMap 1 (extent 0 1000 1 ∷ [])) Done ∷ []);
  a_failed_unshare_makes_none : reading the_world
      (codes "200 unshare(CLONE_NEWUSER) = -1 EPERM (Operation not permitted)"
      ∷ codes "200 clone(flags=CLONE_NEWUSER) = -1 EPERM (Operation not permitted)"
      ∷ codes "200 open(\"/proc/200/gid_map\", O_RDWR) = 3" ∷ codes "200 write(3, \"\", 0) = 0"
      ∷ codes "200 unshare(CLONE_NEWUSER) = 0" ∷ codes "200 open(\"/proc/200/gid_map\", O_RDWR) = 3"
      ∷ codes "200 write(3, \"\", 0) = 0" ∷ [])
      ≡ to_the_end (at_line 1 200 Unshare (Err EPERM) ∷ at_line 2 200 CloneUser (Err EPERM)
      ∷ at_line 4 200 (WriteGidMap 0 []) Done ∷ at_line 5 200 Unshare Done
      ∷ at_line 7 200 (WriteGidMap 1 []) Done ∷ []);
  a_child_stands_in_its_parents_or_in_its_own : reading the_world
      (codes "200 clone(flags=CLONE_NEWUSER) = 201" ∷ codes "201 fork() = 202" ∷ codes "200 fork() = 203"
      ∷ codes "200 clone3({flags=CLONE_NEWUSER}, 88) = 204" ∷ codes "200 open(\"/proc/202/uid_map\", O_WRONLY) = 3"
      ∷ codes "200 write(3, \"\", 0) = 0" ∷ codes "200 open(\"/proc/203/uid_map\", O_WRONLY) = 3"
      ∷ codes "200 write(3, \"\", 0) = 0" ∷ codes "200 open(\"/proc/204/uid_map\", O_WRONLY) = 3"
      ∷ codes "200 write(3, \"\", 0) = 0" ∷ [])
      ≡ to_the_end (at_line 1 200 CloneUser (Child 201) ∷ at_line 2 201 Fork (Child 202)
      ∷ at_line 3 200 Fork (Child 203) ∷ at_line 4 200 CloneUser (Child 204) ∷ at_line 6 200 (WriteUidMap 1 []) Done
      ∷ at_line 8 200 (WriteUidMap 0 []) Done ∷ at_line 10 200 (WriteUidMap 2 []) Done ∷ []);
}
user_namespaces = search
