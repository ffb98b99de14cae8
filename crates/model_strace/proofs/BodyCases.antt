-- Worked cases, by computation, of lines, their bodies, and calls that are told in two parts.
use Rattle.std.proofs.Common.{◌≡◌, [], ◌∷◌}
use Rattle.std.specs.Prelude.{codes}
use Rattle.cm_base.specs.declared.faults.LineFault.TheVariants as fault
use Rattle.cm_base.specs.declared.res.Res.TheVariants.{Done, Child}
use Rattle.model_cred.specs.Call.{SetUid, SetGid, Fork, Exit}
use Rattle.model_strace.proofs.CaseWorld.{the_world, at_line, to_the_end, up_to_fault, Tells, TellNothing, Have}
use Rattle.model_strace.specs.Lines.{reading}

-- ---- the line

pub lines : record {
  a_blank_line_is_no_event : TellNothing (codes "" ∷ codes "   " ∷ codes "\t \r" ∷ []);
  a_line_begins_with_a_pid : Have fault.Pid
      (codes "setuid(33) = 0" ∷ codes "x200 setuid(33) = 0" ∷ codes "0 setuid(33) = 0" ∷ codes "4194305 setuid(33) = 0"
      ∷ codes "200x setuid(33) = 0" ∷ codes "-200 setuid(33) = 0" ∷ codes "[pid 200] setuid(33) = 0" ∷ []);
  nothing_stands_before_the_pid : Have fault.Pid (codes " 200 setuid(33) = 0" ∷ codes "\t200 setuid(33) = 0" ∷ []);
  a_pid_alone_is_no_event : TellNothing (codes "200" ∷ codes "200 " ∷ codes "200\r" ∷ codes "00200 \t" ∷ []);
  blanks_at_the_end_are_dropped : Tells (codes "200 setuid(33) = 0 \t\r") (SetUid 33) Done;
  a_pid_may_have_leading_zeros : Tells (codes "000200\tsetuid(33) = 0") (SetUid 33) Done;
}
lines = search

-- ---- signals and ends

pub signals_and_ends : record {
  a_signal_is_no_event : TellNothing (codes "200 --- SIGCHLD {si_signo=SIGCHLD} ---" ∷ codes "200 ---"
      ∷ codes "200 --- setuid(0) <unfinished ...>" ∷ codes "200 ---setuid(0) = 0" ∷ []);
  a_process_exits : Tells (codes "200 +++ exited with 0 +++") Exit Done;
  it_exits_with_a_status : Tells (codes "200 +++  exited   with 00127  +++") Exit Done;
  a_process_is_killed : Tells (codes "200 +++ killed by SIGSEGV (core dumped) +++") Exit Done;
  it_is_killed_by_an_empty_text : Tells (codes "200 +++ killed by +++") Exit Done;
  other_marks_are_no_event : TellNothing (codes "200 +++ exited with x +++" ∷ codes "200 +++ exited with +++"
      ∷ codes "200 +++ exited with 1 2 +++" ∷ codes "200 +++ exited with 0" ∷ codes "200 +++" ∷ codes "200 ++++++"
      ∷ codes "200 +++ exited with -1 +++" ∷ codes "200 +++ stopped by SIGSTOP +++" ∷ codes "200 +++ killed +++"
      ∷ codes "200 +++ exited with 0 +++ <unfinished ...>" ∷ []);
  a_thread_whose_place_is_taken : Have fault.Superseded
      (codes "200 +++ superseded by execve in pid 201 +++" ∷ codes "200 +++ superseded +++" ∷ []);
  -- the later line is held, and read at the end of the log as far as its event
  nothing_is_known_of_a_process_after_its_exit : reading the_world
      (codes "200 +++ exited with 0 +++" ∷ codes "200 setuid(33) = 0" ∷ codes "200 x" ∷ [])
      ≡ to_the_end (at_line 1 200 Exit Done ∷ at_line 2 200 (SetUid 33) Done ∷ []);
}
signals_and_ends = search

-- ---- calls in two parts

pub calls_in_two_parts : record {
  -- the event has the number of the line that ends the call
  a_call_is_resumed : reading the_world
      (codes "200 setuid(33 <unfinished ...>" ∷ codes "200 <... setuid resumed>) = 0" ∷ [])
      ≡ to_the_end (at_line 2 200 (SetUid 33) Done ∷ []);
  other_lines_come_between : reading the_world
      (codes "200 clone(child_stack=NULL, flags=SIGCHLD <unfinished ...>"
      ∷ codes "200 --- SIGCHLD {si_signo=SIGCHLD} ---" ∷ codes "200 setuid(1) = 0"
      ∷ codes "200 <... clone resumed>) = 201" ∷ codes "201 setuid(2) = 0" ∷ [])
      ≡ to_the_end
      (at_line 3 200 (SetUid 1) Done ∷ at_line 4 200 Fork (Child 201) ∷ at_line 5 201 (SetUid 2) Done ∷ []);
  names_are_compared_without_32 : reading the_world
      (codes "200 setuid32(33 <unfinished ...>" ∷ codes "200 <... setuid resumed>) = 0"
      ∷ codes "200 setgid(33 <unfinished ...>" ∷ codes "200 <... setgid32 resumed>) = 0" ∷ [])
      ≡ to_the_end (at_line 2 200 (SetUid 33) Done ∷ at_line 4 200 (SetGid 33) Done ∷ []);
  calls_that_are_not_read_are_kept_too : reading the_world
      (codes "200 wait4(-1,  <unfinished ...>" ∷ codes "200 <... wait4 resumed>NULL, 0, NULL) = 201" ∷ [])
      ≡ to_the_end [];
  a_second_begin_is_a_fault : reading the_world
      (codes "200 wait4(-1,  <unfinished ...>" ∷ codes "200 setuid(33 <unfinished ...>" ∷ [])
      ≡ up_to_fault [] 2 fault.Unfinished;
  a_call_without_a_begin_is_a_fault : reading the_world (codes "200 <... setuid resumed>) = 0" ∷ [])
      ≡ up_to_fault [] 1 fault.Unfinished;
  a_call_of_another_name_is_a_fault : reading the_world
      (codes "200 setuid(33 <unfinished ...>" ∷ codes "200 <... setgid resumed>) = 0" ∷ [])
      ≡ up_to_fault [] 2 fault.Unfinished;
  a_call_of_no_known_name_is_a_fault : reading the_world
      (codes "200 wait4(-1,  <unfinished ...>" ∷ codes "200 <... ??? resumed>) = ?" ∷ [])
      ≡ up_to_fault [] 2 fault.Unfinished;
  a_call_is_resumed_once : reading the_world
      (codes "200 setuid(33 <unfinished ...>" ∷ codes "200 <... setuid resumed>) = 0"
      ∷ codes "200 <... setuid resumed>) = 0" ∷ [])
      ≡ up_to_fault (at_line 2 200 (SetUid 33) Done ∷ []) 3 fault.Unfinished;
  a_resumed_call_that_is_not_finished_is_a_begin : reading the_world
      (codes "200 setuid(33 <unfinished ...>" ∷ codes "200 <... setuid resumed> <unfinished ...>" ∷ [])
      ≡ up_to_fault [] 2 fault.Unfinished;
  a_resumed_call_without_a_name_is_no_event : TellNothing
      (codes "200 <... resumed>) = 0" ∷ codes "200 <... resumed>" ∷ codes "200 <..." ∷ []);
  each_process_has_its_own_kept_call : reading the_world
      (codes "200 fork() = 201" ∷ codes "200 setuid(1 <unfinished ...>" ∷ codes "201 setuid(2 <unfinished ...>"
      ∷ codes "200 <... setuid resumed>) = 0" ∷ codes "201 <... setuid resumed>) = 0" ∷ [])
      ≡ to_the_end
      (at_line 1 200 Fork (Child 201) ∷ at_line 4 200 (SetUid 1) Done ∷ at_line 5 201 (SetUid 2) Done ∷ []);
  an_exit_drops_the_kept_call : reading the_world
      (codes "200 fork() = 201" ∷ codes "201 setuid(2 <unfinished ...>" ∷ codes "201 +++ exited with 0 +++"
      ∷ codes "200 fork() = 201" ∷ codes "201 setuid(3 <unfinished ...>" ∷ codes "201 <... setuid resumed>) = 0" ∷ [])
      ≡ to_the_end (at_line 1 200 Fork (Child 201) ∷ at_line 3 201 Exit Done ∷ at_line 4 200 Fork (Child 201)
      ∷ at_line 6 201 (SetUid 3) Done ∷ []);
  the_end_of_the_log_drops_it : reading the_world (codes "200 setuid(33 <unfinished ...>" ∷ []) ≡ to_the_end [];
  a_resumed_call_has_its_own_faults : reading the_world
      (codes "200 setuid(x <unfinished ...>" ∷ codes "200 <... setuid resumed>) = 0" ∷ [])
      ≡ up_to_fault [] 2 (fault.Argument 1);
}
calls_in_two_parts = search
