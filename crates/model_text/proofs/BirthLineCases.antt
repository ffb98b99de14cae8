-- Worked cases, by computation, of script lines of births and exits (fork(2), clone(2), unshare(2), _exit(2)), and of how
-- such events are printed.
use Rattle.std.proofs.Common.{◌≡◌, [], ◌∷◌, map, refl}
use Rattle.std.specs.Prelude.{codes}
use Rattle.cm_base.specs.declared.faults.LineFault.TheVariants as fault
use Rattle.cm_base.specs.declared.res.Res.TheVariants.{Done, Child, Err}
use Rattle.cm_base.specs.declared.errno.Errno.TheVariants.{EPERM, ENOSPC, ENOMEM, EAGAIN}
use Rattle.model_cred.specs.Call.{Fork, CloneUser, Unshare, Exit}
use Rattle.model_text.proofs.CaseWorld.{the_world}
use Rattle.model_text.proofs.LineCases.{IsEvent, Have, event_of}
use Rattle.model_text.proofs.PrintCases.{print_on_literals}
use Rattle.model_text.specs.Print.{event_text}

-- ---- fork, whose result is the child's pid
pub forks : record {
  fork_tells_the_child : IsEvent (codes "100 fork = 101") Fork (Child 101);
  leading_zeros_of_a_child : IsEvent (codes "00100\tfork =  00101 ") Fork (Child 101);
  least_child : IsEvent (codes "100 fork = 1") Fork (Child 1);
  largest_child : IsEvent (codes "100 fork = 4194304") Fork (Child 4194304);
  -- that no process is its own child is for the rules to say
  own_pid_as_child : IsEvent (codes "100 fork = 100") Fork (Child 100);
  fork_fails : IsEvent (codes "100 fork = EAGAIN") Fork (Err EAGAIN);
  -- which errors it may have is for the rules to say
  error_that_fork_has_not : IsEvent (codes "100 fork = EPERM") Fork (Err EPERM);
  shape_of_fork : Have fault.Shape
      (codes "100 fork" ∷ codes "100 fork =" ∷ codes "100 fork 101" ∷ codes "100 fork = 101 102"
      ∷ codes "100 fork = = 101" ∷ codes "100 fork == 101" ∷ codes "100 fork = EAGAIN 101" ∷ []);
  count_of_fork : Have fault.Count
      (codes "100 fork x = 101" ∷ codes "100 fork 101 = 0" ∷ codes "100 fork 0 = 101" ∷ []);
  result_of_fork : Have fault.Outcome
      (codes "100 fork = 0" ∷ codes "100 fork = 00" ∷ codes "100 fork = 4194305" ∷ codes "100 fork = 4294967295"
      ∷ codes "100 fork = 4294967296" ∷ codes "100 fork = -1" ∷ codes "100 fork = +101" ∷ codes "100 fork = 101x"
      ∷ codes "100 fork = 0x65" ∷ codes "100 fork = EFOO" ∷ codes "100 fork = eagain" ∷ []);
  names_of_no_birth : Have fault.Call (codes "100 vfork = 101" ∷ codes "100 clone = 101" ∷ codes "100 fork=101" ∷ []);
  pids_of_fork : Have fault.Pid (codes "0 fork = 101" ∷ codes "4194305 fork = 101" ∷ []);
}
forks = search

-- ---- a birth into a new space, and a new space for the caller
pub new_spaces : record {
  clone_user_tells_the_child : IsEvent (codes "100 clone_user = 101") CloneUser (Child 101);
  clone_user_fails : IsEvent (codes "100 clone_user = ENOSPC") CloneUser (Err ENOSPC);
  unshare_is_done : IsEvent (codes "100 unshare = 0") Unshare Done;
  unshare_is_refused : IsEvent (codes "100 unshare = EPERM") Unshare (Err EPERM);
  result_of_clone_user : Have fault.Outcome
      (codes "100 clone_user = 0" ∷ codes "100 clone_user = 4194305" ∷ codes "100 clone_user = -1"
      ∷ codes "100 clone_user = EFOO" ∷ []);
  result_of_unshare : Have fault.Outcome
      (codes "100 unshare = 101" ∷ codes "100 unshare = 00" ∷ codes "100 unshare = #1" ∷ []);
  counts_of_new_spaces : Have fault.Count (codes "100 clone_user #1 = 101" ∷ codes "100 unshare #1 = 0" ∷ []);
  shapes_of_new_spaces : Have fault.Shape
      (codes "100 clone_user" ∷ codes "100 clone_user 101" ∷ codes "100 unshare" ∷ codes "100 unshare 0"
      ∷ codes "100 unshare = 0 0" ∷ []);
}
new_spaces = search

-- ---- exit, whose result is 0 alone
pub exits : record {
  exit_is_done : IsEvent (codes "100 exit = 0") Exit Done;
  shape_of_exit : Have fault.Shape
      (codes "100 exit" ∷ codes "100 exit =" ∷ codes "100 exit 0" ∷ codes "100 exit = 0 0"
      ∷ codes "100 exit = = 0" ∷ []);
  count_of_exit : Have fault.Count (codes "100 exit 0 = 0" ∷ []);
  result_of_exit : Have fault.Outcome
      (codes "100 exit = 00" ∷ codes "100 exit = 1" ∷ codes "100 exit = 101" ∷ codes "100 exit = -1"
      ∷ codes "100 exit = EPERM" ∷ codes "100 exit = EAGAIN" ∷ codes "100 exit = EINTR" ∷ []);
  names_of_no_exit : Have fault.Call (codes "100 exit_group = 0" ∷ codes "100 _exit = 0" ∷ []);
}
exits = search

-- ---- printed events
pub births_and_exits_are_printed : map (λ e. event_text the_world e) (event_of Fork (Child 101) ∷ event_of Fork (Child 4194304)
    ∷ event_of Fork (Err ENOMEM) ∷ event_of CloneUser (Child 7) ∷ event_of Unshare Done ∷ event_of Exit Done ∷ [])
    ≡ codes "100 fork = 101" ∷ codes "100 fork = 4194304" ∷ codes "100 fork = ENOMEM" ∷ codes "100 clone_user = 7"
    ∷ codes "100 unshare = 0" ∷ codes "100 exit = 0" ∷ []
unfolding print_on_literals
births_and_exits_are_printed = refl
