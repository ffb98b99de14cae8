-- Worked cases of events that are no step: no process, no space, a pid in use, another result than the rules give.
use Rattle.std.proofs.Common.{◌≡◌, true, [], ◌∷◌}
use Rattle.cm_base.specs.declared.errno.Errno.TheVariants.{EPERM, EINVAL, EAGAIN, EINTR}
use Rattle.cm_base.specs.declared.res.Res.TheVariants.{Done, Id, Child, Err}
use Rattle.model_cred.specs.Call.{SetUid, SetFsUid, Fork, SetNs, WriteUidMap, WriteSetgroups, Exit, AmbClear}
use Rattle.model_run.specs.Step.{NoProcess, NoSpace, PidInUse, Wrong}
use Rattle.model_run.proofs.Worlds.{user, one, world, done, refused, gives, replay, Leads}

pub no_steps : record {
  -- no event at all is a run
  no_events_change_nothing : Leads world (one (user 0)) [] (one (user 0));
  -- a process that isn't alive makes no call
  who_is_not_alive_makes_no_call : replay world (one (user 0)) (done 101 AmbClear ∷ []) ≡ NoProcess;
  who_exited_makes_no_call : replay world (one (user 0)) (done 100 Exit ∷ refused 100 Fork EAGAIN ∷ []) ≡ NoProcess;
  -- a space that doesn't stand is named by no call, whatever the result
  a_space_that_does_not_stand_is_not_joined : replay world (one (user 0)) (refused 100 (SetNs 1) EPERM ∷ []) ≡ NoSpace;
  nor_is_its_map_written : replay world (one (user 0)) (refused 100 (WriteUidMap 5 []) EINTR ∷ []) ≡ NoSpace;
  nor_is_its_word_written : replay world (one (user 0)) (gives 100 (WriteSetgroups 5 true) (Child 100) ∷ []) ≡ NoSpace;
  -- a child that is alive is told by no call
  a_living_child_is_told_by_no_call : replay world (one (user 0)) (gives 100 (SetUid 0) (Child 100) ∷ []) ≡ PidInUse;
  -- a result that isn't the rules' own
  a_call_that_is_refused_is_not_done : replay world (one (user 1000)) (done 100 (SetUid 0) ∷ []) ≡ Wrong (Err EPERM);
  a_call_that_is_done_is_not_refused : replay world (one (user 0)) (refused 100 (SetUid 0) EPERM ∷ []) ≡ Wrong Done;
  setfsuid_is_not_done : replay world (one (user 0)) (done 100 (SetFsUid 0) ∷ []) ≡ Wrong (Id 0);
  a_fork_tells_a_child : replay world (one (user 0)) (done 100 Fork ∷ []) ≡ Wrong (Child 1);
  a_fork_is_not_invalid : replay world (one (user 0)) (refused 100 Fork EINVAL ∷ []) ≡ Wrong (Child 1);
  an_exit_tells_no_error : replay world (one (user 0)) (refused 100 Exit EAGAIN ∷ []) ≡ Wrong Done;
}
no_steps = search
