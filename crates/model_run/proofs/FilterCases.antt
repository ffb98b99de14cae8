-- Worked cases of filters that processes install (seccomp(2)).
use Rattle.std.proofs.Common.{◌≡◌, true, [], ◌∷◌, Some, refl}
use Rattle.cm_base.specs.declared.errno.Errno.TheVariants.{EPERM, EACCES, EINVAL}
use Rattle.cm_base.specs.declared.res.Res.TheVariants.{Id, Child, Err}
use Rattle.cm_base.specs.declared.res.FileRef.TheVariants.{Plain}
use Rattle.cm_filter.specs.Filters.{Filter, excluding, no_filter}
use Rattle.cm_filter.specs.declared.kind.CallKind.TheVariants as kind
use Rattle.model_cred.specs.Call.{Install, NoNewPrivs, Unshare, SetUid, SetFsUid, Fork, Exec, Exit, SetNs}
use Rattle.model_cred.specs.Credential.{Credential}
use Rattle.model_cred.specs.Process.{State}
use Rattle.model_run.specs.Later.{LaterRun}
use Rattle.model_run.specs.Own.{shared_filter}
use Rattle.model_run.specs.Step.{NoSpace, PidInUse, Wrong}
use Rattle.model_run.proofs.Worlds.{user, process, with_processes, world, one, done, refused, gives, replay, Leads, IsRefused}

-- the filter that excludes unshare, clone_user and setns
abbrev no_spaces : Filter
no_spaces = excluding (excluding (excluding no_filter kind.Unshare) kind.CloneUser) kind.SetNs

-- user 1000 under no_new_privs
abbrev bound : Credential
bound = record (user 1000) { no_new_privs = true }

-- process 100 alone, with that filter
abbrev under : Filter → Credential → State
under filter c = with_processes (record (process 100 c) { filter = filter } ∷ [])

-- without no_new_privs and CAP_SYS_ADMIN nothing is installed
pub a_user_may_not_install : IsRefused world (one (user 1000)) 100 (Install no_spaces) EACCES
a_user_may_not_install = record { refused = refl; done = refl }

-- with one of them it is, and the calls that it excludes are refused from then on
pub who_takes_no_new_privileges_installs : Leads world (one (user 1000))
    (refused 100 (Install no_spaces) EACCES ∷ done 100 (NoNewPrivs 1) ∷ done 100 (Install no_spaces) ∷ refused 100 Unshare EPERM ∷ [])
    (under no_spaces bound)
who_takes_no_new_privileges_installs = refl

pub an_excluded_call_is_not_done : replay world (under no_spaces bound) (done 100 Unshare ∷ []) ≡ Wrong (Err EPERM)
an_excluded_call_is_not_done = refl

pub root_installs : Leads world (one (user 0)) (done 100 (Install no_spaces) ∷ []) (under no_spaces (user 0))
root_installs = refl

-- no error from outside comes from an excluded call, and setfsuid has one error then
pub an_excluded_call_answers_nothing_else : replay world (under no_spaces bound) (refused 100 Unshare EINVAL ∷ []) ≡ Wrong (Err EPERM)
an_excluded_call_answers_nothing_else = refl

pub an_excluded_setfsuid_is_refused : Leads world (under (excluding no_filter kind.SetFsUid) bound) (refused 100 (SetFsUid 0) EPERM ∷ [])
    (under (excluding no_filter kind.SetFsUid) bound)
an_excluded_setfsuid_is_refused = refl

pub and_gives_no_id : replay world (under (excluding no_filter kind.SetFsUid) bound) (gives 100 (SetFsUid 0) (Id 1000) ∷ []) ≡ Wrong (Err EPERM)
and_gives_no_id = refl

-- that the space doesn't stand, and that the pid is in use, is looked at first
pub a_missing_space_comes_first : replay world (under no_spaces bound) (refused 100 (SetNs 1) EPERM ∷ []) ≡ NoSpace
a_missing_space_comes_first = refl

pub a_pid_in_use_comes_first : replay world (under (excluding no_filter kind.Fork) bound) (gives 100 Fork (Child 100) ∷ []) ≡ PidInUse
a_pid_in_use_comes_first = refl

-- exit is never excluded, and a filter is never taken off
pub who_excludes_exit_exits : Leads world (one bound) (done 100 (Install (excluding no_filter kind.Exit)) ∷ done 100 Exit ∷ []) (with_processes [])
who_excludes_exit_exits = refl

pub filters_add_up : Leads world (one bound)
    (done 100 (Install (excluding no_filter kind.Unshare)) ∷ done 100 (Install (excluding (excluding no_filter kind.CloneUser) kind.SetNs)) ∷ [])
    (under no_spaces bound)
filters_add_up = refl

pub install_excludes_itself : Leads world (one bound)
    (done 100 (Install (excluding no_filter kind.Install)) ∷ refused 100 (Install no_filter) EPERM ∷ [])
    (under (excluding no_filter kind.Install) bound)
install_excludes_itself = refl

-- a child has its parent's filter, also in a space of its own, and a program keeps it
pub a_child_has_the_filter : Leads world (under no_spaces bound) (gives 100 Fork (Child 101) ∷ done 100 (Exec Plain) ∷ [])
    (with_processes (record (process 100 bound) { filter = no_spaces } ∷ record (process 101 bound) { filter = no_spaces; forebear = Some 100 } ∷ []))
a_child_has_the_filter = refl

-- what two processes share is what both exclude
pub what_both_exclude_is_shared : shared_filter
    (with_processes (record (process 100 bound) { filter = no_spaces } ∷ record (process 101 bound) { filter = excluding no_filter kind.SetNs } ∷ []))
    (100 ∷ 101 ∷ [])
    ≡ excluding no_filter kind.SetNs
what_both_exclude_is_shared = refl

pub a_later_call_is_one_that_its_filter_permits : LaterRun world (under no_spaces bound) (100 ∷ []) (done 100 (SetUid 1000) ∷ []) (under no_spaces bound) (100 ∷ [])
a_later_call_is_one_that_its_filter_permits = (under no_spaces bound, refl, refl, refl, (refl, refl))
