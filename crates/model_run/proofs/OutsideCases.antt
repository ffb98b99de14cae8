-- Worked cases of errors from outside, which leave all as it was, and of those that a call never has.
use Rattle.std.proofs.Common.{◌≡◌, [], ◌∷◌}
use Rattle.cm_base.specs.declared.errno.Errno.TheVariants.{EINVAL, ENOSPC, ENOMEM, EAGAIN, EINTR, EFAULT, EIO, ENOENT, EACCES, ELIBBAD}
use Rattle.cm_base.specs.declared.res.FileRef.TheVariants.{Plain}
use Rattle.cm_base.specs.declared.res.Res.TheVariants.{Done, Id}
use Rattle.model_cred.specs.Call.{SetUid, SetFsUid, SetResUid, Fork, CloneUser, Unshare, WriteUidMap, Exec, AmbClear}
use Rattle.model_run.specs.Step.{Wrong}
use Rattle.model_run.proofs.Worlds.{user, one, world, refused, replay, Leads}

pub from_outside : record {
  -- what comes from outside leaves all as it was
  want_of_memory_changes_nothing : Leads world (one (user 0)) (refused 100 (SetResUid 1000 1000 1000) ENOMEM ∷ [])
      (one (user 0));
  the_five_common_errors_may_come : Leads world (one (user 0))
      (refused 100 Fork ENOMEM ∷ refused 100 CloneUser EAGAIN ∷ refused 100 (WriteUidMap 0 []) EINTR
      ∷ refused 100 AmbClear EFAULT ∷ refused 100 (Exec Plain) EIO ∷ []) (one (user 0));
  a_space_may_be_invalid_to_make : Leads world (one (user 0))
      (refused 100 CloneUser EINVAL ∷ refused 100 Unshare EINVAL ∷ []) (one (user 0));
  a_program_may_not_be_there : Leads world (one (user 0))
      (refused 100 (Exec Plain) ENOENT ∷ refused 100 (Exec Plain) EACCES ∷ refused 100 (Exec Plain) ELIBBAD ∷ [])
      (one (user 0));
  a_user_id_is_not_missing : replay world (one (user 0)) (refused 100 (SetUid 0) ENOENT ∷ []) ≡ Wrong Done;
  setfsuid_has_no_error : replay world (one (user 0)) (refused 100 (SetFsUid 0) ENOMEM ∷ []) ≡ Wrong (Id 0);
  want_of_space_is_the_rules_own : replay world (one (user 0)) (refused 100 Unshare ENOSPC ∷ []) ≡ Wrong Done;
}
from_outside = search
