-- The answer of a call that changes the credential of its caller alone.
use Rattle.cm_base.specs.declared.errno.Errno.{Errno}
use Rattle.cm_base.specs.declared.res.Res.{Res}
use Rattle.cm_base.specs.declared.res.Res.TheVariants.{Done, Err}
use Rattle.model_cred.specs.Credential.{Credential}

-- What a call answers, and the credential that it leaves.
pub record Answer : Type 0 where
  pub res : Res
  pub cred : Credential

-- the call is done and leaves this credential
abbrev pub done : Credential → Answer
done c = record { res = Done; cred = c }

-- the call is refused and leaves the credential as it was
abbrev pub refused : Errno → Credential → Answer
refused e c = record { res = Err e; cred = c }
