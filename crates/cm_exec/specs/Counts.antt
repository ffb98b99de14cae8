-- What of a file counts for a caller.
use Rattle.std.specs.Prelude.{◌≡◌, ℕ}
use Rattle.cm_exec.specs.declared.counts.FilePrivilege.{FilePrivilege}
use Rattle.model_cred.specs.Credential.{Credential}
use Rattle.model_cred.specs.Space.{Spaces}
use Rattle.model_rules.specs.Exec.{setuid_counts, setgid_counts, attribute_counts}
use Rattle.model_rules.specs.FileView.{FileView}

-- These are the set-id bits that count for a caller in the space `at`, and whether the attribute takes effect.
pub record AreCounts (spaces : Spaces) (at : ℕ) (c : Credential) (file : FileView) (counts : FilePrivilege) : Type 0 where
  pub setuid : counts.setuid ≡ setuid_counts spaces at c file
  pub setgid : counts.setgid ≡ setgid_counts spaces at c file
  pub attribute : counts.attribute ≡ attribute_counts spaces at c file
