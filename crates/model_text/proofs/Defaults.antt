-- The credential of a process of which nothing but its user ids is declared.
use Rattle.std.proofs.Common.{false, []}
use Rattle.cm_base.specs.CapSet.{full, none}
use Rattle.model_cred.specs.Credential.{Credential, FourIds, all_four}
use Rattle.model_text.specs.ProcessText.{held_by_default}

-- group ids 0, no groups, all capabilities permitted and effective where the effective user id is 0, none inheritable or
-- ambient, all in the bounding set, no flags
abbrev pub default_cred : FourIds → Credential
default_cred ids = record {
  uid = ids;
  gid = all_four 0;
  groups = [];
  inheritable = none;
  permitted = held_by_default ids;
  effective = held_by_default ids;
  bounding = full;
  ambient = none;
  securebits = 0;
  no_new_privs = false;
}
