-- Making and joining spaces (user_namespaces(7), unshare(2), clone(2), setns(2)).
use Rattle.std.specs.Prelude.{ℕ, ◌==◌, ◌&&◌, Bool, not, nat_lt, None, Some, if◌then◌else◌}
use Rattle.cm_base.specs.CapSet.{holds, full, none}
use Rattle.cm_base.specs.declared.errno.Errno.TheVariants.{EPERM, EINVAL, ENOSPC}
use Rattle.cm_base.specs.declared.res.Res.{Res}
use Rattle.model_cred.specs.Credential.{Credential}
use Rattle.model_cred.specs.IdMap.{extents_of, is_outside}
use Rattle.model_cred.specs.Space.{Space, Spaces, level, space_of}
use Rattle.model_rules.specs.Answer.{Answer, done, refused}
use Rattle.model_rules.specs.Caps.{cap_setfcap, cap_sys_admin}
use Rattle.model_rules.specs.Power.{has_over}

-- how deep spaces may be nested (user_namespaces(7); that 32 is the deepest level is a choice)
abbrev pub deepest : ℕ
deepest = 32

-- The credential of a process that comes into a space by making or joining it: all capabilities, and no securebits
-- (user_namespaces(7), "Capabilities"; the inheritable, ambient and bounding sets are a choice, as the kernel).
abbrev pub as_newcomer : Credential → Credential
as_newcomer c = record c { permitted = full; effective = full; bounding = full; inheritable = none; ambient = none; securebits = 0 }

-- the effective user and group id have a mapping in the space
abbrev pub is_mapped_in : Space → Credential → Bool
is_mapped_in s c = is_outside (extents_of s.uids) c.uid.effective && is_outside (extents_of s.gids) c.gid.effective

-- unshare(2) with CLONE_NEWUSER: ENOSPC where the caller's space is at the deepest level (unshare(2), "ERRORS";
-- user_namespaces(7) has its older name EUSERS), then EPERM where the effective user or group id isn't mapped in it (the
-- order is a choice); else the caller comes into the space that it makes.
abbrev pub unshare : Spaces → ℕ → Credential → Answer
unshare spaces at c =
    if not (nat_lt (level spaces at) deepest) then refused ENOSPC c
    else if not (is_mapped_in (space_of spaces at) c) then refused EPERM c
    else done (as_newcomer c)

-- The refusal of clone(2) with CLONE_NEWUSER, for the same reasons as that of unshare(2), or done: then the child, and
-- not the caller, comes into the space that is made.
abbrev pub clone_user : Spaces → ℕ → Credential → Res
clone_user spaces at c = (unshare spaces at c).res

-- The space that a process in the space `at` makes: that is its parent, the effective user id its owner
-- (user_namespaces(7), "Capabilities"); no maps yet, the setgroups word of the parent ("The /proc/pid/setgroups file"),
-- and whether its maker has CAP_SETFCAP.
abbrev pub created_by : Spaces → ℕ → Credential → Space
created_by spaces at c = record {
  parent = Some at;
  owner = c.uid.effective;
  uids = None;
  gids = None;
  deny = (space_of spaces at).deny;
  creator_setfcap = holds c.effective cap_setfcap;
}

-- setns(2): EINVAL for the caller's own space, then EPERM without CAP_SYS_ADMIN over the target
abbrev pub join : Spaces → ℕ → Credential → ℕ → Answer
join spaces at c target =
    if target == at then refused EINVAL c
    else if not (has_over spaces at c cap_sys_admin target) then refused EPERM c
    else done (as_newcomer c)
