-- The calls that set user ids and group ids (setresuid(2), setreuid(2), setuid(2), setfsuid(2)). What is alike for users
-- and groups is said once, of the four ids, the caller's map, and whether the caller has the capability (CAP_SETUID or
-- CAP_SETGID).
use Rattle.std.specs.Prelude.{ℕ, ◌==◌, ◌&&◌, ◌||◌, Bool, not, List, Option, None, Some, Result, Ok, unwrap_or, if◌then◌else◌}
use Rattle.std.specs.declared.result.Result.TheVariants.{Err}
use Rattle.cm_base.specs.CapSet.{holds}
use Rattle.cm_base.specs.declared.errno.Errno.{Errno}
use Rattle.cm_base.specs.declared.errno.Errno.TheVariants.{EPERM, EINVAL}
use Rattle.cm_base.specs.declared.res.Res.TheVariants.{Id}
use Rattle.model_cred.specs.Credential.{Credential, FourIds, is_one_of_three, all_four}
use Rattle.model_cred.specs.IdMap.{Extent, down, up, extents_of}
use Rattle.model_cred.specs.Space.{Space}
use Rattle.model_rules.specs.Answer.{Answer, done, refused}
use Rattle.model_rules.specs.Caps.{cap_setgid}
use Rattle.model_rules.specs.Fixups.{fixed_up, fs_fixed_up}
pub use Rattle.cm_base.specs.Limits.{minus_one}
pub use Rattle.model_rules.specs.Caps.{cap_setuid}

-- the argument isn't -1
abbrev pub is_given : ℕ → Bool
is_given argument = not (argument == minus_one)

-- The id that an argument asks for: the old one at -1, else the one that it is mapped to.
abbrev pub asked : List Extent → ℕ → ℕ → Option ℕ
asked map old given = if given == minus_one then Some old else down map given

-- an id that is asked for, mapped, or EINVAL
abbrev pub one_mapped : Option ℕ → (ℕ → Result FourIds Errno) → Result FourIds Errno
one_mapped (Some id) then_ids = then_ids id
one_mapped None then_ids = Err EINVAL

-- two ids that are asked for, each mapped, or EINVAL
abbrev pub both_mapped : Option ℕ → Option ℕ → (ℕ → ℕ → Result FourIds Errno) → Result FourIds Errno
both_mapped (Some real) (Some effective) then_ids = then_ids real effective
both_mapped _ _ then_ids = Err EINVAL

-- three ids that are asked for, each mapped, or EINVAL
abbrev pub all_mapped : Option ℕ → Option ℕ → Option ℕ → (ℕ → ℕ → ℕ → Result FourIds Errno) → Result FourIds Errno
all_mapped (Some real) (Some effective) (Some saved) then_ids = then_ids real effective saved
all_mapped _ _ _ then_ids = Err EINVAL

-- The new ids, or the error, of setresuid and setresgid: a given id without a mapping is refused by EINVAL; without
-- the capability each must be the old real, effective or saved id, else EPERM; the fs id becomes the effective one.
abbrev pub setresid : List Extent → Bool → FourIds → ℕ → ℕ → ℕ → Result FourIds Errno
setresid map privileged old r e s =
    all_mapped (asked map old.real r) (asked map old.effective e) (asked map old.saved s) (λ real effective saved.
    if privileged || (is_one_of_three old real && is_one_of_three old effective && is_one_of_three old saved)
    then Ok (record { real = real; effective = effective; saved = saved; fs = effective })
    else Err EPERM)

-- The saved id after setreuid and setregid: the new effective id where the real one was given, or the effective one was
-- given and differs from the old real id; else the old one (setreuid(2), "DESCRIPTION").
abbrev pub saved_after : FourIds → ℕ → ℕ → ℕ → ℕ
saved_after old r e effective = if is_given r || (is_given e && not (effective == old.real)) then effective else old.saved

-- The new ids, or the error, of setreuid and setregid: a given id without a mapping is refused by EINVAL; without the
-- capability the real id must be the old real or effective one, the effective id the old real, effective or saved one,
-- else EPERM; the fs id becomes the effective one.
abbrev pub setreid : List Extent → Bool → FourIds → ℕ → ℕ → Result FourIds Errno
setreid map privileged old r e =
    both_mapped (asked map old.real r) (asked map old.effective e) (λ real effective.
    if privileged || ((real == old.real || real == old.effective) && is_one_of_three old effective)
    then Ok (record { real = real; effective = effective; saved = saved_after old r e effective; fs = effective })
    else Err EPERM)

-- The new ids, or the error, of setuid and setgid: an id without a mapping, as -1, is refused by EINVAL; with the
-- capability all become the id; without it the effective one alone does, which must be the old real or saved one, else
-- EPERM; the fs id becomes the effective one.
abbrev pub setid : List Extent → Bool → FourIds → ℕ → Result FourIds Errno
setid map privileged old argument =
    one_mapped (down map argument) (λ id.
    if privileged then Ok (all_four id)
    else if id == old.real || id == old.saved then Ok (record old { effective = id; fs = id })
    else Err EPERM)

-- the ids with another fs id where that is one of the four, or the caller has the capability; else as they were
abbrev pub with_fs : Bool → FourIds → Option ℕ → FourIds
with_fs privileged old None = old
with_fs privileged old (Some id) = if privileged || is_one_of_three old id || id == old.fs then record old { fs = id } else old

-- the new ids of setfsuid and setfsgid, which have no error: an id without a mapping changes nothing
abbrev pub setfsid : List Extent → Bool → FourIds → ℕ → FourIds
setfsid map privileged old argument = with_fs privileged old (down map argument)

-- the id for one without a mapping (user_namespaces(7), "Unmapped user and group IDs")
abbrev pub overflow_id : ℕ
overflow_id = 65534

-- an id as the caller's space sees it, the overflow id where it has no mapping
abbrev pub seen_id : List Extent → ℕ → ℕ
seen_id map id = unwrap_or (up map id) overflow_id

-- the caller may set user ids as it likes
abbrev pub has_setuid : Credential → Bool
has_setuid c = holds c.effective cap_setuid

-- the caller may set group ids as it likes
abbrev pub has_setgid : Credential → Bool
has_setgid c = holds c.effective cap_setgid

-- what a call that sets the user ids leaves
abbrev pub with_uids : Space → Credential → Result FourIds Errno → Answer
with_uids s c (Ok ids) = done (fixed_up s c.uid (record c { uid = ids }))
with_uids s c (Err e) = refused e c

-- what a call that sets the group ids leaves: it has no fixups
abbrev pub with_gids : Credential → Result FourIds Errno → Answer
with_gids c (Ok ids) = done (record c { gid = ids })
with_gids c (Err e) = refused e c

-- setresuid(2)
abbrev pub setresuid : Space → Credential → ℕ → ℕ → ℕ → Answer
setresuid s c r e v = with_uids s c (setresid (extents_of s.uids) (has_setuid c) c.uid r e v)

-- setreuid(2)
abbrev pub setreuid : Space → Credential → ℕ → ℕ → Answer
setreuid s c r e = with_uids s c (setreid (extents_of s.uids) (has_setuid c) c.uid r e)

-- setuid(2)
abbrev pub setuid : Space → Credential → ℕ → Answer
setuid s c id = with_uids s c (setid (extents_of s.uids) (has_setuid c) c.uid id)

-- setfsuid(2): it answers the fs id from before
abbrev pub setfsuid : Space → Credential → ℕ → Answer
setfsuid s c id = record {
  res = Id (seen_id (extents_of s.uids) c.uid.fs);
  cred = fs_fixed_up s c.uid.fs (record c { uid = setfsid (extents_of s.uids) (has_setuid c) c.uid id });
}

-- setresgid(2)
abbrev pub setresgid : Space → Credential → ℕ → ℕ → ℕ → Answer
setresgid s c r e v = with_gids c (setresid (extents_of s.gids) (has_setgid c) c.gid r e v)

-- setregid(2)
abbrev pub setregid : Space → Credential → ℕ → ℕ → Answer
setregid s c r e = with_gids c (setreid (extents_of s.gids) (has_setgid c) c.gid r e)

-- setgid(2)
abbrev pub setgid : Space → Credential → ℕ → Answer
setgid s c id = with_gids c (setid (extents_of s.gids) (has_setgid c) c.gid id)

-- setfsgid(2): it answers the fs id from before
abbrev pub setfsgid : Space → Credential → ℕ → Answer
setfsgid s c id = record {
  res = Id (seen_id (extents_of s.gids) c.gid.fs);
  cred = record c { gid = setfsid (extents_of s.gids) (has_setgid c) c.gid id };
}
