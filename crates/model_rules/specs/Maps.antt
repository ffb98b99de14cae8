-- Writing the two maps of a space and its setgroups word (user_namespaces(7), "Defining user and group ID mappings:
-- writing to uid_map and gid_map" and "The /proc/pid/setgroups file"). What is alike for the two maps is said once.
-- `given` is the list that is written, its outside ids as the target's parent sees them; `stored` is that list as the
-- target keeps it, its outside ids as the initial space sees them.
use Rattle.std.specs.Prelude.{ℕ, ◌+◌, ◌-◌, ◌==◌, ◌&&◌, ◌||◌, Bool, true, false, not, is_none, nat_le, List, [], ◌∷◌}
use Rattle.std.specs.Prelude.{Option, None, Some, option_map, option_and_then, if◌then◌else◌}
use Rattle.std.specs.List.{list_any}
use Rattle.cm_base.specs.declared.errno.Errno.{Errno}
use Rattle.cm_base.specs.declared.errno.Errno.TheVariants.{EPERM, EINVAL}
use Rattle.cm_base.specs.declared.res.Res.{Res}
use Rattle.cm_base.specs.declared.res.Res.TheVariants.{Done, Err}
use Rattle.model_cred.specs.Credential.{Credential}
use Rattle.model_cred.specs.IdMap.{Extent, extents_of, lies_in, is_the}
use Rattle.model_cred.specs.MapFault.{is_map}
use Rattle.model_cred.specs.Space.{Space, Spaces, put_space, space_of}
use Rattle.model_rules.specs.Caps.{cap_setuid, cap_setgid, cap_setfcap, cap_sys_admin}
use Rattle.model_rules.specs.Power.{has_over}

-- What a write answers, and the spaces that it leaves.
pub record Written : Type 0 where
  pub res : Res
  pub spaces : Spaces

-- the write is refused and leaves the spaces as they were
abbrev pub write_refused : Errno → Spaces → Written
write_refused e spaces = record { res = Err e; spaces = spaces }

-- the write is done and leaves another space in the place of the target
abbrev pub write_done : Spaces → ℕ → Space → Written
write_done spaces target s = record { res = Done; spaces = put_space target s spaces }

-- Which of the two files is written: uid_map or gid_map.
pub data MapFile : Type 0 where
  UidMap : MapFile
  GidMap : MapFile

-- that map of a space, where it is written
abbrev pub map_of : MapFile → Space → Option (List Extent)
map_of UidMap s = s.uids
map_of GidMap s = s.gids

-- the space with that map written
abbrev pub with_map : MapFile → Space → List Extent → Space
with_map UidMap s map = record s { uids = Some map }
with_map GidMap s map = record s { gids = Some map }

-- the capability that a writer needs: CAP_SETUID or CAP_SETGID
abbrev pub cap_for : MapFile → ℕ
cap_for UidMap = cap_setuid
cap_for GidMap = cap_setgid

-- the writer's effective user or group id
abbrev pub effective_id : MapFile → Credential → ℕ
effective_id UidMap c = c.uid.effective
effective_id GidMap c = c.gid.effective

-- that map of the space's parent, without extents where it isn't written
abbrev pub parent_map : MapFile → Spaces → Space → List Extent
parent_map file spaces t = extents_of (option_and_then (λ p. map_of file (space_of spaces p)) t.parent)

-- the extent with its outside as the initial space sees it, where its outside range lies in one extent of the parent's map
abbrev pub extent_down : List Extent → Extent → Option Extent
extent_down [] e = None
extent_down (p ∷ map) e =
    if nat_le p.inside e.outside && nat_le (e.outside + e.length) (p.inside + p.length)
    then Some (record e { outside = p.outside + (e.outside - p.inside) })
    else extent_down map e

-- the list with its outsides as the initial space sees them, where each lies in one extent of the parent's map
abbrev pub list_down : List Extent → List Extent → Option (List Extent)
list_down map [] = Some []
list_down map (e ∷ given) =
    option_and_then (λ first. option_map (λ rest. first ∷ rest) (list_down map given)) (extent_down map e)

-- a process in the space `at` has the capability over the parent of a space
abbrev pub has_over_parent : Spaces → ℕ → Credential → ℕ → Option ℕ → Bool
has_over_parent spaces at c cap None = false
has_over_parent spaces at c cap (Some p) = has_over spaces at c cap p

-- The writer may write to the map at all: it isn't written, the writer sits in the target or in its parent, and it has
-- CAP_SETUID, for gid_map CAP_SETGID, over the target.
abbrev pub may_write : MapFile → Spaces → ℕ → Credential → ℕ → Bool
may_write file spaces at c target =
    is_none (map_of file (space_of spaces target))
    && (at == target || is_the (space_of spaces target).parent at)
    && has_over spaces at c (cap_for file) target

-- an outside range of the given list holds the parent's id 0
abbrev pub maps_zero : List Extent → Bool
maps_zero given = list_any (λ e. lies_in e.outside e.length 0) given

-- A uid_map that maps the parent's id 0 needs CAP_SETFCAP: a writer in the parent has it over the parent; for a writer
-- in the target the process that made the target had it.
abbrev pub setfcap_allows : MapFile → Spaces → ℕ → Credential → Space → List Extent → Bool
setfcap_allows GidMap spaces at c t given = true
setfcap_allows UidMap spaces at c t given =
    not (maps_zero given) || (if is_the t.parent at then has_over_parent spaces at c cap_setfcap t.parent else t.creator_setfcap)

-- the list is one extent of one id, which outside is this one
abbrev pub is_single : List Extent → ℕ → Bool
is_single [] id = false
is_single (e ∷ []) id = e.length == 1 && e.outside == id
is_single (e ∷ f ∷ rest) id = false

-- a gid_map of one id wants the word "deny" in the setgroups file
abbrev pub word_allows : MapFile → Space → Bool
word_allows UidMap t = true
word_allows GidMap t = t.deny

-- Without power over the parent: the stored list is the writer's own effective id alone, and the writer's effective user id is
-- that of the space's owner.
abbrev pub is_own_map : MapFile → Credential → Space → List Extent → Bool
is_own_map file c t stored = is_single stored (effective_id file c) && t.owner == c.uid.effective && word_allows file t

-- The writer may map these ids: by CAP_SETUID (CAP_SETGID) over the parent any, else its own alone.
abbrev pub may_map : MapFile → Spaces → ℕ → Credential → Space → List Extent → Bool
may_map file spaces at c t stored = has_over_parent spaces at c (cap_for file) t.parent || is_own_map file c t stored

-- the write of a list with what would be stored of it, or EPERM where nothing can be: an outside id isn't mapped in the
-- parent
abbrev pub write_stored : MapFile → Spaces → ℕ → Credential → ℕ → List Extent → Option (List Extent) → Written
write_stored file spaces at c target given None = write_refused EPERM spaces
write_stored file spaces at c target given (Some stored) =
    if setfcap_allows file spaces at c (space_of spaces target) given && may_map file spaces at c (space_of spaces target) stored
    then write_done spaces target (with_map file (space_of spaces target) stored)
    else write_refused EPERM spaces

-- Writing a map: EPERM where the writer may not write to it; EINVAL for a list that is no map; EPERM where an outside
-- range doesn't lie in one extent of the parent's map, or the writer may not map these ids (the order is a choice).
abbrev pub write_map : MapFile → Spaces → ℕ → Credential → ℕ → List Extent → Written
write_map file spaces at c target given =
    if not (may_write file spaces at c target) then write_refused EPERM spaces
    else if not (is_map given) then write_refused EINVAL spaces
    else write_stored file spaces at c target given (list_down (parent_map file spaces (space_of spaces target)) given)

-- writing uid_map
abbrev pub write_uid_map : Spaces → ℕ → Credential → ℕ → List Extent → Written
write_uid_map spaces at c target given = write_map UidMap spaces at c target given

-- writing gid_map
abbrev pub write_gid_map : Spaces → ℕ → Credential → ℕ → List Extent → Written
write_gid_map spaces at c target given = write_map GidMap spaces at c target given

-- the word may be written: not "deny" once gid_map is written, not "allow" once the word is "deny"
abbrev pub may_say : Space → Bool → Bool
may_say t deny = if deny then is_none t.gids else not t.deny

-- Writing the setgroups word: EPERM without CAP_SYS_ADMIN over the space, or where the word may not be written.
abbrev pub write_setgroups : Spaces → ℕ → Credential → ℕ → Bool → Written
write_setgroups spaces at c target deny =
    if has_over spaces at c cap_sys_admin target && may_say (space_of spaces target) deny
    then write_done spaces target (record (space_of spaces target) { deny = deny })
    else write_refused EPERM spaces
