-- Who may write which id map (user_namespaces(7), "Defining user and group ID mappings: writing to uid_map and gid_map"),
-- said a second time, in the words of that page.
use Rattle.std.specs.Prelude.{◌≡◌, ◌⊎◌, ◌↔◌, ℕ, ◌+◌, ◌<◌, ◌≤◌, IsTrue, List, [], ◌∷◌, None, Some, All, Any}
use Rattle.cm_base.specs.declared.res.Res.TheVariants.{Done}
use Rattle.model_cred.specs.Credential.{Credential}
use Rattle.model_cred.specs.IdMap.{Extent, down}
use Rattle.model_cred.specs.MapFault.{is_map}
use Rattle.model_cred.specs.Space.{Space, Spaces, IsTree, space_of, stands}
use Rattle.model_rules.specs.Caps.{cap_setfcap}
use Rattle.model_rules.specs.Maps.{MapFile, UidMap, GidMap, map_of, parent_map, cap_for, effective_id, write_map}
use Rattle.model_rules.specs.Power.{Over}

-- a process in the space `at` with that credential has the capability over the parent of a space
pub record OverParent (spaces : Spaces) (at : ℕ) (c : Credential) (cap : ℕ) (t : Space) : Type 0 where
  pub parent : ℕ
  pub is_parent : t.parent ≡ Some parent
  pub power : Over spaces at c.effective c.uid.effective cap parent

-- the outside ids of an extent lie in one extent of the map
abbrev pub LiesInOne : List Extent → Extent → Type 0
LiesInOne map e = Any (λ p. (p.inside ≤ e.outside) × (e.outside + e.length ≤ p.inside + p.length)) map

-- the list maps the parent's id 0
abbrev pub MapsZero : List Extent → Type 0
MapsZero given = Any (λ e. (e.outside ≡ 0) × (0 < e.length)) given

-- Who maps the parent's user id 0: a writer in the parent with CAP_SETFCAP over it, or a writer in the space itself,
-- which was made with CAP_SETFCAP.
abbrev pub MayMapZero : Spaces → ℕ → Credential → ℕ → Type 0
MayMapZero spaces at c target =
    (((space_of spaces target).parent ≡ Some at) × Over spaces at c.effective c.uid.effective cap_setfcap at)
    ⊎ ((at ≡ target) × IsTrue (space_of spaces target).creator_setfcap)

-- The list is the writer's own: a single line that maps its effective id in the parent; it has the effective user id of the
-- space's owner; and for gid_map the word in the setgroups file is "deny".
pub record IsOwnLine (file : MapFile) (spaces : Spaces) (c : Credential) (t : Space) (given : List Extent) : Type 0 where
  pub line : Extent
  pub single : given ≡ line ∷ []
  pub one_id : line.length ≡ 1
  pub own_id : down (parent_map file spaces t) line.outside ≡ Some (effective_id file c)
  pub owner : c.uid.effective ≡ t.owner
  pub denied : file ≡ GidMap → IsTrue t.deny

-- A process in the space `at` with that credential may write the list to a map of the target: the map isn't written, and the
-- list is a map; the writer has CAP_SETUID (for gid_map CAP_SETGID) in the target; it is in the target or in its parent; the
-- outside ids have a mapping in the parent; for uid_map the parent's id 0 is mapped by one who may do that; and the writer has
-- CAP_SETUID (CAP_SETGID) in the parent, or the list is its own line.
pub record MayWriteMap (file : MapFile) (spaces : Spaces) (at : ℕ) (c : Credential) (target : ℕ) (given : List Extent) : Type 0 where
  pub unwritten : map_of file (space_of spaces target) ≡ None
  pub valid : IsTrue (is_map given)
  pub power : Over spaces at c.effective c.uid.effective (cap_for file) target
  pub place : (at ≡ target) ⊎ ((space_of spaces target).parent ≡ Some at)
  pub mapped : All (LiesInOne (parent_map file spaces (space_of spaces target))) given
  pub zero : file ≡ UidMap → MapsZero given → MayMapZero spaces at c target
  pub any_or_own : OverParent spaces at c (cap_for file) (space_of spaces target) ⊎ IsOwnLine file spaces c (space_of spaces target) given

-- The write is done exactly then.
unfoldable pub WhoWritesMaps : Type 0
WhoWritesMaps = (file : MapFile) (spaces : Spaces) (at : ℕ) (c : Credential) (target : ℕ) (given : List Extent) → IsTree spaces → IsTrue (stands spaces at)
    → ((write_map file spaces at c target given).res ≡ Done) ↔ MayWriteMap file spaces at c target given
