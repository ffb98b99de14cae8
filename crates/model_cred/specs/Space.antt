-- User namespaces (user_namespaces(7)), called spaces here.
use Rattle.std.specs.Prelude.{◌≡◌, ℕ, ◌-◌, ◌==◌, ◌<◌, Bool, false, nat_lt, length, List, [], ◌∷◌, ◌++◌, Option, Some}
use Rattle.std.specs.Prelude.{None, find, unwrap_or, if◌then◌else◌, IfSome, IsSomeAnd}
use Rattle.std.specs.List.{list_any}
use Rattle.model_cred.specs.Credential.{IsId}
use Rattle.model_cred.specs.IdMap.{Extent, HasIds, extents_of, initial_map, is_the}
use Rattle.model_cred.specs.MapFault.{IsMap}

-- A space: its parent, its owner (the effective user id of the process that made it), its two maps where they are
-- written (their outside ids as the initial space sees them), whether the word in its setgroups file is "deny", and
-- whether the process that made it had CAP_SETFCAP (user_namespaces(7)).
pub record Space : Type 0 where
  pub parent : Option ℕ
  pub owner : ℕ
  pub uids : Option (List Extent)
  pub gids : Option (List Extent)
  pub deny : Bool
  pub creator_setfcap : Bool

-- What every space keeps: its owner is an id, and so is each outside id of its maps; each map that is written is a map.
pub record KeepsSpace (s : Space) : Type 0 where
  pub owner : IsId s.owner
  pub uids : HasIds (extents_of s.uids)
  pub gids : HasIds (extents_of s.gids)
  pub uid_map : IfSome s.uids IsMap
  pub gid_map : IfSome s.gids IsMap

-- The spaces, the newest first: space n is the one with n spaces after it, so that the last of the list is the initial
-- one (the numbers are a choice).
abbrev pub Spaces : Type 0
Spaces = List Space

-- a space of that number stands
abbrev pub stands : Spaces → ℕ → Bool
stands spaces n = nat_lt n (length spaces)

-- the space of that number
abbrev pub space_at : Spaces → ℕ → Option Space
space_at [] n = None
space_at (s ∷ older) n = if n == length older then Some s else space_at older n

-- a space without maps, in the place of one that doesn't stand: the space of a process always stands
abbrev pub no_space : Space
no_space = record { parent = None; owner = 0; uids = None; gids = None; deny = false; creator_setfcap = false }

-- the space of that number, which stands
abbrev pub space_of : Spaces → ℕ → Space
space_of spaces n = unwrap_or (space_at spaces n) no_space

-- the spaces with another in the place of that number
abbrev pub put_space : ℕ → Space → Spaces → Spaces
put_space n new [] = []
put_space n new (s ∷ older) = if n == length older then new ∷ older else s ∷ put_space n new older

-- the initial space: no parent, owner 0, each id standing for itself, setgroups allowed (choice: creator_setfcap false)
abbrev pub initial_space : Space
initial_space = record {
  parent = None;
  owner = 0;
  uids = Some initial_map;
  gids = Some initial_map;
  deny = false;
  creator_setfcap = false;
}

-- the initial space alone
abbrev pub first_spaces : Spaces
first_spaces = initial_space ∷ []

-- The spaces form a tree: there is the initial one, which has no parent, and the parent of each other is older
-- (user_namespaces(7), "Nested namespaces, namespace membership").
abbrev pub IsTree : Spaces → Type 0
IsTree [] = ⊥
IsTree (s ∷ []) = s.parent ≡ None
IsTree (s ∷ t ∷ older) = IsSomeAnd s.parent (λ p. p < length (t ∷ older)) × IsTree (t ∷ older)

-- The numbers of the given space, of its parent, and so on up to the initial space. The newest space is on this chain
-- where it is the given one, and the chain then goes on from its parent.
abbrev pub chain_from : Spaces → Option ℕ → List ℕ
chain_from [] n = []
chain_from (s ∷ older) n =
    (if is_the n (length older) then length older ∷ [] else [])
    ++ chain_from older (if is_the n (length older) then s.parent else n)

-- the numbers of the space and of those above it
abbrev pub chain : Spaces → ℕ → List ℕ
chain spaces n = chain_from spaces (Some n)

-- how deep the space is nested: 0 for the initial space (user_namespaces(7), "Nested namespaces, namespace membership")
abbrev pub level : Spaces → ℕ → ℕ
level spaces n = length (chain spaces n) - 1

-- the first space is the second or above it
abbrev pub is_at_or_above : Spaces → ℕ → ℕ → Bool
is_at_or_above spaces a n = list_any (λ m. m == a) (chain spaces n)

-- the parent of the space is that one
abbrev pub is_child : Option Space → ℕ → Bool
is_child None p = false
is_child (Some s) p = is_the s.parent p

-- the space on the chain of the second whose parent is the first, where the first is above the second
abbrev pub next_below : Spaces → ℕ → ℕ → Option ℕ
next_below spaces a n = find (λ m. is_child (space_at spaces m) a) (chain spaces n)
