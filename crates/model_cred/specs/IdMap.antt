-- Id maps of user namespaces (user_namespaces(7), "User and group ID mappings: uid_map and gid_map").
use Rattle.std.specs.Prelude.{◌≡◌, ℕ, ◌+◌, ◌-◌, ◌<◌, ◌≤◌, ◌==◌, ◌&&◌, Bool, true, false, nat_le, nat_lt, List, [], ◌∷◌}
use Rattle.std.specs.Prelude.{Option, Some, None, if◌then◌else◌, All, Any}
use Rattle.cm_base.specs.Limits.{id_count}

-- One line of a map: the ids from inside on, length many, stand for those from outside on.
pub record Extent : Type 0 where
  pub inside : ℕ
  pub outside : ℕ
  pub length : ℕ

-- the id is one of those from the first on, as many as the length
abbrev pub lies_in : ℕ → ℕ → ℕ → Bool
lies_in first length id = nat_le first id && nat_lt id (first + length)

-- the outside id of an inside id, None where no line of the map holds it
abbrev pub down : List Extent → ℕ → Option ℕ
down [] id = None
down (e ∷ map) id = if lies_in e.inside e.length id then Some (e.outside + (id - e.inside)) else down map id

-- the inside id of an outside id, None where no line of the map holds it
abbrev pub up : List Extent → ℕ → Option ℕ
up [] id = None
up (e ∷ map) id = if lies_in e.outside e.length id then Some (e.inside + (id - e.outside)) else up map id

-- the id is an outside id of the map
abbrev pub is_outside : List Extent → ℕ → Bool
is_outside [] id = false
is_outside (e ∷ map) id = if lies_in e.outside e.length id then true else is_outside map id

-- A map that isn't written maps nothing (a new namespace "starts out without a mapping of user IDs (group IDs)").
abbrev pub extents_of : Option (List Extent) → List Extent
extents_of None = []
extents_of (Some map) = map

-- The outside ids of the map are ids: -1 is none ("unmapped and unusable").
abbrev pub HasIds : List Extent → Type 0
HasIds map = All (λ e. e.outside + e.length ≤ id_count) map

-- the map of the initial user namespace: each id stands for itself
abbrev pub initial_map : List Extent
initial_map = record { inside = 0; outside = 0; length = id_count } ∷ []

-- the optional number is there and is this one
abbrev pub is_the : Option ℕ → ℕ → Bool
is_the None n = false
is_the (Some m) n = n == m

-- The line holds the inside id, and the outside id lies as far after its outside as the inside id after its inside.
pub record TakesTo (inside outside : ℕ) (e : Extent) : Type 0 where
  pub from_first : e.inside ≤ inside
  pub before_end : inside < e.inside + e.length
  pub to : outside ≡ e.outside + (inside - e.inside)

-- The map takes the inside id to the outside id: some line of it does.
abbrev pub Maps : List Extent → ℕ → ℕ → Type 0
Maps map inside outside = Any (TakesTo inside outside) map
