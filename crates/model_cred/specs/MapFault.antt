-- Which lists of extents are a map (user_namespaces(7), "Defining user and group ID mappings: writing to uid_map and
-- gid_map": the validity rules).
use Rattle.std.specs.Prelude.{ℕ, IsTrue, ◌+◌, ◌==◌, ◌&&◌, ◌||◌, Bool, nat_lt, is_none, length, List, [], ◌∷◌, Option, None, Some, if◌then◌else◌}
use Rattle.std.specs.Option.{option_or}
use Rattle.cm_base.specs.Limits.{id_count}
use Rattle.model_cred.specs.IdMap.{Extent}

-- Why a list is no map. An extent is named by its place in the list, from 0 on.
pub data MapFault : Type 0 where
  Empty : MapFault
  TooMany : MapFault
  ZeroLength : ℕ → MapFault
  PastEnd : ℕ → MapFault
  Overlap : ℕ → ℕ → MapFault

-- The fault of one extent at a place: no ids, or ids past the last one on one of its sides.
abbrev pub extent_fault : ℕ → Extent → Option MapFault
extent_fault i e =
    if e.length == 0 then Some (ZeroLength i)
    else if nat_lt id_count (e.inside + e.length) || nat_lt id_count (e.outside + e.length) then Some (PastEnd i)
    else None

-- the first fault of one extent, the list's head having place i
abbrev pub first_extent_fault : ℕ → List Extent → Option MapFault
first_extent_fault i [] = None
first_extent_fault i (e ∷ list) = option_or (extent_fault i e) (first_extent_fault (i + 1) list)

-- the range of a length from one id on and that from another on have an id in common
abbrev pub ranges_meet : ℕ → ℕ → ℕ → ℕ → Bool
ranges_meet first length other other_length = nat_lt first (other + other_length) && nat_lt other (first + length)

-- the two extents have an inside id in common, or an outside id
abbrev pub extents_meet : Extent → Extent → Bool
extents_meet e f = ranges_meet e.inside e.length f.inside f.length || ranges_meet e.outside e.length f.outside f.length

-- the first extent of a list that meets the one at place i, the list's head having place j
abbrev pub overlap_with : ℕ → Extent → ℕ → List Extent → Option MapFault
overlap_with i e j [] = None
overlap_with i e j (f ∷ list) = if extents_meet e f then Some (Overlap i j) else overlap_with i e (j + 1) list

-- the least pair of extents that meet, the list's head having place i
abbrev pub first_overlap : ℕ → List Extent → Option MapFault
first_overlap i [] = None
first_overlap i (e ∷ list) = option_or (overlap_with i e (i + 1) list) (first_overlap (i + 1) list)

-- the most lines of a map (user_namespaces(7), since Linux 4.15)
abbrev pub most_extents : ℕ
most_extents = 340

-- The first fault of a list, in this order (the order is a choice): no line, too many lines, a line of its own, two
-- lines that meet.
abbrev pub map_fault : List Extent → Option MapFault
map_fault list =
    if length list == 0 then Some Empty
    else if nat_lt most_extents (length list) then Some TooMany
    else option_or (first_extent_fault 0 list) (first_overlap 0 list)

-- the list is a map
abbrev pub is_map : List Extent → Bool
is_map list = is_none (map_fault list)

-- The list is a map.
abbrev pub IsMap : List Extent → Type 0
IsMap list = IsTrue (is_map list)
