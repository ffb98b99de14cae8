-- Lists of intervals in the order in which they begin.
use Rattle.std.specs.Prelude.{◌≡◌, ℕ, ◌-◌, ◌<◌, ◌≤◌, ◌||◌, Bool, false, List, [], ◌∷◌, length, slice_get, All}
use Rattle.std.specs.Option.{option_map_or}
use Rattle.cm_base.specs.Limits.{id_count}
use Rattle.model_cred.specs.Intervals.{Interval, is_between, ids_hold, IsCanonical}
use Rattle.cm_idset.specs.Pairs.{reaches}

-- Each interval begins at the number, or before.
abbrev pub AllBegun : ℕ → List Interval → Type 0
AllBegun high [] = Unit {0}
AllBegun high (i ∷ list) = (i.first ≤ high) × AllBegun high list

-- Intervals of ids, of which none begins before a number, nor before an earlier one.
abbrev pub InOrderFrom : ℕ → List Interval → Type 0
InOrderFrom low [] = Unit {0}
InOrderFrom low (i ∷ list) = (low ≤ i.first) × (i.first ≤ i.last) × (i.last < id_count) × InOrderFrom i.first list

-- The list is in order, and begins where each interval of the other has begun.
abbrev pub Continues : List Interval → List Interval → Type 0
Continues done [] = Unit {0}
Continues done (i ∷ list) = AllBegun i.first done × InOrderFrom i.first (i ∷ list)

-- the last interval of the list, if it has one, goes on to the next or touches it
abbrev pub last_reaches : List Interval → Interval → Bool
last_reaches list next = option_map_or (λ last. reaches last next) (slice_get list (length list - 1)) false

-- An interval of ids can be put at the end of a canonical list: none of it begins later.
pub record CanTake (list : List Interval) (next : Interval) : Type 0 where
  pub canonical : IsCanonical list
  pub begun : AllBegun next.first list
  pub full : next.first ≤ next.last
  pub ids : next.last < id_count

-- The list with the ids of the interval: it is canonical, and none of it begins later than the interval.
pub record Taken (list : List Interval) (next : Interval) (new : List Interval) : Type 0 where
  pub canonical : IsCanonical new
  pub begun : AllBegun next.first new
  pub holds : (id : ℕ) → ids_hold new id ≡ (ids_hold list id || is_between next id)

-- The interval has an id, and all of it are ids.
pub record IsOfIds (i : Interval) : Type 0 where
  pub full : i.first ≤ i.last
  pub ids : i.last < id_count

-- Each interval does, and is.
abbrev pub AreIds : List Interval → Type 0
AreIds list = All IsOfIds list
