-- The outside ids that an id map gives of a set of ids.
use Rattle.std.specs.Prelude.{◌≡◌, ℕ, ◌+◌, ◌-◌, List, [], ◌∷◌, ◌++◌, Option, Some, None, if◌then◌else◌, nat_lt, max, min}
use Rattle.std.specs.Option.{option_to_list}
use Rattle.model_cred.specs.IdMap.{Extent, down}
use Rattle.model_cred.specs.Intervals.{Interval}
use Rattle.cm_idset.specs.Held.{Held}

-- The map takes an id that the intervals hold to this one (user_namespaces(7)).
abbrev pub InImage : List Extent → List Interval → ℕ → Type 0
InImage map list out = (id : ℕ) × Held list id × (down map id ≡ Some out)

-- what one line of a map makes of an interval: the ids that both have, as far from the line's outside as from its inside
abbrev pub image_of : Extent → Interval → Option Interval
image_of e i =
    if nat_lt (max e.inside i.first) (min (e.inside + e.length) (i.last + 1)) then Some (record {
      first = e.outside + (max e.inside i.first - e.inside);
      last = e.outside + (min (e.inside + e.length) (i.last + 1) - 1 - e.inside);
    })
    else None

-- of each interval
abbrev pub images : Extent → List Interval → List Interval
images e [] = []
images e (i ∷ list) = option_to_list (image_of e i) ++ images e list

-- what all lines make of them
abbrev pub all_images : List Extent → List Interval → List Interval
all_images [] list = []
all_images (e ∷ map) list = images e list ++ all_images map list
