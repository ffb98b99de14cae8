-- The id maps that a row declares (user_namespaces(7)): arrays of extents, each `[inside, outside, length]`.
use Rattle.std.specs.Prelude.{ℕ, Bool, false, not, List, [], ◌∷◌, Option, Some, None, option_map, unwrap_or}
use Rattle.cm_base.specs.Limits.{greatest_number}
use Rattle.model_cred.specs.IdMap.{Extent, extents_of}
use Rattle.model_cred.specs.MapFault.{is_map}
use Rattle.model_rules.specs.Maps.{list_down}
use Rattle.model_text.specs.Toml.{array_items, number_from}
use Rattle.toml.specs.Data.{Data, array, Items, no_items, item, Members, get_member}

-- a number of an extent, 0 for a value that is none
abbrev pub extent_number : Data → ℕ
extent_number value = unwrap_or (number_from 0 greatest_number value) 0

-- the extent of an array of three numbers, an empty one for a value that is none
abbrev pub extent_of : Data → Extent
extent_of (array (item a (item b (item c no_items)))) = record { inside = extent_number a; outside = extent_number b; length = extent_number c }
extent_of _ = record { inside = 0; outside = 0; length = 0 }

-- the extents of an array
abbrev pub extents_listed : Items → List Extent
extents_listed no_items = []
extents_listed (item value values) = extent_of value ∷ extents_listed values

-- the list of extents at a key, where the row has it
abbrev pub map_at : List ℕ → Members → Option (List Extent)
map_at key row = option_map (λ value. extents_listed (array_items (Some value))) (get_member key row)

-- a list that is declared is no map
abbrev pub is_bad_map : Option (List Extent) → Bool
is_bad_map None = false
is_bad_map (Some list) = not (is_map list)

-- What is stored of the map that a space declares: nothing where it declares none, else the list with its outside ids taken
-- down through its parent's map. There is no answer where an extent doesn't lie in one extent of that.
abbrev pub stored_under : Option (List Extent) → Option (List Extent) → Option (Option (List Extent))
stored_under parent None = Some None
stored_under parent (Some list) = option_map (λ stored. Some stored) (list_down (extents_of parent) list)
