-- The filter of calls that a world's text declares (choice).
use Rattle.std.specs.Prelude.{ℕ, codes, is_none, Bool, List, [], ◌∷◌, ◌++◌, Result}
use Rattle.std.specs.List.{list_any}
use Rattle.cm_base.specs.declared.faults.WorldFault.TheVariants.{NoSuchCall}
use Rattle.cm_filter.specs.Filters.{Filter, filter_of}
use Rattle.cm_filter.specs.Kinds.{kind_named}
use Rattle.model_text.specs.Keys.{Key, key, Texts, Optional, shape_checks}
use Rattle.model_text.specs.Refusal.{Cause, Fault, first_standing, unless}
use Rattle.model_text.specs.Toml.{array_items, texts_among}
use Rattle.toml.specs.Data.{Members, get_member}

-- the keys of the filter
abbrev pub filter_keys : List Key
filter_keys = key (codes "exclude") Texts Optional ∷ []

-- the names of the calls that it excludes
abbrev pub excluded_names : Members → List (List ℕ)
excluded_names row = texts_among (array_items (get_member (codes "exclude") row))

-- its faults, in their order
abbrev pub filter_checks : Members → List (Cause × Bool)
filter_checks row = shape_checks filter_keys row ++ (Fault NoSuchCall, list_any (λ name. is_none (kind_named name)) (excluded_names row)) ∷ []

-- the filter
abbrev pub filter_row : Members → Result Filter Cause
filter_row row = unless (first_standing (filter_checks row)) (filter_of (excluded_names row))
