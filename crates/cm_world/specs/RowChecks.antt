-- What is asked of the row of the filter and of a process's row, in the steps in which they are read.
use Rattle.std.specs.Prelude.{ℕ, Bool, is_none, List, [], ◌∷◌, ◌++◌, Result}
use Rattle.std.specs.List.{list_any}
use Rattle.cm_base.specs.declared.faults.WorldFault.TheVariants.{NoSuchCall}
use Rattle.cm_base.specs.declared.limited.Limited.TheVariants as limit
use Rattle.cm_filter.specs.Filters.{Filter, filter_of}
use Rattle.cm_filter.specs.Kinds.{kind_named}
use Rattle.model_text.specs.Keys.{Key, range_check, shape_checks}
use Rattle.model_text.specs.ProcessText.{has_many_groups}
use Rattle.model_text.specs.Refusal.{Cause, Fault, Limit, first_standing, unless}
use Rattle.toml.specs.Data.{Members}

-- one of the names is no call's
abbrev pub unknown_checks : List (List ℕ) → List (Cause × Bool)
unknown_checks names = (Fault NoSuchCall, list_any (λ name. is_none (kind_named name)) names) ∷ []

-- the filter that excludes the calls of these names, unless one names none
abbrev pub filter_excluding : List (List ℕ) → Result Filter Cause
filter_excluding names = unless (first_standing (unknown_checks names)) (filter_of names)

-- the faults of the keys of a row, where these are the keys that it may have, and its limit of groups, in their order
abbrev pub limited_checks : Members → List Key → List (Cause × Bool)
limited_checks row keys =
    shape_checks keys row ++ (Limit limit.Groups, has_many_groups row) ∷ range_check keys row ∷ []
