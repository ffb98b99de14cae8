-- Names of calls that are read, and names of which one is no call's.
use Rattle.std.proofs.Common.{◌≡◌, ℕ, Bool, true, false, List, Option, None, Some, Ok, Err, refl, ap, ◌∙◌, is_none, is_some}
use Rattle.std.specs.Prelude.{position}
use Rattle.cm_base.specs.declared.faults.WorldFault.TheVariants.{NoSuchCall}
use Rattle.cm_filter.specs.Filters.{filter_of, filter_of_names, unless_unknown}
use Rattle.cm_filter.specs.Kinds.{kind_named}
use Rattle.model_text.specs.Refusal.{Fault}
use Rattle.cm_world.specs.RowChecks.{filter_excluding}
use Rattle.cm_declared.proofs.FirstPlaces.{any_placed}

-- the name is no call's
abbrev is_unknown : List ℕ → Bool
is_unknown name = is_none (kind_named name)

unless_ok : (o : Option ℕ) (made filter : ℕ) → unless_unknown o made ≡ Ok filter → (is_some o ≡ false) × (made ≡ filter)
unless_ok None made filter is = (refl, cc)
unless_ok (Some place) made filter is = absurd (cc)

unless_err : (o : Option ℕ) (made place : ℕ) → unless_unknown o made ≡ Err place → is_some o ≡ true
unless_err None made place is = absurd (cc)
unless_err (Some first) made place is = refl

-- names that are read
pub known : (names : List (List ℕ)) (filter : ℕ) → filter_of_names names ≡ Ok filter → filter_excluding names ≡ Ok filter
known names filter is =
    let (none, same) = unless_ok (position is_unknown names) (filter_of names) filter is in
    rw (any_placed is_unknown names ∙ none) (ap Ok same)

-- names of which one is no call's
pub unknown : (names : List (List ℕ)) (place : ℕ) → filter_of_names names ≡ Err place → filter_excluding names ≡ Err (Fault NoSuchCall)
unknown names place is =
    rw (any_placed is_unknown names ∙ unless_err (position is_unknown names) (filter_of names) place is) refl
