-- Filters: sets of kinds of calls that are excluded (choice; as seccomp(2) lets a process exclude calls).
use Rattle.std.specs.Prelude.{ℕ, ◌==◌, ◌<◌, ◌-◌, ◌^◌, Bool, not, bit_or, filter, fold, is_none, option_map, position, unwrap_or}
use Rattle.std.specs.Prelude.{List, Option, Some, None, Result, Ok, Err}
use Rattle.std.specs.Int.{bit_at}
use Rattle.cm_base.specs.CapSet.{union, meet, without}
use Rattle.cm_filter.specs.declared.kind.CallKind.{CallKind}
use Rattle.cm_filter.specs.Kinds.{call_kinds, kind_count, kind_named, kind_number}

-- A filter is the set of the kinds that it excludes, as a number: bit k tells of the kind with number k (choice).
abbrev pub Filter : Type 0
Filter = ℕ

-- the filter that excludes nothing
abbrev pub no_filter : Filter
no_filter = 0

-- the filter excludes the kind
abbrev pub excludes : Filter → CallKind → Bool
excludes filter kind = bit_at filter (kind_number kind) == 1

-- the filter doesn't exclude the kind
abbrev pub permits : Filter → CallKind → Bool
permits filter kind = not (excludes filter kind)

-- the filter that excludes the kind too
abbrev pub excluding : Filter → CallKind → Filter
excluding filter kind = bit_or filter (2 ^ kind_number kind)

-- the filter that excludes every kind
abbrev pub every_kind : Filter
every_kind = 2 ^ kind_count - 1

-- the filter that excludes what either excludes (seccomp(2): a filter that is installed comes to those before)
abbrev pub either : Filter → Filter → Filter
either filter other = union filter other

-- the filter that excludes what both exclude
abbrev pub both : Filter → Filter → Filter
both filter other = meet filter other

-- the filter without the exclusion of the kind
abbrev pub permitting : Filter → CallKind → Filter
permitting filter kind = without filter (kind_number kind)

-- the number has bits of kinds alone
abbrev pub IsFilter : Filter → Type 0
IsFilter filter = filter < 2 ^ kind_count

-- the filter that excludes just these kinds
abbrev pub filter_excluding : List CallKind → Filter
filter_excluding kinds = fold excluding no_filter kinds

-- the kinds that a filter excludes, in their order
abbrev pub excluded_kinds : Filter → List CallKind
excluded_kinds f = filter (excludes f) call_kinds

-- the filter that excludes the call of the name too, the filter itself where it names none
abbrev pub excluding_named : Filter → List ℕ → Filter
excluding_named filter name = unwrap_or (option_map (excluding filter) (kind_named name)) filter

-- the filter that excludes the calls of those names that name one
abbrev pub filter_of : List (List ℕ) → Filter
filter_of names = fold excluding_named no_filter names

-- the filter, or the place of a name that is no call's
abbrev pub unless_unknown : Option ℕ → Filter → Result Filter ℕ
unless_unknown None filter = Ok filter
unless_unknown (Some place) filter = Err place

-- the filter that excludes the calls of these names, or the place, from 0 on, of the first that is no call's
abbrev pub filter_of_names : List (List ℕ) → Result Filter ℕ
filter_of_names names = unless_unknown (position (λ name. is_none (kind_named name)) names) (filter_of names)
