use Rattle.std.proofs.Common.{◌≡◌, map, take}
use Rattle.std.specs.Prelude.{fold}
use Rattle.std.specs.String.{string_bytes}
use Rattle.cm_filter.specs.Filters.{excluding_named, no_filter}
use Rattle.cm_filter.proofs.filter.filter_of.Given as goal

abbrev pub invariant-loop-name : goal.invariant-loop-name
invariant-loop-name l = l.filter ≡ fold excluding_named no_filter (map string_bytes (take l.name-index l.names))
