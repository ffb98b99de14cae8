-- The filters of processes, and what those of several have in common.
use Rattle.std.specs.Prelude.{ℕ, ◌&&◌, Bool, List, [], ◌∷◌, Option, None, Some}
use Rattle.cm_filter.specs.Filters.{Filter, permits, every_kind, either, both}
use Rattle.cm_filter.specs.declared.kind.CallKind.{CallKind}
use Rattle.model_cred.specs.Process.{Process, State, process_at}
use Rattle.model_cred.specs.World.{World}

-- the filter of an optional process: where there is none, which makes no call, every kind is excluded
abbrev pub filter_in : Option Process → Filter
filter_in None = every_kind
filter_in (Some p) = p.filter

-- the filter of a live process
abbrev pub filter_of : State → ℕ → Filter
filter_of s pid = filter_in (process_at s.processes pid)

-- calls of the kind are permitted, and the filter doesn't exclude them either
abbrev pub permitted_under : Filter → (CallKind → Bool) → CallKind → Bool
permitted_under filter permitted kind = permitted kind && permits filter kind

-- What a process may call: what is permitted, and its own filter doesn't exclude.
abbrev pub may_call : (CallKind → Bool) → State → ℕ → CallKind → Bool
may_call permitted s pid = permitted_under (filter_of s pid) permitted

-- what the filters of all these processes exclude; of none, every kind
abbrev pub shared_filter : State → List ℕ → Filter
shared_filter s [] = every_kind
shared_filter s (pid ∷ members) = both (filter_of s pid) (shared_filter s members)

-- What no member may call at first, nor ever after: what the world's filter excludes, and what those of all members do.
abbrev pub common_filter : World → State → List ℕ → Filter
common_filter w s members = either w.filter (shared_filter s members)
