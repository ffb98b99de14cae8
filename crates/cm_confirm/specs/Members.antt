-- Which pids are members, in whatever order they stand.
use Rattle.std.specs.Prelude.{◌≡◌, ℕ, List}
use Rattle.model_run.specs.Later.{is_member}

-- the members of the one list are those of the other
abbrev pub SameMembers : List ℕ → List ℕ → Type 0
SameMembers members others = (pid : ℕ) → is_member members pid ≡ is_member others pid
