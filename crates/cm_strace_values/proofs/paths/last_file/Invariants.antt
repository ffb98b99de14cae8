use Rattle.std.proofs.Common.{◌≡◌, ◌++◌, ◌∷◌, [], length}
use Rattle.std.specs.Prelude.{reverse}
use Rattle.cm_strace_values.proofs.paths.last_file.Given as goal
use Rattle.model_strace.specs.Files.{path_names, last_file}

-- what is left after that folder may name what the whole path may
abbrev pub invariant-loop-name : goal.invariant-loop-name
invariant-loop-name l = last_file (reverse (path_names l.rest) ++ l.folder ∷ []) ≡ last_file (reverse (path_names l.path))

abbrev pub decreases-loop-name : goal.decreases-loop-name
decreases-loop-name l = length l.rest
