-- Ids that are read one by one.
use Rattle.std.proofs.Common.{ℕ, List, ◌++◌, Option}
use Rattle.std.specs.Prelude.{option_map}

-- ids before those that the rest gives
abbrev pub after_ids : List ℕ → Option (List ℕ) → Option (List ℕ)
after_ids ids read = option_map (λ more. ids ++ more) read
