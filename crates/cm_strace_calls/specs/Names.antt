-- The table of names, in the words of the definitions.
use Rattle.std.specs.Prelude.{ℕ, Bool, true, false, bytes_eq, find, List, ◌∷◌, Option, option_map}
use Rattle.model_strace.specs.Calls.{Listed}

-- the call of that name among these
abbrev pub named_in : List (List ℕ × Listed) → List ℕ → Option Listed
named_in calls name = option_map (λ call. call.1) (find (λ call. bytes_eq call.0 name) calls)

-- the name has two bytes or more
abbrev pub is_long : List ℕ → Bool
is_long (first ∷ second ∷ name) = true
is_long _ = false
