-- Sets of ids by what they hold.
use Rattle.std.specs.Prelude.{ℕ, ◌≤◌, IsTrue, List}
use Rattle.model_cred.specs.Intervals.{Interval, is_between, ids_hold}

-- The intervals hold the id.
abbrev pub Held : List Interval → ℕ → Type 0
Held list id = IsTrue (ids_hold list id)

-- The id is one of the interval.
abbrev pub Between : Interval → ℕ → Type 0
Between i id = IsTrue (is_between i id)

-- The number is one from the first to the last.
abbrev pub Span : ℕ → ℕ → ℕ → Type 0
Span first last n = (first ≤ n) × (n ≤ last)
