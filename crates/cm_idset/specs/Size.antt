-- How many ids a set holds.
use Rattle.std.specs.Prelude.{ℕ, zero, suc, ◌+◌, ◌-◌, Bool, List, [], ◌∷◌, if◌then◌else◌}
use Rattle.model_cred.specs.Intervals.{Interval}

-- the ids of the intervals, one interval after another
abbrev pub ids_count : List Interval → ℕ
ids_count [] = 0
ids_count (i ∷ list) = (i.last - i.first + 1) + ids_count list

-- how many numbers below a bound pass a test
unfoldable pub count_below : (ℕ → Bool) → ℕ → ℕ
count_below test zero = 0
count_below test (suc n) = (if test n then 1 else 0) + count_below test n
