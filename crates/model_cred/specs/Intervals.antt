-- Sets of ids as lists of intervals. A set of ids of which most are held, or few, is a short list.
use Rattle.std.specs.Prelude.{ℕ, ◌+◌, ◌&&◌, ◌||◌, Bool, true, false, IsTrue, nat_le, nat_lt, List, [], ◌∷◌}
use Rattle.cm_base.specs.Limits.{id_count}

-- the ids from the first to the last one, both of them too
pub record Interval : Type 0 where
  pub first : ℕ
  pub last : ℕ

-- the id is one of the interval
abbrev pub is_between : Interval → ℕ → Bool
is_between i id = nat_le i.first id && nat_le id i.last

-- one of the intervals holds the id
abbrev pub ids_hold : List Interval → ℕ → Bool
ids_hold [] id = false
ids_hold (i ∷ list) id = is_between i id || ids_hold list id

-- The intervals ascend from a number on, each has an id and all are ids, and between two of them there is an id that
-- neither holds.
abbrev pub ascend_from : ℕ → List Interval → Bool
ascend_from low [] = true
ascend_from low (i ∷ list) = nat_le low i.first && nat_le i.first i.last && nat_lt i.last id_count && ascend_from (i.last + 2) list

-- the list is the one way to write its set: the intervals ascend, and no two of them touch
abbrev pub is_canonical : List Interval → Bool
is_canonical list = ascend_from 0 list

-- The list is canonical.
abbrev pub IsCanonical : List Interval → Type 0
IsCanonical list = IsTrue (is_canonical list)
