-- Names in a list: the place of each, and whether one stands twice.
use Rattle.std.specs.Prelude.{ℕ, ◌+◌, List, [], ◌∷◌, Bool, true, not, ◌&&◌, if◌then◌else◌, String, string_bytes}
use Rattle.std.specs.List.{list_any}
use Rattle.std.specs.Str.{bytes_eq}
use Rattle.std.specs.declared.alloc.Global.{Global}

-- the place of the first of these names that is equal to a name, and past the last where none is
abbrev pub place_of : List (List ℕ) → List ℕ → ℕ
place_of [] name = 0
place_of (first ∷ names) name = if bytes_eq first name then 0 else place_of names name + 1

-- one of these names is equal to a name
abbrev pub is_among : List (List ℕ) → List ℕ → Bool
is_among names name = list_any (λ one. bytes_eq one name) names

-- no name stands twice
abbrev pub are_distinct : List (String Global) → Bool
are_distinct [] = true
are_distinct (first ∷ names) =
    not (list_any (λ name. bytes_eq (string_bytes name) (string_bytes first)) names) && are_distinct names
