-- Tables of names with values in the code, in the words of the definitions.
use Rattle.std.specs.Prelude.{ℕ, map, List}
use Rattle.std.specs.Borrow.{Bor}

-- the rows of a table, each a name and what its value stands for
abbrev pub rows_of : {A B : Type 0} → (A → B) → List (Bor (List ℕ) × A) → List (List ℕ × B)
rows_of value table = map (λ row. (row.0.now, value row.1)) table
