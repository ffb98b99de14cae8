-- Files in memory that are broken from a place on.
use Rattle.std.proofs.Common.{◌≡◌, ◌&&◌, ◌||◌, ℕ, List, [], ◌∷◌, map, nat_le, string_bytes, refl, ap}
use Rattle.std.specs.List.{list_any}
use Rattle.std.specs.Str.{bytes_eq}
use Rattle.cm_io.specs.Breaks.{break_of, is_broken}
use Rattle.cm_io.specs.declared.breaks.Break.{Break}

-- a row of the name, of a place that is passed
pub any_broken : (rows : List Break) (name : List ℕ) (at : ℕ)
    → list_any (λ row. bytes_eq (string_bytes row.name) name && nat_le row.place at) rows ≡ is_broken (map break_of rows) name at
any_broken [] name at = refl
any_broken (row ∷ rows) name at = ap (λ b. (bytes_eq (string_bytes row.name) name && nat_le row.place at) || b) (any_broken rows name at)
