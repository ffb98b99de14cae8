-- From which places on files in memory are broken.
use Rattle.std.specs.Prelude.{ℕ, List, Bool, ◌&&◌, nat_le, map, string_bytes}
use Rattle.std.specs.List.{list_any}
use Rattle.std.specs.Str.{bytes_eq}
use Rattle.cm_io.specs.declared.breaks.Break.{Break}
use Rattle.cm_io.specs.declared.breaks.Breaks.{Breaks}

-- a name and a place
abbrev pub break_of : Break → List ℕ × ℕ
break_of row = (string_bytes row.name, row.place)

-- the names with their places, in the order in which they were told
abbrev pub breaks_of : Breaks → List (List ℕ × ℕ)
breaks_of breaks = map break_of breaks.rows.items

-- a read of this name at this place meets a place from which on the file is broken
abbrev pub is_broken : List (List ℕ × ℕ) → List ℕ → ℕ → Bool
is_broken breaks name at = list_any (λ one. bytes_eq one.0 name && nat_le one.1 at) breaks
