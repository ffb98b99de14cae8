-- The tokens of user namespaces, called spaces here (choice): `init` for the initial one, a declared name, or `#N` for the
-- space of that number, whether it stands or not. `names` are the names of the declared spaces: of space 1, of space 2, and
-- so on.
use Rattle.std.specs.Prelude.{ℕ, codes, decimal, ◌+◌, ◌-◌, ◌==◌, bytes_eq, List, [], ◌∷◌, ◌++◌, Option, Some, None, slice_get}
use Rattle.std.specs.Prelude.{unwrap_or, if◌then◌else◌}
use Rattle.std.specs.Option.{option_or}
use Rattle.std.specs.Result.{result_ok}
use Rattle.cm_base.specs.Number.{read_decimal}

-- the number of the first space of that name, the first of the names being that of space n
abbrev pub number_named : ℕ → List (List ℕ) → List ℕ → Option ℕ
number_named n [] token = None
number_named n (name ∷ names) token = if bytes_eq name token then Some n else number_named (n + 1) names token

-- the number after a `#`
abbrev pub hash_number : List ℕ → Option ℕ
hash_number [] = None
hash_number (byte ∷ digits) = if byte == 35 then result_ok (read_decimal digits) else None

-- the number of the space that a token stands for
abbrev pub space_of_token : List (List ℕ) → List ℕ → Option ℕ
space_of_token names token =
    if bytes_eq token (codes "init") then Some 0 else option_or (number_named 1 names token) (hash_number token)

-- the name of a space: `init`, or that of a declared one
abbrev pub name_of_space : List (List ℕ) → ℕ → Option (List ℕ)
name_of_space names n = if n == 0 then Some (codes "init") else slice_get names (n - 1)

-- the token of a space: its name, or its number where it has none
abbrev pub space_token : List (List ℕ) → ℕ → List ℕ
space_token names n = unwrap_or (name_of_space names n) (codes "#" ++ decimal n)
