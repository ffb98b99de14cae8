-- The texts of sets of capabilities: `all`, `none`, 16 hexadecimal digits of either case (bits above 40 are dropped), or
-- names joined by commas (choice; the names are those of capabilities(7)).
use Rattle.std.specs.Prelude.{ℕ, codes, ◌+◌, ◌-◌, ◌*◌, ◌==◌, ◌&&◌, nat_le, bytes_eq, length, List, [], ◌∷◌, Option, Some, None, if◌then◌else◌}
use Rattle.std.specs.Prelude.{option_map, option_and_then}
use Rattle.std.specs.Option.{option_or}
use Rattle.std.specs.List.{slice_split}
use Rattle.cm_base.specs.CapSet.{full, none, meet, with}
use Rattle.cm_base.specs.Names.{cap_of}

-- the value of a hexadecimal digit
abbrev pub hex_value : ℕ → Option ℕ
hex_value byte =
    if nat_le 48 byte && nat_le byte 57 then Some (byte - 48)
    else if nat_le 97 byte && nat_le byte 102 then Some (byte - 87)
    else if nat_le 65 byte && nat_le byte 70 then Some (byte - 55)
    else None

-- the number that hexadecimal digits spell after those that spell the one before
abbrev pub hex_after : ℕ → List ℕ → Option ℕ
hex_after before [] = Some before
hex_after before (byte ∷ text) = option_and_then (λ digit. hex_after (16 * before + digit) text) (hex_value byte)

-- 16 hexadecimal digits as a set
abbrev pub digits_set : List ℕ → Option ℕ
digits_set text = if length text == 16 then option_map (λ bits. meet bits full) (hex_after 0 text) else None

-- the set and the capabilities of these names
abbrev pub names_with : ℕ → List (List ℕ) → Option ℕ
names_with set [] = Some set
names_with set (name ∷ names) = option_and_then (λ cap. names_with (with set cap) names) (cap_of name)

-- names joined by commas as a set
abbrev pub names_set : List ℕ → Option ℕ
names_set text = names_with none (slice_split (λ byte. byte == 44) text)

-- the set that a text stands for
abbrev pub set_of_text : List ℕ → Option ℕ
set_of_text text =
    if bytes_eq text (codes "all") then Some full
    else if bytes_eq text (codes "none") then Some none
    else option_or (digits_set text) (names_set text)
