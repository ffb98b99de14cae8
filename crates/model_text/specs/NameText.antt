-- The rules of declared names and paths (choice), and which of earlier rows has a name or a path.
use Rattle.std.specs.Prelude.{ℕ, codes, ◌&&◌, ◌||◌, ◌==◌, Bool, not, nat_le, bytes_eq, length, List}
use Rattle.std.specs.List.{list_all, list_any}

-- a letter, a digit, `_`, `-` or `.`
abbrev pub is_name_byte : ℕ → Bool
is_name_byte byte =
    (nat_le 65 byte && nat_le byte 90) || (nat_le 97 byte && nat_le byte 122) || (nat_le 48 byte && nat_le byte 57)
    || byte == 95 || byte == 45 || byte == 46

-- The rule of names: 1 to 32 such bytes, and not `init`.
unfoldable pub is_name : List ℕ → Bool
is_name text =
    nat_le 1 (length text) && nat_le (length text) 32 && list_all is_name_byte text && not (bytes_eq text (codes "init"))

-- no byte up to the blank, and not DEL
abbrev pub is_path_byte : ℕ → Bool
is_path_byte byte = nat_le 33 byte && not (byte == 127)

-- The rule of paths: 1 to 4,095 such bytes, and not `-` or `=`.
unfoldable pub is_path : List ℕ → Bool
is_path text =
    nat_le 1 (length text) && nat_le (length text) 4095 && list_all is_path_byte text
    && not (bytes_eq text (codes "-")) && not (bytes_eq text (codes "="))

-- the text is one of these
abbrev pub is_one_of : List (List ℕ) → List ℕ → Bool
is_one_of texts text = list_any (λ known. bytes_eq known text) texts
