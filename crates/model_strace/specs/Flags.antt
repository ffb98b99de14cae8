-- Flags as strace(1) writes them: words that vertical bars part (the reading is a choice).
use Rattle.std.specs.Prelude.{ℕ, codes, Bool, bytes_eq, filter_map, List, [], ◌∷◌, Option, Some, None, option_and_then}
use Rattle.std.specs.Prelude.{unwrap_or}
use Rattle.std.specs.List.{list_any}
use Rattle.std.specs.Option.{option_or}
use Rattle.model_strace.specs.Marks.{trimmed, barred}
use Rattle.model_strace.specs.Written.{arguments_of, bracketed, value_of}

-- the word stands among the flags
abbrev pub has_flag : List ℕ → List ℕ → Bool
has_flag word flags = list_any (λ flag. bytes_eq (trimmed flag) word) (barred flags)

-- the first of some
abbrev pub first_of_list : List (List ℕ) → Option (List ℕ)
first_of_list [] = None
first_of_list (text ∷ texts) = Some text

-- the value of the first member `flags`
abbrev pub flags_among : List (List ℕ) → Option (List ℕ)
flags_among texts = first_of_list (filter_map (value_of (codes "flags")) texts)

-- the flags of the first member `flags` between braces
abbrev pub flags_between : List ℕ → Option (List ℕ)
flags_between text = option_and_then (λ inside. flags_among (arguments_of inside)) (bracketed (codes "{") text)

-- the flags in an argument: flags=FLAGS, or such a member between braces (clone(2), clone3)
abbrev pub flags_in : List ℕ → Option (List ℕ)
flags_in text = option_or (value_of (codes "flags") text) (flags_between text)

-- the flags of a birth: those of the first argument that has any
abbrev pub birth_flags : List (List ℕ) → List ℕ
birth_flags arguments = unwrap_or (first_of_list (filter_map flags_in arguments)) []
