-- Ids, numbers, capabilities and sets as strace(1) writes them (the reading is a choice).
use Rattle.std.specs.Prelude.{ℕ, codes, ◌==◌, Bool, true, false, nat_le, bytes_eq, map, find, List, [], ◌∷◌, Option, Some, None}
use Rattle.std.specs.Prelude.{option_and_then, option_map, unwrap_or, if◌then◌else◌}
use Rattle.std.specs.Option.{option_or}
use Rattle.cm_base.specs.CapSet.{none, single, union}
use Rattle.cm_base.specs.Limits.{greatest_number}
use Rattle.cm_base.specs.Names.{cap_of}
use Rattle.model_strace.specs.Marks.{without_front, trimmed, after_mark, cut_at, barred}
use Rattle.model_strace.specs.Written.{arguments_of, bracketed_whole, value_of}
use Rattle.model_text.specs.CapText.{hex_after}
use Rattle.model_text.specs.Token.{number_token, id_token, cap_token}

-- ---- numbers
-- at least one hexadecimal digit of either case, and such digits alone, of at most 32 bits
abbrev pub hex_digits : List ℕ → Option ℕ
hex_digits [] = None
hex_digits (byte ∷ text) =
    option_and_then (λ n. if nat_le n greatest_number then Some n else None) (hex_after 0 (byte ∷ text))

-- a hexadecimal number: `0x` and digits
abbrev pub hex_number : List ℕ → Option ℕ
hex_number text = option_and_then hex_digits (after_mark (codes "0x") text)

-- ---- lists of groups
-- one id before others
abbrev pub id_before : Option ℕ → Option (List ℕ) → Option (List ℕ)
id_before None ids = None
id_before (Some id) ids = option_map (λ more. id ∷ more) ids

-- the ids that texts are, each a number or -1
abbrev pub ids_of : List (List ℕ) → Option (List ℕ)
ids_of [] = Some []
ids_of (text ∷ texts) = id_before (id_token text) (ids_of texts)

-- the ids of a list: [ID, ID], or NULL for none
abbrev pub id_list : List ℕ → Option (List ℕ)
id_list text =
    if bytes_eq text (codes "NULL") then Some []
    else option_and_then (λ inside. ids_of (arguments_of inside)) (bracketed_whole (codes "[") (codes "]") text)

-- ---- capabilities
-- a capability without a comment: its name, a decimal or a hexadecimal number, whether or not there is such a capability
abbrev pub bare_capability : List ℕ → Option ℕ
bare_capability text = option_or (cap_token text) (hex_number text)

-- an argument of which this is left has ended: nothing, or a comma
abbrev pub has_ended : List ℕ → Bool
has_ended [] = true
has_ended (byte ∷ text) = byte == 44

-- whether the argument ends with a comment, where the comment ends in this text: at the first `*/`
abbrev pub comment_end : List ℕ → Option Bool
comment_end text = option_map (λ sides. has_ended (without_front sides.1)) (cut_at (codes "*/") text)

-- the same by the texts that commas part, since those in a comment part no arguments; a comment that doesn't end is none
abbrev pub ends_with_comment : List (List ℕ) → Bool
ends_with_comment [] = false
ends_with_comment (text ∷ texts) = unwrap_or (comment_end text) (ends_with_comment texts)

-- the capability before a comment, of which these texts are left
abbrev pub capability_before : List ℕ → List (List ℕ) → Option ℕ
capability_before text texts = if ends_with_comment texts then bare_capability (trimmed text) else None

-- the capability of a text, by what precedes and follows the beginning of a comment, with the texts after it
abbrev pub capability_cut : List ℕ → Option (List ℕ × List ℕ) → List (List ℕ) → Option ℕ
capability_cut text None texts = bare_capability text
capability_cut text (Some sides) texts = capability_before sides.0 (sides.1 ∷ texts)

-- the capability that arguments begin with, and a comment that may follow it
abbrev pub capability : List (List ℕ) → Option ℕ
capability [] = None
capability (text ∷ texts) = capability_cut text (cut_at (codes "/*") text) texts

-- ---- sets
-- the union of a set and those that terms are
abbrev pub union_with : (List ℕ → Option ℕ) → ℕ → List (List ℕ) → Option ℕ
union_with term set [] = Some set
union_with term set (text ∷ texts) = option_and_then (λ more. union_with term (union set more) texts) (term text)

-- the union of the sets that the terms between vertical bars are
abbrev pub union_of : (List ℕ → Option ℕ) → List ℕ → Option ℕ
union_of term text = union_with term none (map trimmed (barred text))

-- a term of a set of capabilities: `0`, or `1<<` and a capability's name
abbrev pub mask_term : List ℕ → Option ℕ
mask_term text =
    if bytes_eq text (codes "0") then Some none
    else option_map single (option_and_then cap_of (after_mark (codes "1<<") text))

-- a set of capabilities
abbrev pub mask : List ℕ → Option ℕ
mask text = union_of mask_term text

-- the names of the securebits, each with its value (capabilities(7), "The securebits flags")
abbrev pub securebit_names : List (List ℕ × ℕ)
securebit_names =
    (codes "SECBIT_NOROOT", 0x01) ∷ (codes "SECBIT_NOROOT_LOCKED", 0x02)
    ∷ (codes "SECBIT_NO_SETUID_FIXUP", 0x04) ∷ (codes "SECBIT_NO_SETUID_FIXUP_LOCKED", 0x08)
    ∷ (codes "SECBIT_KEEP_CAPS", 0x10) ∷ (codes "SECBIT_KEEP_CAPS_LOCKED", 0x20)
    ∷ (codes "SECBIT_NO_CAP_AMBIENT_RAISE", 0x40) ∷ (codes "SECBIT_NO_CAP_AMBIENT_RAISE_LOCKED", 0x80) ∷ []

-- the value of the securebit of that name
abbrev pub securebit : List ℕ → Option ℕ
securebit name = option_map (λ bit. bit.1) (find (λ bit. bytes_eq bit.0 name) securebit_names)

-- securebits: `0`, a hexadecimal number, or names
abbrev pub securebits : List ℕ → Option ℕ
securebits text = if bytes_eq text (codes "0") then Some none else option_or (hex_number text) (union_of securebit text)

-- ---- the two structures of capset
-- the members between braces, of a text that is nothing else
abbrev pub members_of : List ℕ → Option (List (List ℕ))
members_of text = option_map arguments_of (bracketed_whole (codes "{") (codes "}") text)

-- The three sets of capset.
pub record Sets : Type 0 where
  pub effective : ℕ
  pub permitted : ℕ
  pub inheritable : ℕ

-- three sets, where each is one
abbrev pub three_sets : Option ℕ → Option ℕ → Option ℕ → Option Sets
three_sets (Some e) (Some p) (Some i) = Some (record { effective = e; permitted = p; inheritable = i })
three_sets _ _ _ = None

-- the set of a member of that name
abbrev pub member_set : List ℕ → List ℕ → Option ℕ
member_set name text = option_and_then mask (value_of name text)

-- the sets of the members
abbrev pub sets_in : List (List ℕ) → Option Sets
sets_in (e ∷ p ∷ i ∷ []) =
    three_sets (member_set (codes "effective") e) (member_set (codes "permitted") p) (member_set (codes "inheritable") i)
sets_in _ = None

-- the sets: {effective=SET, permitted=SET, inheritable=SET}
abbrev pub sets_of : List ℕ → Option Sets
sets_of text = option_and_then sets_in (members_of text)

-- the process that the members name, of a version that is named
abbrev pub pid_in : List (List ℕ) → Option ℕ
pid_in (version ∷ pid ∷ []) =
    option_and_then (λ name. if bytes_eq name [] then None else option_and_then number_token (value_of (codes "pid") pid))
    (value_of (codes "version") version)
pid_in _ = None

-- the process of the header: {version=NAME, pid=PID}
abbrev pub header_pid : List ℕ → Option ℕ
header_pid text = option_and_then pid_in (members_of text)
