-- Tables of names: a place of a table in the code, and that each name of the definitions is read back.
use Rattle.std.proofs.Common.{◌≡◌, ℕ, ◌<◌, true, List, length, map, Option, Some, None, Bor, eqb, get_or, refl, ap, ◌∙◌, arith}
use Rattle.std.specs.Prelude.{slice_get, option_map, option_and_then, unwrap_or}
use Rattle.std.proofs.lemmas.Bool.{agree_below_at, eqb-true}
use Rattle.std.proofs.lemmas.Option.{slice_get-map, slice_get-get_or}
use Rattle.cm_base.specs.declared.errno.Errno.{Errno}
use Rattle.cm_base.specs.declared.errno.Errno.TheVariants.{EPERM}
use Rattle.cm_base.specs.CapSet.{cap_count}
use Rattle.cm_base.specs.Names.{cap_name, cap_of, errno_name, errno_of}
use Rattle.cm_base.specs.Laws.{NamesReadBack}

-- the name at a place of a table
pub name_at : (table : List (Bor (List ℕ))) (place : ℕ) (other : Bor (List ℕ)) → place < length table
    → slice_get (map (λ (name : Bor (List ℕ)). name.now) table) place ≡ Some (get_or table place other).now
name_at table place other within =
    slice_get-map (λ (name : Bor (List ℕ)). name.now) table place
    ∙ ap (option_map (λ (name : Bor (List ℕ)). name.now)) (slice_get-get_or table place other within)

-- a number that the default isn't was there
some_from_unwrap : (o : Option ℕ) (default n : ℕ) → n < default → unwrap_or o default ≡ n → o ≡ Some n
some_from_unwrap None default n below same = absurd (omega arith)
some_from_unwrap (Some m) default n below same = ap Some same

cap_read_back : (c : ℕ) → c < cap_count → option_and_then cap_of (cap_name c) ≡ Some c
cap_read_back c below =
    some_from_unwrap (option_and_then cap_of (cap_name c)) 41 c below
    (eqb-true (unwrap_or (option_and_then cap_of (cap_name c)) 41) c
    (agree_below_at (λ (n : ℕ). eqb (unwrap_or (option_and_then cap_of (cap_name n)) 41) n) (λ (n : ℕ). true) 41 c refl below))

errno_read_back : (e : Errno) → errno_of (errno_name e) ≡ Some e
errno_read_back EPERM = refl
errno_read_back _ = refl

pub names_read_back : NamesReadBack
names_read_back = record { capability = cap_read_back; error = errno_read_back }
