-- What holds of each interval of a canonical list, and what it holds at all.
use Rattle.std.proofs.Common.{◌≡◌, ℕ, ◌+◌, ◌<◌, false, List, [], ◌∷◌, length, get_or, sym, subst, arith}
use Rattle.std.specs.Prelude.{IsTrue, nat_eq}
use Rattle.std.proofs.lemmas.List.Elements.{All-cons, All-nil}
use Rattle.cm_base.specs.Limits.{id_count}
use Rattle.cm_sets.specs.Sets.{HoldsSome, IsBelow}
use Rattle.model_cred.specs.Intervals.{Interval, ascend_from, IsCanonical}
use Rattle.model_cred.proofs.Intervals.{ascend_parts, held_above, first_held}
use Rattle.cm_idset.specs.Held.{Held}
use Rattle.cm_idset.specs.Order.{IsOfIds, AreIds}

all_of_ids : (low : ℕ) (list : List Interval) → IsTrue (ascend_from low list) → AreIds list
all_of_ids low [] is = All-nil IsOfIds
all_of_ids low (i ∷ list) is =
    let a = ascend_parts low i list is in
    All-cons IsOfIds i list (record { full = a.full; ids = a.ids }) (all_of_ids (i.last + 2) list a.rest)

-- each interval, at its place, is one of ids
pub of_ids_at : (list : List Interval) (k : ℕ) (i : Interval) → IsCanonical list → k < length list → i ≡ get_or list k i → IsOfIds i
of_ids_at list k i is below at = subst IsOfIds (sym at) (all_of_ids 0 list is k i below)

-- a list with an interval holds an id
pub some_held : (list : List Interval) → IsCanonical list → nat_eq (length list) 0 ≡ false → HoldsSome (Held list)
some_held [] is some = absurd (cc)
some_held (i ∷ list) is some = let a = ascend_parts 0 i list is in (i.first, first_held 0 i list a i.first (omega arith) a.full)

-- and nothing but ids
pub all_ids : (list : List Interval) → IsCanonical list → IsBelow id_count (Held list)
all_ids list is id held = (held_above 0 id list is held).1
