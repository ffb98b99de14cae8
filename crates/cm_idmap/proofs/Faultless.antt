-- What a list without a fault is like: each extent ends within the ids, and no two have an id in common.
use Rattle.std.proofs.Common.{◌≡◌, ℕ, ◌+◌, ◌<◌, ◌≤◌, ◌==◌, ◌||◌, false, length, List, [], ◌∷◌, None, arith}
use Rattle.std.specs.Prelude.{nat_lt, All}
use Rattle.std.proofs.lemmas.Bool.{or_parts, ltb-false}
use Rattle.std.proofs.lemmas.Bool.Decides.{nat_tests}
use Rattle.std.proofs.lemmas.List.Elements.{All-cons}
use Rattle.cm_base.specs.Limits.{id_count}
use Rattle.model_cred.specs.IdMap.{Extent}
use Rattle.model_cred.specs.MapFault.{Empty, TooMany, ZeroLength, PastEnd, Overlap, IsMap, map_fault, extent_fault}
use Rattle.model_cred.specs.MapFault.{first_extent_fault, ranges_meet, extents_meet, overlap_with, first_overlap}
use Rattle.model_rules.proofs.Options.{both_none, not_some, none_is}
use Rattle.cm_idmap.proofs.Sides.{AllApart}

-- The extent ends within the ids on both sides.
pub record Fits (e : Extent) : Type 0 where
  pub inside : e.inside + e.length ≤ id_count
  pub outside : e.outside + e.length ≤ id_count

extent_fits : (i : ℕ) (e : Extent) → extent_fault i e ≡ None → Fits e
extent_fits i e is =
    let some : (nat_lt id_count (e.inside + e.length) || nat_lt id_count (e.outside + e.length)) ≡ false =
    (not_some _ (PastEnd i) None (not_some (e.length == 0) (ZeroLength i) _ is).1).0 in
    let parts : (nat_lt id_count (e.inside + e.length) ≡ false) × (nat_lt id_count (e.outside + e.length) ≡ false) = or_parts _ _ some in
    record { inside = ltb-false id_count _ parts.0; outside = ltb-false id_count _ parts.1 }

has_some : (n : ℕ) → (n == 0) ≡ false → 0 < n
has_some n is = grind (arith, nat_tests, is)

pub all_some : (i : ℕ) (list : List Extent) → first_extent_fault i list ≡ None → All (λ (e : Extent). 0 < e.length) list
all_some i [] is = λ k d below. absurd (omega (arith, below))
all_some i (e ∷ list) is =
    let parts : (extent_fault i e ≡ None) × (first_extent_fault (i + 1) list ≡ None) = both_none _ _ is in
    let some = (not_some (e.length == 0) (ZeroLength i) _ parts.0).0 in
    All-cons (λ (f : Extent). 0 < f.length) e list (has_some e.length some) (all_some (i + 1) list parts.1)

all_fit : (i : ℕ) (list : List Extent) → first_extent_fault i list ≡ None → All Fits list
all_fit i [] is = λ k d below. absurd (omega (arith, below))
all_fit i (e ∷ list) is =
    let parts : (extent_fault i e ≡ None) × (first_extent_fault (i + 1) list ≡ None) = both_none _ _ is in
    All-cons Fits e list (extent_fits i e parts.0) (all_fit (i + 1) list parts.1)

none_meets : (i j : ℕ) (e : Extent) (list : List Extent) → overlap_with i e j list ≡ None → All (λ f. extents_meet e f ≡ false) list
none_meets i j e [] is = λ k d below. absurd (omega (arith, below))
none_meets i j e (f ∷ list) is =
    let parts : (extents_meet e f ≡ false) × (overlap_with i e (j + 1) list ≡ None) = not_some _ (Overlap i j) _ is in
    All-cons (λ f. extents_meet e f ≡ false) f list parts.0 (none_meets i (j + 1) e list parts.1)

apart_parts : (e f : Extent) → extents_meet e f ≡ false
    → (ranges_meet e.inside e.length f.inside f.length ≡ false) × (ranges_meet e.outside e.length f.outside f.length ≡ false)
apart_parts e f is = or_parts _ _ is

all_apart : (i : ℕ) (list : List Extent) → first_overlap i list ≡ None → AllApart (λ e. e.inside) list × AllApart (λ e. e.outside) list
all_apart i [] is = (tt, tt)
all_apart i (e ∷ list) is =
    let parts : (overlap_with i e (i + 1) list ≡ None) × (first_overlap (i + 1) list ≡ None) = both_none _ _ is in
    let none : All (λ f. extents_meet e f ≡ false) list = none_meets i (i + 1) e list parts.0 in
    let rest : AllApart (λ e. e.inside) list × AllApart (λ e. e.outside) list = all_apart (i + 1) list parts.1 in
    ((λ k d below. (apart_parts e _ (none k d below)).0, rest.0), (λ k d below. (apart_parts e _ (none k d below)).1, rest.1))

faults_of : (list : List Extent) → map_fault list ≡ None → (first_extent_fault 0 list ≡ None) × (first_overlap 0 list ≡ None)
faults_of list is = both_none _ _ (not_some (nat_lt 340 (length list)) TooMany _ (not_some (length list == 0) Empty _ is).1).1

-- each extent of a map ends within the ids
pub map_fits : (map : List Extent) → IsMap map → All Fits map
map_fits map is = all_fit 0 map (faults_of map (none_is _ is)).0

-- each extent of a map has an id
pub map_some : (map : List Extent) → IsMap map → All (λ (e : Extent). 0 < e.length) map
map_some map is = all_some 0 map (faults_of map (none_is _ is)).0

-- no two extents of a map have an inside id in common, and none an outside id
pub map_apart : (map : List Extent) → IsMap map → AllApart (λ e. e.inside) map × AllApart (λ e. e.outside) map
map_apart map is = all_apart 0 map (faults_of map (none_is _ is)).1
