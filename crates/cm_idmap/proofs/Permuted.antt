-- A list in another order: it is a map where the list is one, and takes each id to the same one.
use Rattle.std.proofs.Common.{◌≡◌, ℕ, ◌+◌, ◌-◌, ◌<◌, ◌≤◌, ◌⊎◌, ◌==◌, ◌&&◌, ◌||◌, Bool, true, false, List, [], ◌∷◌, Option, None, Some, if◌then◌else◌, cond, refl, sym, subst, ◌∙◌, ap, inl, inr, length, arith, slice_index_or}
use Rattle.std.specs.Prelude.{find, All, nat_le, nat_lt, is_none, option_map, option_and_then, IfSome}
use Rattle.std.specs.Option.{option_or}
use Rattle.std.specs.List.Sorted.{IsPermutation}
use Rattle.std.proofs.lemmas.Bool.{cases_Bool, cond-true, cond-false, or_from, ltb-true, leb-true, le-leb, and_parts, and_from}
use Rattle.std.proofs.lemmas.Bool.Decides.{nat_tests}
use Rattle.std.proofs.lemmas.List.Elements.{All-head, All-tail}
use Rattle.std.proofs.lemmas.List.Sorted.{All-permutation, length_permutation}
use Rattle.cm_base.specs.Limits.{id_count}
use Rattle.model_cred.specs.IdMap.{Extent, down, up, lies_in}
use Rattle.model_cred.specs.MapFault.{Empty, TooMany, ZeroLength, PastEnd, Overlap, IsMap, map_fault, extent_fault, most_extents}
use Rattle.model_cred.specs.MapFault.{first_extent_fault, ranges_meet, extents_meet, overlap_with, first_overlap}
use Rattle.model_rules.proofs.Options.{not_some, none_is}
use Rattle.model_rules.proofs.Ranges.{lies_parts, lies_from}
use Rattle.model_rules.specs.Maps.{extent_down}
use Rattle.cm_idmap.specs.declared.side.Side.{Side}
use Rattle.cm_idmap.specs.declared.side.Side.TheVariants.{Inside, Outside}
use Rattle.cm_idmap.specs.Sides.{first_of, holds}
use Rattle.cm_idmap.proofs.Faultless.{Fits, map_fits, map_some}
use Rattle.cm_idmap.proofs.Orders.{map_apart_on}
use Rattle.cm_idmap.proofs.Passing.{Found, found_in, passing, passing_yes, passing_no, passing_none, passing_at, passing_permuted, find_permuted, find_narrow}
use Rattle.cm_idmap.proofs.Sides.{Apart, AllApart, meet_at}

-- ---- ids that at most one extent holds
not_held : (side : Side) (e f : Extent) (id : ℕ) → holds side id e ≡ true → Apart (first_of side) e f → holds side id f ≡ false
not_held side e f id here apart =
    elim (cases_Bool (holds side id f)) [
      | inl both ↦
          let one = lies_parts (first_of side e) e.length id here in
          let other = lies_parts (first_of side f) f.length id both in
          let meet : ranges_meet (first_of side e) e.length (first_of side f) f.length ≡ true
          = meet_at (first_of side e) e.length (first_of side f) f.length id one.0 one.1 other.0 other.1 in
          absurd (cc)
      | inr fails ↦ fails
    ]

-- where no two have an id in common, at most one extent holds an id
pub alone : (side : Side) (list : List Extent) (id : ℕ) → AllApart (first_of side) list → passing (holds side id) list ≤ 1
alone side [] id apart = omega (arith, passing_none (holds side id) [] (λ k d below. absurd (omega (arith, below))))
alone side (e ∷ list) id apart =
    elim (cases_Bool (holds side id e)) [
      | inl here ↦
          let none : passing (holds side id) list ≡ 0
          = passing_none (holds side id) list (λ k d below. not_held side e _ id here (apart.0 k d below)) in
          omega (arith, passing_yes (holds side id) e list here, none)
      | inr fails ↦ omega (arith, passing_no (holds side id) e list fails, alone side list id apart.1)
    ]

-- where two ranges with ids meet, they hold the greater of their first ids
meet_in : (first count other other_count : ℕ) → 0 < count → 0 < other_count → ranges_meet first count other other_count ≡ true
    → (id : ℕ) × (lies_in first count id ≡ true) × (lies_in other other_count id ≡ true)
meet_in first count other other_count some more meet =
    let parts = and_parts (nat_lt first (other + other_count)) (nat_lt other (first + count)) meet in
    let one = ltb-true first (other + other_count) parts.0 in
    let two = ltb-true other (first + count) parts.1 in
    elim (cases_Bool (nat_lt first other)) [
      | inl before ↦ let less = ltb-true first other before in
          (other, lies_from first count other (omega (arith, less)) two, lies_from other other_count other (omega arith) (omega (arith, more)))
      | inr not ↦ let less : other ≤ first = grind (arith, nat_tests, not) in
          (first, lies_from first count first (omega arith) (omega (arith, some)), lies_from other other_count first less one)
    ]

fewer : (side : Side) (e : Extent) (list : List Extent) (id : ℕ) → passing (holds side id) (e ∷ list) ≤ 1 → passing (holds side id) list ≤ 1
fewer side e list id few =
    elim (cases_Bool (holds side id e)) [
      | inl here ↦ omega (arith, passing_yes (holds side id) e list here, few)
      | inr fails ↦ omega (arith, passing_no (holds side id) e list fails, few)
    ]

-- where each id is held by at most one of a list of extents with ids, no two have one in common
pub apart_of_alone : (side : Side) (list : List Extent) → All (λ (e : Extent). 0 < e.length) list → ((id : ℕ) → passing (holds side id) list ≤ 1)
    → AllApart (first_of side) list
apart_of_alone side [] some few = tt
apart_of_alone side (e ∷ list) some few = (
  λ k d below. elim (cases_Bool (ranges_meet (first_of side e) e.length (first_of side (slice_index_or list k d)) (slice_index_or list k d).length)) [
    | inl meet ↦
        let rest = All-tail (λ (f : Extent). 0 < f.length) e list some in
        let both = meet_in (first_of side e) e.length _ _ (All-head (λ (f : Extent). 0 < f.length) e list some) (rest k d below) meet in
        let later : 1 ≤ passing (holds side both.0) list = passing_at (holds side both.0) list k d below both.2 in
        absurd (omega (arith, few both.0, passing_yes (holds side both.0) e list both.1, later))
    | inr apart ↦ apart
  ],
  apart_of_alone side list (All-tail (λ (f : Extent). 0 < f.length) e list some) (λ id. fewer side e list id (few id)),
)

-- ---- a map in another order
pub apart_permuted : (side : Side) (xs ys : List Extent) → ((id : ℕ) → passing (holds side id) ys ≡ passing (holds side id) xs)
    → All (λ (e : Extent). 0 < e.length) ys → AllApart (first_of side) xs → AllApart (first_of side) ys
apart_permuted side xs ys same some apart = apart_of_alone side ys some (λ id. omega (arith, same id, alone side xs id apart))

overlap_none : (i j : ℕ) (e : Extent) (list : List Extent) → All (Apart (first_of Inside) e) list → All (Apart (first_of Outside) e) list
    → overlap_with i e j list ≡ None
overlap_none i j e [] inside outside = refl
overlap_none i j e (f ∷ list) inside outside =
    cond-false (extents_meet e f) (Some (Overlap i j)) (overlap_with i e (j + 1) list)
    (or_from _ _ (All-head (Apart (first_of Inside) e) f list inside) (All-head (Apart (first_of Outside) e) f list outside))
    ∙ overlap_none i (j + 1) e list (All-tail (Apart (first_of Inside) e) f list inside) (All-tail (Apart (first_of Outside) e) f list outside)

-- no two extents meet where none have an id in common on either side
pub overlaps_none : (i : ℕ) (list : List Extent) → AllApart (first_of Inside) list → AllApart (first_of Outside) list → first_overlap i list ≡ None
overlaps_none i [] inside outside = refl
overlaps_none i (e ∷ list) inside outside =
    ap (λ o. option_or o (first_overlap (i + 1) list)) (overlap_none i (i + 1) e list inside.0 outside.0)
    ∙ overlaps_none (i + 1) list inside.1 outside.1

-- no extent has a fault where each has an id and ends within the ids
fine : (i : ℕ) (e : Extent) → 0 < e.length → Fits e → extent_fault i e ≡ None
fine i e some fits =
    let not_zero : (e.length == 0) ≡ false = grind (arith, nat_tests, some) in
    let inside : nat_lt id_count (e.inside + e.length) ≡ false = grind (arith, nat_tests, fits.inside) in
    let outside : nat_lt id_count (e.outside + e.length) ≡ false = grind (arith, nat_tests, fits.outside) in
    cond-false (e.length == 0) (Some (ZeroLength i)) _ not_zero
    ∙ cond-false (nat_lt id_count (e.inside + e.length) || nat_lt id_count (e.outside + e.length)) (Some (PastEnd i)) None (or_from _ _ inside outside)

all_fine : (i : ℕ) (list : List Extent) → All (λ (e : Extent). 0 < e.length) list → All Fits list → first_extent_fault i list ≡ None
all_fine i [] some fits = refl
all_fine i (e ∷ list) some fits =
    ap (λ o. option_or o (first_extent_fault (i + 1) list)) (fine i e (All-head (λ (f : Extent). 0 < f.length) e list some) (All-head Fits e list fits))
    ∙ all_fine (i + 1) list (All-tail (λ (f : Extent). 0 < f.length) e list some) (All-tail Fits e list fits)

-- a map has an extent, and not too many
some_few : (list : List Extent) → IsMap list → ((length list == 0) ≡ false) × (nat_lt most_extents (length list) ≡ false)
some_few list is =
    let parts = not_some (length list == 0) Empty _ (none_is (map_fault list) is) in
    (parts.0, (not_some (nat_lt most_extents (length list)) TooMany _ parts.1).0)

-- a map in another order is a map
pub map_permuted : (xs ys : List Extent) → IsPermutation xs ys → IsMap xs → IsMap ys
map_permuted xs ys moved is =
    let same : length ys ≡ length xs = length_permutation xs ys moved in
    let some = All-permutation (λ (e : Extent). 0 < e.length) xs ys moved (map_some xs is) in
    let fits = All-permutation Fits xs ys moved (map_fits xs is) in
    let inside = apart_permuted Inside xs ys (λ id. passing_permuted (holds Inside id) xs ys moved) some (map_apart_on Inside xs is) in
    let outside = apart_permuted Outside xs ys (λ id. passing_permuted (holds Outside id) xs ys moved) some (map_apart_on Outside xs is) in
    let parts = some_few xs is in
    ap is_none (
    cond-false (length ys == 0) (Some Empty) _ (ap (λ (n : ℕ). n == 0) same ∙ parts.0)
    ∙ (cond-false (nat_lt most_extents (length ys)) (Some TooMany) (option_or (first_extent_fault 0 ys) (first_overlap 0 ys))
    (ap (λ (n : ℕ). nat_lt most_extents n) same ∙ parts.1)
    ∙ (ap (λ o. option_or o (first_overlap 0 ys)) (all_fine 0 ys some fits) ∙ overlaps_none 0 ys inside outside)))

-- ---- what it takes an id to
map_kept : {A B : Type 0} (f : A → B) (b : Bool) (x : A) (o : Option A) → option_map f (cond b (Some x) o) ≡ cond b (Some (f x)) (option_map f o)
map_kept f true x o = refl
map_kept f false x o = refl

-- `down` is what the extent that holds the id makes of it
pub down_found : (list : List Extent) (id : ℕ) → down list id ≡ option_map (λ (e : Extent). e.outside + (id - e.inside)) (find (holds Inside id) list)
down_found [] id = refl
down_found (e ∷ list) id =
    ap (λ o. cond (lies_in e.inside e.length id) (Some (e.outside + (id - e.inside))) o) (down_found list id)
    ∙ sym (map_kept (λ (f : Extent). f.outside + (id - f.inside)) (lies_in e.inside e.length id) e (find (holds Inside id) list))

-- so is `up`, on the other side
pub up_found : (list : List Extent) (id : ℕ) → up list id ≡ option_map (λ (e : Extent). e.inside + (id - e.outside)) (find (holds Outside id) list)
up_found [] id = refl
up_found (e ∷ list) id =
    ap (λ o. cond (lies_in e.outside e.length id) (Some (e.inside + (id - e.outside))) o) (up_found list id)
    ∙ sym (map_kept (λ (f : Extent). f.inside + (id - f.outside)) (lies_in e.outside e.length id) e (find (holds Outside id) list))

-- the extent that holds an id is found in each order of a map
found_alike : (side : Side) (xs ys : List Extent) (id : ℕ) → IsPermutation xs ys → IsMap xs → find (holds side id) ys ≡ find (holds side id) xs
found_alike side xs ys id moved is = find_permuted (holds side id) xs ys moved (alone side xs id (map_apart_on side xs is))

pub down_permuted : (xs ys : List Extent) (id : ℕ) → IsPermutation xs ys → IsMap xs → down ys id ≡ down xs id
down_permuted xs ys id moved is =
    down_found ys id
    ∙ (ap (option_map (λ (e : Extent). e.outside + (id - e.inside))) (found_alike Inside xs ys id moved is)
    ∙ sym (down_found xs id))

pub up_permuted : (xs ys : List Extent) (id : ℕ) → IsPermutation xs ys → IsMap xs → up ys id ≡ up xs id
up_permuted xs ys id moved is =
    up_found ys id
    ∙ (ap (option_map (λ (e : Extent). e.inside + (id - e.outside))) (found_alike Outside xs ys id moved is)
    ∙ sym (up_found xs id))

-- ---- the extent that is found
-- It holds the id, and ends within the ids.
pub record Seat (side : Side) (id : ℕ) (e : Extent) : Type 0 where
  pub low : first_of side e ≤ id
  pub high : id < first_of side e + e.length
  pub fits : Fits e

seat_in_map : (side : Side) (list : List Extent) (id : ℕ) (e : Extent) → IsMap list → Found (holds side id) list e → Seat side id e
seat_in_map side list id e is found =
    let parts = lies_parts (first_of side e) e.length id found.passes in
    let there = found.stands in
    record { low = parts.0; high = parts.1; fits = subst Fits there.2 (map_fits list is there.0 e there.1) }

pub seat_of : (side : Side) (list : List Extent) (id : ℕ) (e : Extent) → (list ≡ []) ⊎ IsMap list → Some e ≡ find (holds side id) list → Seat side id e
seat_of side list id e (inl none) is =
    let it : Some e ≡ None = is ∙ ap (find (holds side id)) none in
    absurd (cc)
seat_of side list id e (inr map) is = seat_in_map side list id e map (found_in (holds side id) list e (sym is))

pub seat_of_map : (side : Side) (list : List Extent) (id : ℕ) (e : Extent) → IsMap list → Some e ≡ find (holds side id) list → Seat side id e
seat_of_map side list id e is found = seat_in_map side list id e is (found_in (holds side id) list e (sym found))

-- what `down` gives, by what is found
pub down_by : (list : List Extent) (id : ℕ) (o : Option Extent) → o ≡ find (holds Inside id) list
    → option_map (λ (e : Extent). e.outside + (id - e.inside)) o ≡ down list id
down_by list id o is = ap (option_map (λ (e : Extent). e.outside + (id - e.inside))) is ∙ sym (down_found list id)

pub up_by : (list : List Extent) (id : ℕ) (o : Option Extent) → o ≡ find (holds Outside id) list
    → option_map (λ (e : Extent). e.inside + (id - e.outside)) o ≡ up list id
up_by list id o is = ap (option_map (λ (e : Extent). e.inside + (id - e.outside))) is ∙ sym (up_found list id)

-- ---- an extent taken down through a map
-- the outside range of the extent lies in this one
abbrev pub lies_within : Extent → Extent → Bool
lies_within e p = nat_le p.inside e.outside && nat_le (e.outside + e.length) (p.inside + p.length)

-- the extent as it is taken down through this one
abbrev pub taken_by : Extent → Extent → Extent
taken_by e p = record e { outside = p.outside + (e.outside - p.inside) }

extent_down_found : (list : List Extent) (e : Extent) → extent_down list e ≡ option_map (taken_by e) (find (lies_within e) list)
extent_down_found [] e = refl
extent_down_found (p ∷ list) e =
    ap (λ o. cond (lies_within e p) (Some (taken_by e p)) o) (extent_down_found list e)
    ∙ sym (map_kept (taken_by e) (lies_within e p) p (find (lies_within e) list))

holds_first : (e p : Extent) → 0 < e.length → lies_within e p ≡ true → holds Inside e.outside p ≡ true
holds_first e p some within =
    let parts = and_parts (nat_le p.inside e.outside) (nat_le (e.outside + e.length) (p.inside + p.length)) within in
    let low = leb-true p.inside e.outside parts.0 in
    let high = leb-true (e.outside + e.length) (p.inside + p.length) parts.1 in
    lies_from p.inside p.length e.outside low (omega (arith, high, some))

-- what the extent that holds its first id makes of it
pub extent_down_by : (list : List Extent) (e : Extent) → 0 < e.length → IsMap list
    → extent_down list e ≡ option_map (taken_by e) (option_and_then (λ p. if lies_within e p then Some p else None) (find (holds Inside e.outside) list))
extent_down_by list e some is =
    extent_down_found list e
    ∙ ap (option_map (taken_by e)) (find_narrow (holds Inside e.outside) (lies_within e) list (λ p. holds_first e p some)
    (alone Inside list e.outside (map_apart_on Inside list is)))

pub extent_down_permuted : (xs ys : List Extent) (e : Extent) → IsPermutation xs ys → IsMap xs → 0 < e.length → extent_down ys e ≡ extent_down xs e
extent_down_permuted xs ys e moved is some =
    extent_down_by ys e some (map_permuted xs ys moved is)
    ∙ (ap (λ o. option_map (taken_by e) (option_and_then (λ p. if lies_within e p then Some p else None) o))
    (found_alike Inside xs ys e.outside moved is)
    ∙ sym (extent_down_by xs e some is))

extent_down_of : (list : List Extent) (e : Extent) (o : Option Extent) → 0 < e.length → IsMap list → o ≡ find (holds Inside e.outside) list
    → option_map (taken_by e) (option_and_then (λ p. if lies_within e p then Some p else None) o) ≡ extent_down list e
extent_down_of list e o some is found =
    ap (λ it. option_map (taken_by e) (option_and_then (λ p. if lies_within e p then Some p else None) it)) found ∙ sym (extent_down_by list e some is)

-- it is taken down through the extent that holds its first id, where its last one lies there too
pub extent_taken : (list : List Extent) (e p : Extent) → 0 < e.length → IsMap list → Some p ≡ find (holds Inside e.outside) list
    → e.outside + e.length ≤ p.inside + p.length → Some (taken_by e p) ≡ extent_down list e
extent_taken list e p some is found ends =
    let seat = seat_of_map Inside list e.outside p is found in
    let within : lies_within e p ≡ true = and_from _ _ (le-leb p.inside e.outside seat.low) (le-leb (e.outside + e.length) (p.inside + p.length) ends) in
    ap (option_map (taken_by e)) (sym (cond-true (lies_within e p) (Some p) None within)) ∙ extent_down_of list e (Some p) some is found

-- it isn't, where its last one doesn't
pub extent_past : (list : List Extent) (e p : Extent) → 0 < e.length → IsMap list → Some p ≡ find (holds Inside e.outside) list
    → p.inside + p.length < e.outside + e.length → None ≡ extent_down list e
extent_past list e p some is found past =
    let without : lies_within e p ≡ false = grind (arith, nat_tests, past) in
    ap (option_map (taken_by e)) (sym (cond-false (lies_within e p) (Some p) None without)) ∙ extent_down_of list e (Some p) some is found

-- nor where none holds its first id
pub extent_nowhere : (list : List Extent) (e : Extent) → 0 < e.length → IsMap list → None ≡ find (holds Inside e.outside) list → None ≡ extent_down list e
extent_nowhere list e some is found = extent_down_of list e None some is found

-- ---- what is given is an id
is_id_down : (list : List Extent) (id : ℕ) (o : Option Extent) → IsMap list → o ≡ find (holds Inside id) list
    → IfSome (option_map (λ (e : Extent). e.outside + (id - e.inside)) o) (λ n. n < id_count)
is_id_down list id None is found = tt
is_id_down list id (Some e) is found =
    let seat = seat_of_map Inside list id e is found in
    omega (arith, seat.low, seat.high, seat.fits.outside)

pub down_is_id : (list : List Extent) (id : ℕ) → IsMap list → IfSome (down list id) (λ n. n < id_count)
down_is_id list id is = subst (λ o. IfSome o (λ n. n < id_count)) (sym (down_found list id)) (is_id_down list id (find (holds Inside id) list) is refl)

is_id_up : (list : List Extent) (id : ℕ) (o : Option Extent) → IsMap list → o ≡ find (holds Outside id) list
    → IfSome (option_map (λ (e : Extent). e.inside + (id - e.outside)) o) (λ n. n < id_count)
is_id_up list id None is found = tt
is_id_up list id (Some e) is found =
    let seat = seat_of_map Outside list id e is found in
    omega (arith, seat.low, seat.high, seat.fits.inside)

pub up_is_id : (list : List Extent) (id : ℕ) → IsMap list → IfSome (up list id) (λ n. n < id_count)
up_is_id list id is = subst (λ o. IfSome o (λ n. n < id_count)) (sym (up_found list id)) (is_id_up list id (find (holds Outside id) list) is refl)
