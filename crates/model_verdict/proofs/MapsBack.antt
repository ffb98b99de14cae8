-- In a map each outside id has an inside id that stands for it, and goes back to it.
use Rattle.std.proofs.Common.{◌≡◌, ℕ, ◌+◌, ◌-◌, ◌<◌, ◌≤◌, ◌==◌, ◌||◌, true, false, List, [], ◌∷◌, Option, None, Some}
use Rattle.std.proofs.Common.{option_map, option_and_then, refl, sym, ap, ◌∙◌, inl, inr, subst, arith, length, get_or, IfSome}
use Rattle.std.specs.Prelude.{nat_lt}
use Rattle.std.proofs.lemmas.Bool.{cases_Bool, and_from, or_parts, cond-true, cond-false, ltb-false, lt-ltb}
use Rattle.cm_base.specs.Limits.{id_count}
use Rattle.model_cred.specs.IdMap.{Extent, extents_of, lies_in, up, down, is_outside}
use Rattle.model_cred.specs.MapFault.{map_fault, IsMap, extent_fault, first_extent_fault, ranges_meet, extents_meet, overlap_with, first_overlap}
use Rattle.model_cred.specs.MapFault.{Empty, TooMany, ZeroLength, PastEnd, Overlap, most_extents}
use Rattle.model_rules.proofs.Downs.{same_sides}
use Rattle.model_rules.proofs.Options.{both_none, not_some, none_is}
use Rattle.model_rules.proofs.Ranges.{lies_parts, lies_from}
use Rattle.model_rules.specs.SetId.{is_given}
use Rattle.model_rules.specs.Maps.{extent_down, list_down}
use Rattle.model_cred.specs.Space.{KeepsSpace}
use Rattle.model_verdict.specs.Back.{TakesBack, MapsTakeBack, KeptTakeBack}

some_same : (m n : ℕ) → Some m ≡ Some n → m ≡ n
some_same m n is = cc

-- ---- numbers
-- a number of one of two ranges that have none in common isn't in the other
apart_lies : (first length other other_length n : ℕ) → ranges_meet first length other other_length ≡ false → other ≤ n → n < other + other_length
    → lies_in first length n ≡ false
apart_lies first length other other_length n apart low high = elim (cases_Bool (lies_in first length n)) [
  | inl is ↦
      let here = lies_parts first length n is in
      let met : ranges_meet first length other other_length ≡ true
      = and_from _ _ (lt-ltb first (other + other_length) (omega (arith, here.0, here.1, low, high)))
      (lt-ltb other (first + length) (omega (arith, here.0, here.1, low, high))) in
      absurd (let no : true ≡ false = sym met ∙ apart in cc)
  | inr is_not ↦ is_not
]

-- ---- maps of which no inside id is in two extents
-- no inside id of the extent is in the map
abbrev Away : Extent → List Extent → Type 0
Away e [] = Unit {0}
Away e (f ∷ map) = (ranges_meet e.inside e.length f.inside f.length ≡ false) × Away e map

-- the inside ids are ids, each in one extent
abbrev pub Tidy : List Extent → Type 0
Tidy [] = Unit {0}
Tidy (e ∷ map) = (e.inside + e.length ≤ id_count) × Away e map × Tidy map

away_of : (i j : ℕ) (e : Extent) (map : List Extent) → overlap_with i e j map ≡ None → Away e map
away_of i j e [] none = tt
away_of i j e (f ∷ map) none =
    let parts = not_some (extents_meet e f) (Overlap i j) (overlap_with i e (j + 1) map) none in (
      (or_parts (ranges_meet e.inside e.length f.inside f.length) (ranges_meet e.outside e.length f.outside f.length) parts.0).0,
      away_of i (j + 1) e map parts.1,
    )

fine_low : (i : ℕ) (e : Extent) → extent_fault i e ≡ None → e.inside + e.length ≤ id_count
fine_low i e fine =
    let rest = not_some (e.length == 0) (ZeroLength i) _ fine in
    let ends = not_some (nat_lt id_count (e.inside + e.length) || nat_lt id_count (e.outside + e.length)) (PastEnd i) None rest.1 in
    ltb-false id_count (e.inside + e.length) (or_parts _ _ ends.0).0

tidy_of : (i : ℕ) (map : List Extent) → first_extent_fault i map ≡ None → first_overlap i map ≡ None → Tidy map
tidy_of i [] fine apart = tt
tidy_of i (e ∷ map) fine apart =
    let fines = both_none (extent_fault i e) (first_extent_fault (i + 1) map) fine in
    let aparts = both_none (overlap_with i e (i + 1) map) (first_overlap (i + 1) map) apart in
    (fine_low i e fines.0, away_of i (i + 1) e map aparts.0, tidy_of (i + 1) map fines.1 aparts.1)

pub map_is_tidy : (map : List Extent) → IsMap map → Tidy map
map_is_tidy map is =
    let some = not_some (length map == 0) Empty _ (none_is (map_fault map) is) in
    let few = not_some (nat_lt most_extents (length map)) TooMany _ some.1 in
    let parts = both_none (first_extent_fault 0 map) (first_overlap 0 map) few.1 in
    tidy_of 0 map parts.0 parts.1

-- ---- up and down
-- an extent whose inside ids aren't in the map doesn't hold an inside id of the map
up_apart : (e : Extent) (map : List Extent) (id n : ℕ) → Away e map → up map id ≡ Some n → lies_in e.inside e.length n ≡ false
up_apart e [] id n away is = absurd (cc)
up_apart e (f ∷ map) id n (apart, away) is = elim (cases_Bool (lies_in f.outside f.length id)) [
  | inl here ↦
      let low = lies_parts f.outside f.length id here in
      let value : f.inside + (id - f.outside) ≡ n
      = some_same _ _ (sym (cond-true (lies_in f.outside f.length id) (Some (f.inside + (id - f.outside))) (up map id) here) ∙ is) in
      apart_lies e.inside e.length f.inside f.length n apart (omega (arith, value)) (omega (arith, value, low.0, low.1))
  | inr later ↦
      up_apart e map id n away (sym (cond-false (lies_in f.outside f.length id) (Some (f.inside + (id - f.outside))) (up map id) later) ∙ is)
]

-- an outside id is taken up, and back
record Back (map : List Extent) (id : ℕ) : Type 0 where
  inside : ℕ
  up_is : up map id ≡ Some inside
  down_is : down map inside ≡ Some id
  low : inside < id_count

back_head : (e : Extent) (map : List Extent) (id : ℕ) → e.inside + e.length ≤ id_count → lies_in e.outside e.length id ≡ true → Back (e ∷ map) id
back_head e map id fits here =
    let low = lies_parts e.outside e.length id here in
    let inside : ℕ = e.inside + (id - e.outside) in
    let there : lies_in e.inside e.length inside ≡ true
    = lies_from e.inside e.length inside (omega arith) (omega (arith, low.0, low.1)) in
    let same : e.outside + (inside - e.inside) ≡ id = omega (arith, low.0, low.1) in
    record {
      inside = inside;
      up_is = cond-true (lies_in e.outside e.length id) (Some inside) (up map id) here;
      down_is = cond-true (lies_in e.inside e.length inside) (Some (e.outside + (inside - e.inside))) (down map inside) there
          ∙ ap (λ (k : ℕ). Some k) same;
      low = omega (arith, low.0, low.1, fits);
    }

goes_back : (map : List Extent) (id : ℕ) → Tidy map → is_outside map id ≡ true → Back map id
goes_back [] id tidy out = absurd (cc)
goes_back (e ∷ map) id (fits, away, tidy) out = elim (cases_Bool (lies_in e.outside e.length id)) [
  | inl here ↦ back_head e map id fits here
  | inr later ↦
      let rest : Back map id
      = goes_back map id tidy (sym (cond-false (lies_in e.outside e.length id) true (is_outside map id) later) ∙ out) in
      record {
        inside = rest.inside;
        up_is = cond-false (lies_in e.outside e.length id) (Some (e.inside + (id - e.outside))) (up map id) later ∙ rest.up_is;
        down_is = cond-false (lies_in e.inside e.length rest.inside) (Some (e.outside + (rest.inside - e.inside))) (down map rest.inside)
            (up_apart e map id rest.inside away rest.up_is) ∙ rest.down_is;
        low = rest.low;
      }
]

given_low : (n : ℕ) → n < id_count → is_given n ≡ true
given_low n low = grind (arith, low)

-- In such a map each outside id has an inside id that stands for it.
pub tidy_back : (map : List Extent) → Tidy map → TakesBack map
tidy_back map tidy id out =
    let back : Back map id = goes_back map id tidy out in
    (back.inside, record { up = back.up_is; down = back.down_is; given = given_low back.inside back.low })

pub maps_take_back : MapsTakeBack
unfolding MapsTakeBack
maps_take_back map is = tidy_back map (map_is_tidy map is)

-- ---- what is stored of a map that is written
-- the parts of a list that is taken down
record Parts (first : Option Extent) (rest : Option (List Extent)) (out : List Extent) : Type 0 where
  head : Extent
  tail : List Extent
  first_is : first ≡ Some head
  rest_is : rest ≡ Some tail
  out_is : head ∷ tail ≡ out

parts_of : (first : Option Extent) (rest : Option (List Extent)) (out : List Extent)
    → option_and_then (λ f. option_map (λ r. f ∷ r) rest) first ≡ Some out → Parts first rest out
parts_of (Some e) (Some list) out is = record { head = e; tail = list; first_is = refl; rest_is = refl; out_is = cc }
parts_of _ _ out is = absurd (cc)

away_down : (map : List Extent) (e d : Extent) (given out : List Extent) → (d.inside ≡ e.inside) × (d.length ≡ e.length) → list_down map given ≡ Some out
    → Away e given → Away d out
away_down map e d [] out same is away = let it : [] ≡ out = cc in subst (Away d) it tt
away_down map e d (f ∷ given) out same is (apart, away) =
    let parts = parts_of (extent_down map f) (list_down map given) out is in
    let sides = same_sides map f parts.head parts.first_is in
    subst (Away d) parts.out_is
    (rw (same.0, same.1, sides.0, sides.1) apart, away_down map e d given parts.tail same parts.rest_is away)

tidy_down : (map given out : List Extent) → list_down map given ≡ Some out → Tidy given → Tidy out
tidy_down map [] out is tidy = let it : [] ≡ out = cc in subst Tidy it tt
tidy_down map (e ∷ given) out is (fits, away, tidy) =
    let parts = parts_of (extent_down map e) (list_down map given) out is in
    let sides = same_sides map e parts.head parts.first_is in
    subst Tidy parts.out_is (
      omega (arith, sides.0, sides.1, fits),
      away_down map e parts.head given parts.tail sides parts.rest_is away,
      tidy_down map given parts.tail parts.rest_is tidy,
    )

pub stored_back : (map given out : List Extent) → IsMap given → list_down map given ≡ Some out → TakesBack out
stored_back map given out written is = tidy_back out (tidy_down map given out is (map_is_tidy given written))

-- so does a written map, and one that isn't written has no outside ids
take_back_of : (map : Option (List Extent)) → IfSome map IsMap → TakesBack (extents_of map)
unfolding MapsTakeBack
take_back_of None kept = λ id wrong. absurd (cc)
take_back_of (Some map) kept = maps_take_back map kept

pub kept_take_back : KeptTakeBack
unfolding KeptTakeBack
kept_take_back s keeps = λ k d low.
    let kept : KeepsSpace (get_or s.spaces k d) = keeps.spaces k d low in
    record { uids = take_back_of (get_or s.spaces k d).uids kept.uid_map; gids = take_back_of (get_or s.spaces k d).gids kept.gid_map }
