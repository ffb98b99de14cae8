-- A list of extents that is a map, taken down through a map, is again a map.
use Rattle.std.proofs.Common.{◌≡◌, ℕ, suc, ◌+◌, ◌-◌, ◌≤◌, ◌==◌, ◌&&◌, ◌||◌, Bool, true, false, length, List, [], ◌∷◌}
use Rattle.std.proofs.Common.{Option, None, Some, refl, sym, ap, subst, ◌∙◌, inl, inr, arith}
use Rattle.std.specs.Prelude.{nat_le, nat_lt, is_none, option_map, option_and_then, IfSome}
use Rattle.std.specs.Option.{option_or}
use Rattle.std.proofs.lemmas.List.Elements.{All-nil, All-cons}
use Rattle.std.proofs.lemmas.Bool.{cases_Bool, and_parts, or_parts, or_from, leb-true, ltb-false, cond-true, cond-false}
use Rattle.cm_base.specs.Limits.{id_count}
use Rattle.model_cred.specs.IdMap.{Extent, HasIds, extents_of}
use Rattle.model_cred.specs.MapFault.{Empty, TooMany, ZeroLength, PastEnd, Overlap, IsMap, map_fault, extent_fault}
use Rattle.model_cred.specs.MapFault.{first_extent_fault, ranges_meet, extents_meet, overlap_with, first_overlap, most_extents}
use Rattle.model_rules.proofs.Options.{both_none, not_some, none_is}
use Rattle.model_rules.specs.Maps.{extent_down, list_down}

-- the outside range of the extent lies in the inside range of the other
abbrev lies_within : Extent → Extent → Bool
lies_within p e = nat_le p.inside e.outside && nat_le (e.outside + e.length) (p.inside + p.length)

-- the extent, its outside taken down through the other
abbrev through : Extent → Extent → Extent
through p e = record e { outside = p.outside + (e.outside - p.inside) }

-- two ranges are apart
abbrev Apart : ℕ → ℕ → ℕ → ℕ → Type 0
Apart first count other other_count = ranges_meet first count other other_count ≡ false

-- an extent that is taken down keeps its inside and its length, and its outside range lies in that of an extent of the map
-- that holds it
pub record IsDown (p e d : Extent) : Type 0 where
  pub low : p.inside ≤ e.outside
  pub high : e.outside + e.length ≤ p.inside + p.length
  pub is : through p e ≡ d

-- ---- one extent through a map of several
first_step : (p e d : Extent) (map : List Extent) → lies_within p e ≡ true → extent_down (p ∷ map) e ≡ Some d → IsDown p e d
first_step p e d map within is =
    let it : Some (through p e) ≡ Some d = sym (cond-true (lies_within p e) (Some (through p e)) (extent_down map e) within) ∙ is in
    let parts = and_parts (nat_le p.inside e.outside) (nat_le (e.outside + e.length) (p.inside + p.length)) within in
    record { low = leb-true p.inside e.outside parts.0; high = leb-true (e.outside + e.length) (p.inside + p.length) parts.1; is = cc }

later_step : (p e d : Extent) (map : List Extent) → lies_within p e ≡ false → extent_down (p ∷ map) e ≡ Some d → extent_down map e ≡ Some d
later_step p e d map without is = sym (cond-false (lies_within p e) (Some (through p e)) (extent_down map e) without) ∙ is

-- an extent that is taken down keeps its inside ids
pub same_sides : (map : List Extent) (e d : Extent) → extent_down map e ≡ Some d → (d.inside ≡ e.inside) × (d.length ≡ e.length)
same_sides [] e d is = absurd (cc)
same_sides (p ∷ map) e d is =
    elim (cases_Bool (lies_within p e)) [
      | inl within ↦
          let down = first_step p e d map within is in
          (sym (ap (λ (x : Extent). x.inside) down.is), sym (ap (λ (x : Extent). x.length) down.is))
      | inr without ↦ same_sides map e d (later_step p e d map without is)
    ]

-- an extent without a fault ends within the ids outside
outside_ends : (i : ℕ) (p : Extent) → extent_fault i p ≡ None → p.outside + p.length ≤ id_count
outside_ends i p is =
    let rest = not_some (p.length == 0) (ZeroLength i) _ is in
    let ends = not_some (nat_lt id_count (p.inside + p.length) || nat_lt id_count (p.outside + p.length)) (PastEnd i) None rest.1 in
    ltb-false id_count (p.outside + p.length) (or_parts _ _ ends.0).1

ends_within : (i : ℕ) (map : List Extent) → first_extent_fault i map ≡ None → HasIds map
ends_within i [] fine = All-nil (λ (p : Extent). p.outside + p.length ≤ id_count)
ends_within i (p ∷ map) fine =
    let parts = both_none (extent_fault i p) (first_extent_fault (i + 1) map) fine in
    All-cons (λ (p : Extent). p.outside + p.length ≤ id_count) p map (outside_ends i p parts.0) (ends_within (i + 1) map parts.1)

down_ends : (i : ℕ) (map : List Extent) (e d : Extent) → first_extent_fault i map ≡ None → extent_down map e ≡ Some d → d.outside + d.length ≤ id_count
down_ends i [] e d fine is = absurd (cc)
down_ends i (p ∷ map) e d fine is =
    let parts = both_none (extent_fault i p) (first_extent_fault (i + 1) map) fine in
    elim (cases_Bool (lies_within p e)) [
      | inl within ↦
          let down = first_step p e d map within is in
          let ends = outside_ends i p parts.0 in
          let there : d.outside ≡ p.outside + (e.outside - p.inside) = sym (ap (λ (x : Extent). x.outside) down.is) in
          let long : d.length ≡ e.length = sym (ap (λ (x : Extent). x.length) down.is) in
          omega (arith, ends, there, long, down.low, down.high)
      | inr without ↦ down_ends (i + 1) map e d parts.1 (later_step p e d map without is)
    ]

-- an extent of the map that meets none of the rest is apart from what goes through the rest
apart_from : (i j : ℕ) (p : Extent) (map : List Extent) (f d : Extent) → overlap_with i p j map ≡ None → extent_down map f ≡ Some d
    → Apart p.outside p.length d.outside d.length
apart_from i j p [] f d none is = absurd (cc)
apart_from i j p (q ∷ map) f d none is =
    let parts = not_some (extents_meet p q) (Overlap i j) _ none in
    elim (cases_Bool (lies_within q f)) [
      | inl within ↦
          let down = first_step q f d map within is in
          let apart : Apart p.outside p.length q.outside q.length = (or_parts _ _ parts.0).1 in
          let there : d.outside ≡ q.outside + (f.outside - q.inside) = sym (ap (λ (x : Extent). x.outside) down.is) in
          let long : d.length ≡ f.length = sym (ap (λ (x : Extent). x.length) down.is) in
          grind (arith, apart, there, long, down.low, down.high)
      | inr without ↦ apart_from i (j + 1) p map f d parts.1 (later_step q f d map without is)
    ]

-- two ranges that are apart are so after they are shifted alike
shift_apart : (to from first count other other_count : ℕ) → from ≤ first → from ≤ other → Apart first count other other_count
    → Apart (to + (first - from)) count (to + (other - from)) other_count
shift_apart to from first count other other_count low less apart = grind (arith, low, less, apart)

-- two extents that are apart outside are so after they are taken down
down_apart : (i : ℕ) (map : List Extent) (e f d g : Extent) → first_overlap i map ≡ None → extent_down map e ≡ Some d → extent_down map f ≡ Some g
    → Apart e.outside e.length f.outside f.length → Apart d.outside d.length g.outside g.length
down_apart i [] e f d g none is are apart = absurd (cc)
down_apart i (p ∷ map) e f d g none is are apart =
    let parts = both_none (overlap_with i p (i + 1) map) (first_overlap (i + 1) map) none in
    elim (cases_Bool (lies_within p e)) [
      | inl within ↦
          let down = first_step p e d map within is in
          let there : d.outside ≡ p.outside + (e.outside - p.inside) = sym (ap (λ (x : Extent). x.outside) down.is) in
          let long : d.length ≡ e.length = sym (ap (λ (x : Extent). x.length) down.is) in
          elim (cases_Bool (lies_within p f)) [
            | inl both ↦
                let second = first_step p f g map both are in
                let here : g.outside ≡ p.outside + (f.outside - p.inside) = sym (ap (λ (x : Extent). x.outside) second.is) in
                let size : g.length ≡ f.length = sym (ap (λ (x : Extent). x.length) second.is) in
                rw (there, long, here, size) (shift_apart p.outside p.inside e.outside e.length f.outside f.length down.low second.low apart)
            | inr without ↦
                let far = apart_from i (i + 1) p map f g parts.0 (later_step p f g map without are) in
                grind (arith, far, there, long, down.low, down.high)
          ]
      | inr without ↦
          elim (cases_Bool (lies_within p f)) [
            | inl second ↦
                let down = first_step p f g map second are in
                let there : g.outside ≡ p.outside + (f.outside - p.inside) = sym (ap (λ (x : Extent). x.outside) down.is) in
                let long : g.length ≡ f.length = sym (ap (λ (x : Extent). x.length) down.is) in
                let far = apart_from i (i + 1) p map e d parts.0 (later_step p e d map without is) in
                grind (arith, far, there, long, down.low, down.high)
            | inr neither ↦ down_apart (i + 1) map e f d g parts.1 (later_step p e d map without is) (later_step p f g map neither are) apart
          ]
    ]

-- ---- a list through a map
record Step (first : Option Extent) (rest : Option (List Extent)) (out : List Extent) : Type 0 where
  pub head : Extent
  pub tail : List Extent
  pub first_is : first ≡ Some head
  pub rest_is : rest ≡ Some tail
  pub out_is : head ∷ tail ≡ out

step : (first : Option Extent) (rest : Option (List Extent)) (out : List Extent)
    → option_and_then (λ f. option_map (λ r. f ∷ r) rest) first ≡ Some out → Step first rest out
step (Some e) (Some list) out is = record { head = e; tail = list; first_is = refl; rest_is = refl; out_is = cc }
step _ _ out is = absurd (cc)

step_of : (map : List Extent) (e : Extent) (given out : List Extent) → list_down map (e ∷ given) ≡ Some out
    → Step (extent_down map e) (list_down map given) out
step_of map e given out is = step (extent_down map e) (list_down map given) out is

length_down : (map given out : List Extent) → list_down map given ≡ Some out → length given ≡ length out
length_down map [] out is = let it : [] ≡ out = cc in ap length it
length_down map (e ∷ given) out is =
    let s = step_of map e given out is in
    ap suc (length_down map given s.tail s.rest_is) ∙ ap length s.out_is

within_ids : (n : ℕ) → n ≤ id_count → nat_lt id_count n ≡ false
within_ids n low = grind (arith, low)

extent_fine : (i : ℕ) (map : List Extent) (e d : Extent) → first_extent_fault 0 map ≡ None → extent_down map e ≡ Some d → extent_fault i e ≡ None
    → extent_fault i d ≡ None
extent_fine i map e d fine is given_fine =
    let sides = same_sides map e d is in
    let rest = not_some (e.length == 0) (ZeroLength i) _ given_fine in
    let ends = not_some (nat_lt id_count (e.inside + e.length) || nat_lt id_count (e.outside + e.length)) (PastEnd i) None rest.1 in
    let low = ltb-false id_count (e.inside + e.length) (or_parts _ _ ends.0).0 in
    let not_zero : (d.length == 0) ≡ false = ap (λ (n : ℕ). n == 0) sides.1 ∙ rest.0 in
    let inside : nat_lt id_count (d.inside + d.length) ≡ false = within_ids (d.inside + d.length) (omega (arith, low, sides.0, sides.1)) in
    let outside : nat_lt id_count (d.outside + d.length) ≡ false = within_ids (d.outside + d.length) (down_ends 0 map e d fine is) in
    cond-false (d.length == 0) (Some (ZeroLength i)) _ not_zero
    ∙ cond-false (nat_lt id_count (d.inside + d.length) || nat_lt id_count (d.outside + d.length)) (Some (PastEnd i)) None (or_from _ _ inside outside)

extents_fine : (i : ℕ) (map given out : List Extent) → first_extent_fault 0 map ≡ None → first_extent_fault i given ≡ None → list_down map given ≡ Some out
    → first_extent_fault i out ≡ None
extents_fine i map [] out fine none is = let it : [] ≡ out = cc in subst (λ l. first_extent_fault i l ≡ None) it refl
extents_fine i map (e ∷ given) out fine none is =
    let s = step_of map e given out is in
    let parts = both_none (extent_fault i e) (first_extent_fault (i + 1) given) none in
    let head : extent_fault i s.head ≡ None = extent_fine i map e s.head fine s.first_is parts.0 in
    let tail : first_extent_fault (i + 1) s.tail ≡ None = extents_fine (i + 1) map given s.tail fine parts.1 s.rest_is in
    subst (λ l. first_extent_fault i l ≡ None) s.out_is (ap (λ o. option_or o (first_extent_fault (i + 1) s.tail)) head ∙ tail)

-- two extents that have no id in common have none after they are taken down
meet_none : (map : List Extent) (e f d g : Extent) → first_overlap 0 map ≡ None → extent_down map e ≡ Some d → extent_down map f ≡ Some g
    → extents_meet e f ≡ false → extents_meet d g ≡ false
meet_none map e f d g none is are apart =
    let parts = or_parts (ranges_meet e.inside e.length f.inside f.length) (ranges_meet e.outside e.length f.outside f.length) apart in
    let left = same_sides map e d is in
    let right = same_sides map f g are in
    let inside : ranges_meet d.inside d.length g.inside g.length ≡ false = rw (left.0, left.1, right.0, right.1) parts.0 in
    or_from _ _ inside (down_apart 0 map e f d g none is are parts.1)

overlap_none : (i j : ℕ) (map : List Extent) (e d : Extent) (given out : List Extent) → first_overlap 0 map ≡ None → extent_down map e ≡ Some d
    → overlap_with i e j given ≡ None → list_down map given ≡ Some out → overlap_with i d j out ≡ None
overlap_none i j map e d [] out none is apart are = let it : [] ≡ out = cc in subst (λ l. overlap_with i d j l ≡ None) it refl
overlap_none i j map e d (f ∷ given) out none is apart are =
    let s = step_of map f given out are in
    let parts = not_some (extents_meet e f) (Overlap i j) (overlap_with i e (j + 1) given) apart in
    let head : extents_meet d s.head ≡ false = meet_none map e f d s.head none is s.first_is parts.0 in
    let tail : overlap_with i d (j + 1) s.tail ≡ None = overlap_none i (j + 1) map e d given s.tail none is parts.1 s.rest_is in
    subst (λ l. overlap_with i d j l ≡ None) s.out_is (cond-false (extents_meet d s.head) (Some (Overlap i j)) (overlap_with i d (j + 1) s.tail) head ∙ tail)

overlaps_none : (i : ℕ) (map given out : List Extent) → first_overlap 0 map ≡ None → first_overlap i given ≡ None → list_down map given ≡ Some out
    → first_overlap i out ≡ None
overlaps_none i map [] out none apart is = let it : [] ≡ out = cc in subst (λ l. first_overlap i l ≡ None) it refl
overlaps_none i map (e ∷ given) out none apart is =
    let s = step_of map e given out is in
    let parts = both_none (overlap_with i e (i + 1) given) (first_overlap (i + 1) given) apart in
    let head : overlap_with i s.head (i + 1) s.tail ≡ None = overlap_none i (i + 1) map e s.head given s.tail none s.first_is parts.0 s.rest_is in
    let tail : first_overlap (i + 1) s.tail ≡ None = overlaps_none (i + 1) map given s.tail none parts.1 s.rest_is in
    subst (λ l. first_overlap i l ≡ None) s.out_is (ap (λ o. option_or o (first_overlap (i + 1) s.tail)) head ∙ tail)

-- a list without a fault has an extent, not too many, none with a fault of its own, and no two that meet
record Faultless (list : List Extent) : Type 0 where
  pub some : (length list == 0) ≡ false
  pub few : nat_lt most_extents (length list) ≡ false
  pub fine : first_extent_fault 0 list ≡ None
  pub apart : first_overlap 0 list ≡ None

faultless : (list : List Extent) → IsMap list → Faultless list
faultless list is =
    let some = not_some (length list == 0) Empty _ (none_is (map_fault list) is) in
    let few = not_some (nat_lt most_extents (length list)) TooMany _ some.1 in
    let parts = both_none (first_extent_fault 0 list) (first_overlap 0 list) few.1 in
    record { some = some.0; few = few.0; fine = parts.0; apart = parts.1 }

is_faultless : (list : List Extent) → Faultless list → map_fault list ≡ None
is_faultless list f =
    cond-false (length list == 0) (Some Empty) _ f.some
    ∙ cond-false (nat_lt most_extents (length list)) (Some TooMany) (option_or (first_extent_fault 0 list) (first_overlap 0 list)) f.few
    ∙ ap (λ o. option_or o (first_overlap 0 list)) f.fine ∙ f.apart

-- the outside ids of a map are ids
pub map_has_ids : (map : List Extent) → IsMap map → HasIds map
map_has_ids map is = ends_within 0 map (faultless map is).fine

-- what is stored of a map that is written is a map
pub down_is_map : (map given out : List Extent) → IsMap map → IsMap given → list_down map given ≡ Some out → map_fault out ≡ None
down_is_map map given out parent written is =
    let above = faultless map parent in
    let own = faultless given written in
    let same : length given ≡ length out = length_down map given out is in
    is_faultless out (record {
      some = ap (λ (n : ℕ). n == 0) (sym same) ∙ own.some;
      few = ap (λ (n : ℕ). nat_lt most_extents n) (sym same) ∙ own.few;
      fine = extents_fine 0 map given out above.fine own.fine is;
      apart = overlaps_none 0 map given out above.apart own.apart is;
    })

-- ---- a map that isn't written
-- no list that is a map is taken down through a map that isn't written
none_down : (given : List Extent) → IsMap given → None ≡ list_down [] given
none_down [] is = absurd (cc)
none_down (e ∷ given) is = refl

pub nothing_under : {R : Type 0} (view : R → List Extent) (other : Option R) (given : List Extent)
    → other ≡ None → IsMap given → None ≡ list_down (extents_of (option_map view other)) given
nothing_under view None given is map = none_down given map
nothing_under view (Some p) given is map = absurd (cc)

-- what is stored of a map that is written is one, also where the parent's map may not be written
pub stored_is_map : (parent : Option (List Extent)) (given out : List Extent) → IfSome parent IsMap → IsMap given
    → list_down (extents_of parent) given ≡ Some out → IsMap out
stored_is_map None given out kept written is = let none : None ≡ Some out = none_down given written ∙ is in absurd (cc)
stored_is_map (Some map) given out kept written is = ap is_none (down_is_map map given out kept written is)
