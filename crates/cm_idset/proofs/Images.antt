-- What an id map makes of a list of intervals, line by line, and that it is what `down` gives of the ids held.
use Rattle.std.proofs.Common.{◌≡◌, ℕ, zero, suc, ◌+◌, ◌-◌, ◌<◌, ◌≤◌, ◌⊎◌, ◌&&◌, ◌||◌, Bool, false, List, [], ◌∷◌, ◌++◌, Option, Some, None}
use Rattle.std.proofs.Common.{length, drop, get_or, max, min, refl, sym, ap, subst, ◌∙◌, inl, inr, arith}
use Rattle.std.specs.Prelude.{IsTrue, nat_lt, All}
use Rattle.std.specs.Option.{option_to_list}
use Rattle.std.proofs.lemmas.Bool.{cases_Bool, and_parts, and_from, or_cases, or_left, or_right, and_right}
use Rattle.std.proofs.lemmas.Bool.{cond-true, cond-false, ltb-true, ltb-false}
use Rattle.std.proofs.lemmas.Bool.Decides.{nat_tests}
use Rattle.std.proofs.Math.Bool.{and-or_distrib_left}
use Rattle.std.proofs.lemmas.List.{append-nil, drop_all, get_or_default}
use Rattle.std.proofs.lemmas.List.Elements.{All-cons, All-append, All-nil}
use Rattle.cm_base.specs.Limits.{id_count}
use Rattle.cm_sets.specs.Sets.{AreSame}
use Rattle.model_cred.specs.IdMap.{Extent, lies_in, Maps, TakesTo}
use Rattle.model_cred.specs.MapFault.{IsMap}
use Rattle.model_cred.specs.Intervals.{Interval, is_between, ids_hold}
use Rattle.model_rules.proofs.Ranges.{lies_parts, lies_from}
use Rattle.cm_idmap.proofs.Sides.{later}
use Rattle.cm_idmap.proofs.Taken.{down_maps, fits_at}
use Rattle.cm_idset.specs.Held.{Held}
use Rattle.cm_idset.specs.Image.{InImage, image_of, images, all_images}
use Rattle.cm_idset.specs.Order.{IsOfIds, AreIds}
use Rattle.cm_idset.proofs.Growth.{held_appended}

-- ---- one line and one interval
-- what the line makes of the interval, where it makes something of it
abbrev moved : Extent → Interval → Interval
moved e i = record {
  first = e.outside + (max e.inside i.first - e.inside);
  last = e.outside + (min (e.inside + e.length) (i.last + 1) - 1 - e.inside);
}

image_cases : (e : Extent) (i : Interval) → ((image_of e i ≡ Some (moved e i)) × (max e.inside i.first < min (e.inside + e.length) (i.last + 1)))
    ⊎ ((image_of e i ≡ None) × (min (e.inside + e.length) (i.last + 1) ≤ max e.inside i.first))
image_cases e i = elim (cases_Bool (nat_lt (max e.inside i.first) (min (e.inside + e.length) (i.last + 1)))) [
  | inl some ↦ inl (
    cond-true (nat_lt (max e.inside i.first) (min (e.inside + e.length) (i.last + 1))) (Some (moved e i)) None some,
    ltb-true (max e.inside i.first) (min (e.inside + e.length) (i.last + 1)) some,
  )
  | inr none ↦ inr (
    cond-false (nat_lt (max e.inside i.first) (min (e.inside + e.length) (i.last + 1))) (Some (moved e i)) None none,
    ltb-false (max e.inside i.first) (min (e.inside + e.length) (i.last + 1)) none,
  )
]

-- the id is one of the line's outside, and what stands for it inside is one of the interval
abbrev comes_of : Extent → Interval → ℕ → Bool
comes_of e i out = lies_in e.outside e.length out && is_between i (e.inside + (out - e.outside))

moved_holds : (e : Extent) (i : Interval) (out : ℕ) → max e.inside i.first < min (e.inside + e.length) (i.last + 1)
    → ids_hold (moved e i ∷ []) out ≡ comes_of e i out
moved_holds e i out some = grind (arith, nat_tests)

nothing_holds : (e : Extent) (i : Interval) (out : ℕ) → min (e.inside + e.length) (i.last + 1) ≤ max e.inside i.first → false ≡ comes_of e i out
nothing_holds e i out none = grind (arith, nat_tests)

image_holds : (e : Extent) (i : Interval) (out : ℕ) → ids_hold (option_to_list (image_of e i)) out ≡ comes_of e i out
image_holds e i out = elim (image_cases e i) [
  | inl some ↦ ap (λ (o : Option Interval). ids_hold (option_to_list o) out) some.0 ∙ moved_holds e i out some.1
  | inr none ↦ ap (λ (o : Option Interval). ids_hold (option_to_list o) out) none.0 ∙ nothing_holds e i out none.1
]

image_of_ids : (e : Extent) (i : Interval) → e.outside + e.length ≤ id_count → AreIds (option_to_list (image_of e i))
image_of_ids e i fits = elim (image_cases e i) [
  | inl some ↦
      let less = some.1 in
      subst (λ (o : Option Interval). AreIds (option_to_list o)) (sym some.0)
      (All-cons IsOfIds (moved e i) [] (record { full = omega (arith, less); ids = omega (arith, less) }) (All-nil IsOfIds))
  | inr none ↦ subst (λ (o : Option Interval). AreIds (option_to_list o)) (sym none.0) (All-nil IsOfIds)
]

-- ---- one line and all intervals
images_hold : (e : Extent) (list : List Interval) (out : ℕ)
    → ids_hold (images e list) out ≡ (lies_in e.outside e.length out && ids_hold list (e.inside + (out - e.outside)))
images_hold e [] out = sym (and_right (lies_in e.outside e.length out) false refl)
images_hold e (i ∷ list) out =
    let id : ℕ = e.inside + (out - e.outside) in
    held_appended (option_to_list (image_of e i)) (images e list) out
    ∙ ap (λ (b : Bool). b || ids_hold (images e list) out) (image_holds e i out)
    ∙ ap (λ (b : Bool). (lies_in e.outside e.length out && is_between i id) || b) (images_hold e list out)
    ∙ sym (and-or_distrib_left (lies_in e.outside e.length out) (is_between i id) (ids_hold list id))

images_of_ids : (e : Extent) (list : List Interval) → e.outside + e.length ≤ id_count → AreIds (images e list)
images_of_ids e [] fits = All-nil IsOfIds
images_of_ids e (i ∷ list) fits = All-append IsOfIds (option_to_list (image_of e i)) (images e list) (image_of_ids e i fits) (images_of_ids e list fits)

-- ---- all lines
-- what is made comes of an id that is held, by a line that takes it there
comes : (map : List Extent) (list : List Interval) (out : ℕ) → Held (all_images map list) out → (id : ℕ) × Held list id × Maps map id out
comes [] list out held = absurd (cc)
comes (e ∷ map) list out held =
    elim (or_cases (ids_hold (images e list) out) (ids_hold (all_images map list) out) (sym (held_appended (images e list) (all_images map list) out) ∙ held)) [
      | inl here ↦
          let id : ℕ = e.inside + (out - e.outside) in
          let parts = and_parts (lies_in e.outside e.length out) (ids_hold list id) (sym (images_hold e list out) ∙ here) in
          let lies = lies_parts e.outside e.length out parts.0 in
          let takes : TakesTo id out e = record { from_first = omega arith; before_end = omega (arith, lies.0, lies.1); to = omega (arith, lies.0) } in
          (id, parts.1, (0, e, omega arith, refl, takes))
      | inr rest ↦ let found = comes map list out rest in (found.0, found.1, later (TakesTo found.0 out) e map found.2)
    ]

-- and what a line takes an id to that is held is made
goes : (map : List Extent) (list : List Interval) (id out : ℕ) → Held list id → Maps map id out → Held (all_images map list) out
goes [] list id out held (k, x, below, is, takes) = absurd (omega (arith, below))
goes (e ∷ map) list id out held (zero, x, below, is, takes) =
    let here : TakesTo id out e = subst (TakesTo id out) (sym is) takes in
    let same : e.inside + (out - e.outside) ≡ id = omega (arith, here.to, here.from_first) in
    let lies : IsTrue (lies_in e.outside e.length out) =
    lies_from e.outside e.length out (omega (arith, here.to)) (omega (arith, here.to, here.from_first, here.before_end)) in
    let made : Held (images e list) out =
    images_hold e list out ∙ and_from (lies_in e.outside e.length out)
    (ids_hold list (e.inside + (out - e.outside))) lies (ap (λ (n : ℕ). ids_hold list n) same ∙ held) in
    held_appended (images e list) (all_images map list) out ∙ or_left (ids_hold (images e list) out) (ids_hold (all_images map list) out) made
goes (e ∷ map) list id out held (suc k, x, below, is, takes) =
    held_appended (images e list) (all_images map list) out
    ∙ or_right (ids_hold (images e list) out) (ids_hold (all_images map list) out) (goes map list id out held (k, x, omega (arith, below), is, takes))

pub images_are_image : (map : List Extent) (list : List Interval) → IsMap map → AreSame (Held (all_images map list)) (InImage map list)
images_are_image map list is out = (
  λ held. let found = comes map list out held in (found.0, found.1, (down_maps map found.0 out is).1 found.2),
  λ image. goes map list image.0 out image.1 ((down_maps map image.0 out is).0 image.2),
)

made_of_ids : (map : List Extent) (list : List Interval) → All (λ e. e.outside + e.length ≤ id_count) map → AreIds (all_images map list)
made_of_ids [] list fits = All-nil IsOfIds
made_of_ids (e ∷ map) list fits = All-append IsOfIds (images e list) (all_images map list)
    (images_of_ids e list (fits 0 e (omega arith))) (made_of_ids map list (λ k d below. fits (suc k) d (omega arith)))

pub inside_fits : (map : List Extent) (k : ℕ) (e : Extent) → IsMap map → k < length map → e ≡ get_or map k e → e.inside + e.length ≤ id_count
inside_fits map k e is below at = (fits_at map k e is below (sym at)).inside

pub outside_fits : (map : List Extent) (k : ℕ) (e : Extent) → IsMap map → k < length map → e ≡ get_or map k e → e.outside + e.length ≤ id_count
outside_fits map k e is below at = (fits_at map k e is below (sym at)).outside

-- all lines are gone through: the list is what they make
pub all_found : (map : List Extent) (list found : List Interval) (k : ℕ) → length map ≤ k
    → found ++ all_images (drop k map) list ≡ all_images map list → found ≡ all_images map list
all_found map list found k past is =
    sym (append-nil found) ∙ ap (λ (rest : List Extent). found ++ all_images rest list) (sym (drop_all k map past)) ∙ is

pub found_of_ids : (map : List Extent) (list found : List Interval) → IsMap map → found ≡ all_images map list → AreIds found
found_of_ids map list found is found_is =
    let fits : All (λ e. e.outside + e.length ≤ id_count) map =
    λ k d below. (fits_at map k (get_or map k d) is below (get_or_default map k (get_or map k d) d below)).outside in
    subst AreIds (sym found_is) (made_of_ids map list fits)

-- and so is what they make once it is put in order and into a canonical list
pub put_are_image : (map : List Extent) (list found sorted taken none ids : List Interval) → IsMap map → found ≡ all_images map list
    → ((id : ℕ) → ids_hold sorted id ≡ ids_hold found id) → taken ≡ sorted → none ≡ []
    → ((id : ℕ) → ids_hold ids id ≡ (ids_hold none id || ids_hold taken id)) → AreSame (Held ids) (InImage map list)
put_are_image map list found sorted taken none ids is found_is same taken_is empty holds out =
    let made : ids_hold ids out ≡ ids_hold (all_images map list) out =
    holds out ∙ ap (λ (l : List Interval). ids_hold l out || ids_hold taken out) empty ∙ ap (λ (l : List Interval). ids_hold l out) taken_is
    ∙ same out ∙ ap (λ (l : List Interval). ids_hold l out) found_is in
    let image = images_are_image map list is out in
    (λ held. image.0 (sym made ∙ held), λ goes. made ∙ image.1 goes)
