-- What a map keeps beside its list answers as the list does.
use Rattle.std.proofs.Common.{◌≡◌, ℕ, ◌<◌, List, [], ◌∷◌, Option, None, Some, refl, sym, ◌∙◌, ap}
use Rattle.std.specs.Prelude.{All, is_none, option_map, option_and_then}
use Rattle.std.specs.List.Sorted.{IsPermutation}
use Rattle.std.proofs.Math.Nat.{ℕ_set}
use Rattle.std.proofs.Props.{props}
use Rattle.std.proofs.lemmas.List.Elements.{All-head, All-tail}
use mathlib.Core.Bool.{Bool-set}
use mathlib.Core.Logic.{∥∥₁_elim}
use Rattle.model_cred.specs.IdMap.{Extent, down, up, extents_of}
use Rattle.model_cred.specs.MapFault.{IsMap, first_overlap, first_extent_fault}
use Rattle.model_rules.specs.Maps.{extent_down, list_down}
use Rattle.model_rules.proofs.Downs.{down_is_map}
use Rattle.cm_idmap.specs.declared.kept.Sides.{Sides}
use Rattle.cm_idmap.specs.declared.side.Side.{Side}
use Rattle.cm_idmap.specs.declared.side.Side.TheVariants.{Inside, Outside}
use Rattle.cm_idmap.specs.Kept.{AreSides}
use Rattle.cm_idmap.specs.Sides.{holds, AscendsOn}
use Rattle.cm_idmap.proofs.Faultless.{all_some, map_some}
use Rattle.cm_idmap.proofs.Orders.{apart_in_order}
use Rattle.cm_idmap.proofs.Passing.{passing, passing_permuted}
use Rattle.cm_idmap.proofs.Permuted.{map_permuted, apart_permuted, overlaps_none, down_permuted, up_permuted, extent_down_permuted}

-- both are maps where the list is one
pub by_inside_is_map : (list : List Extent) (sides : Sides) → AreSides list sides → IsMap list → IsMap sides.by_inside
by_inside_is_map list sides are is = ∥∥₁_elim are.inside (Bool-set _ _) (λ moved. map_permuted list sides.by_inside moved is)

pub by_outside_is_map : (list : List Extent) (sides : Sides) → AreSides list sides → IsMap list → IsMap sides.by_outside
by_outside_is_map list sides are is = ∥∥₁_elim are.outside (Bool-set _ _) (λ moved. map_permuted list sides.by_outside moved is)

-- ids are taken down alike, and up
pub down_beside : (list : List Extent) (sides : Sides) (id : ℕ) → AreSides list sides → IsMap list → down sides.by_inside id ≡ down list id
down_beside list sides id are is = ∥∥₁_elim are.inside (hlevel props) (λ moved. down_permuted list sides.by_inside id moved is)

pub up_beside : (list : List Extent) (sides : Sides) (id : ℕ) → AreSides list sides → IsMap list → up sides.by_outside id ≡ up list id
up_beside list sides id are is = ∥∥₁_elim are.outside (hlevel props) (λ moved. up_permuted list sides.by_outside id moved is)

extent_down_beside : (list : List Extent) (sides : Sides) (e : Extent) → AreSides list sides → IsMap list → 0 < e.length
    → extent_down sides.by_inside e ≡ extent_down list e
extent_down_beside list sides e are is some = ∥∥₁_elim are.inside (hlevel props) (λ moved. extent_down_permuted list sides.by_inside e moved is some)

-- and lists of extents with ids
pub list_down_beside : (list : List Extent) (sides : Sides) (given : List Extent) → AreSides list sides → IsMap list → All (λ (e : Extent). 0 < e.length) given
    → list_down sides.by_inside given ≡ list_down list given
list_down_beside list sides [] are is some = refl
list_down_beside list sides (e ∷ given) are is some =
    ap (λ o. option_and_then (λ first. option_map (λ rest. first ∷ rest) (list_down sides.by_inside given)) o)
    (extent_down_beside list sides e are is (All-head (λ (f : Extent). 0 < f.length) e given some))
    ∙ ap (λ o. option_and_then (λ first. option_map (λ rest. first ∷ rest) o) (extent_down list e))
    (list_down_beside list sides given are is (All-tail (λ (f : Extent). 0 < f.length) e given some))

-- an id is held by as many extents of the list as of the same extents in another order
as_many : (side : Side) (list other : List Extent) (id : ℕ) → ∥ IsPermutation list other ∥₁ → passing (holds side id) list ≡ passing (holds side id) other
as_many side list other id moved = ∥∥₁_elim moved (ℕ_set _ _) (λ it. sym (passing_permuted (holds side id) list other it))

-- no two extents of the list meet where both are in order
pub none_meet : (list : List Extent) (sides : Sides) → AreSides list sides → first_extent_fault 0 list ≡ None → AscendsOn Inside sides.by_inside
    → AscendsOn Outside sides.by_outside → first_overlap 0 list ≡ None
none_meet list sides are fine inside outside =
    let some = all_some 0 list fine in
    overlaps_none 0 list
    (apart_permuted Inside sides.by_inside list (λ id. as_many Inside list sides.by_inside id are.inside) some (apart_in_order Inside sides.by_inside inside))
    (apart_permuted Outside sides.by_outside list (λ id. as_many Outside list sides.by_outside id are.outside) some
    (apart_in_order Outside sides.by_outside outside))

-- a list taken down through what an optional map keeps is one taken down through that map
pub under_is : {R : Type 0} (view : R → List Extent) (map : Option R) (other : R) (list : List Extent) (sides : Sides) (given own : List Extent)
    (o : Option (List Extent)) → AreSides list sides → IsMap list → list ≡ view other → map ≡ Some other → IsMap given → given ≡ own
    → o ≡ list_down sides.by_inside given → o ≡ list_down (extents_of (option_map view map)) own
under_is view map other list sides given own o are is here there given_is same taken =
    taken
    ∙ (list_down_beside list sides given are is (map_some given given_is)
    ∙ (ap (λ l. list_down l given) here
    ∙ (ap (list_down (view other)) same
    ∙ ap (λ m. list_down (extents_of (option_map view m)) own) (sym there))))

-- what is taken down is a map
pub under_is_map : (list : List Extent) (sides : Sides) (given out : List Extent) → AreSides list sides → IsMap list → IsMap given
    → Some out ≡ list_down sides.by_inside given → IsMap out
under_is_map list sides given out are is given_is taken =
    ap is_none (down_is_map list given out is given_is (sym (taken ∙ list_down_beside list sides given are is (map_some given given_is))))
