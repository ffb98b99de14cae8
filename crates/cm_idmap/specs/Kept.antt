-- What a map keeps beside its list.
use Rattle.std.specs.Prelude.{List}
use Rattle.std.specs.List.Sorted.{IsNonDecreasingBy, IsPermutation}
use Rattle.model_cred.specs.IdMap.{Extent}
use Rattle.cm_idmap.specs.declared.kept.Sides.{Sides}

-- The extents of the list stand in two further ones: in the order of their inside and in that of their outside ids.
pub record AreSides (list : List Extent) (sides : Sides) : Type 0 where
  pub inside : ∥ IsPermutation list sides.by_inside ∥₁
  pub outside : ∥ IsPermutation list sides.by_outside ∥₁
  pub inside_rises : IsNonDecreasingBy (λ (e : Extent). e.inside) sides.by_inside
  pub outside_rises : IsNonDecreasingBy (λ (e : Extent). e.outside) sides.by_outside
