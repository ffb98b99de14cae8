use Rattle.std.proofs.Common.{◌∙◌, ap, subst}
use Rattle.std.specs.List.Sorted.{IsPermutation}
use Rattle.model_cred.specs.IdMap.{down}
use Rattle.cm_idmap.proofs.Beside.{by_inside_is_map, down_beside}
use Rattle.cm_idmap.proofs.map.IdMap.by_inside.Goals as goal

pub returns-clause-map : goal.returns-clause-map
returns-clause-map c = by_inside_is_map c.self.inside.list.items c.self.inside.sides c.self.invariant.1 c.self.invariant.0

pub returns-clause-extents : goal.returns-clause-extents
returns-clause-extents c = subst (λ list. ∥ IsPermutation list c.self.inside.sides.by_inside ∥₁) c.self.view_is c.self.invariant.1.inside

pub returns-clause-same : goal.returns-clause-same
returns-clause-same c =
    λ id. down_beside c.self.inside.list.items c.self.inside.sides id c.self.invariant.1 c.self.invariant.0 ∙ ap (λ list. down list id) c.self.view_is
