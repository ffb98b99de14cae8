use Rattle.std.proofs.Common.{Some, None, ◌∙◌, ap, subst, sym}
use Rattle.std.specs.Prelude.{option_map}
use Rattle.model_cred.specs.MapFault.{IsMap}
use Rattle.model_rules.proofs.Downs.{nothing_under}
use Rattle.cm_idmap.proofs.Beside.{by_inside_is_map, under_is, under_is_map}
use Rattle.cm_idmap.proofs.Faultless.{map_some}
use Rattle.cm_idmap.proofs.map.IdMap.under.Goals as goal

pub returns-in_default : goal.returns-in_default
returns-in_default c =
    nothing_under (λ o. o.now) c.args.other c.args.self.now c.in_default.is
    (subst IsMap c.extents-given.ensures.value c.extents-given.ensures.map)

pub list_down-requires-clause-map : goal.list_down-requires-clause-map
list_down-requires-clause-map c = by_inside_is_map c.other.inside.list.items c.other.inside.sides c.other.invariant.1 c.other.invariant.0

pub list_down-requires-clause-some : goal.list_down-requires-clause-some
list_down-requires-clause-some c = map_some c.extents-given.result.now c.extents-given.ensures.map

pub returns-in_default-2 : goal.returns-in_default-2
returns-in_default-2 c =
    under_is (λ o. o.now) c.args.other c.in-Some.other c.other.inside.list.items c.other.inside.sides c.extents-given.result.now c.args.self.now None
    c.other.invariant.1 c.other.invariant.0 c.other.view_is c.in-Some.is c.extents-given.ensures.map c.extents-given.ensures.value
    (sym (ap (option_map _) c.in_default-2.is) ∙ c.in_ok-list.ensures)

pub invariant_of-result : goal.invariant_of-result
invariant_of-result c = (
  under_is_map c.other.inside.list.items c.other.inside.sides c.extents-given.result.now c.in-Some-2.list.items c.other.invariant.1 c.other.invariant.0
      c.extents-given.ensures.map (sym (ap (option_map _) c.in-Some-2.is) ∙ c.in_ok-list.ensures),
  rw c.deref.ensures.value at c.in_ok-sides.ensures,
)

pub returns : goal.returns
returns c =
    under_is (λ o. o.now) c.args.other c.in-Some.other c.other.inside.list.items c.other.inside.sides c.extents-given.result.now c.args.self.now
    (Some c.in-Some-2.list.items) c.other.invariant.1 c.other.invariant.0 c.other.view_is c.in-Some.is c.extents-given.ensures.map c.extents-given.ensures.value
    (sym (ap (option_map _) c.in-Some-2.is) ∙ c.in_ok-list.ensures)
