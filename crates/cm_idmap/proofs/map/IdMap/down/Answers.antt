use Rattle.std.proofs.Common.{◌≡◌, subst, sym, ap, ◌∙◌}
use Rattle.std.specs.Prelude.{IfSome, ◌<◌}
use Rattle.cm_base.specs.Limits.{id_count}
use Rattle.model_cred.specs.IdMap.{down}
use Rattle.model_cred.specs.MapFault.{IsMap}
use Rattle.cm_idmap.proofs.Beside.{by_inside_is_map, down_beside}
use Rattle.cm_idmap.proofs.Permuted.{down_is_id}
use Rattle.cm_idmap.proofs.Taken.{down_answer}
use Rattle.cm_idmap.proofs.map.IdMap.down.Goals as goal

-- the list in order answers as the map does
image : (c : goal.After-down_in) → c.down_in.result ≡ down c.args.self.now c.args.inside
image c =
    c.down_in.ensures ∙ (down_beside c.self.inside.list.items c.self.inside.sides c.args.inside c.self.invariant.1 c.self.invariant.0
    ∙ ap (λ list. down list c.args.inside) c.self.view_is)

pub down_in-requires-clause-map : goal.down_in-requires-clause-map
down_in-requires-clause-map c = by_inside_is_map c.self.inside.list.items c.self.inside.sides c.self.invariant.1 c.self.invariant.0

pub returns-clause-image : goal.returns-clause-image
returns-clause-image c = image c

pub returns-clause-is_id : goal.returns-clause-is_id
returns-clause-is_id c =
    let is : IsMap c.args.self.now = subst IsMap c.self.view_is c.self.invariant.0 in
    subst (λ o. IfSome o (λ n. n < id_count)) (sym (image c)) (down_is_id c.args.self.now c.args.inside is)

pub returns-clause-maps : goal.returns-clause-maps
returns-clause-maps c =
    let is : IsMap c.args.self.now = subst IsMap c.self.view_is c.self.invariant.0 in
    down_answer c.args.self.now c.args.inside c.down_in.result is (image c)
