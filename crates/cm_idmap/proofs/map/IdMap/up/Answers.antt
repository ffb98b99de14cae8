use Rattle.std.proofs.Common.{◌≡◌, subst, sym, ap, ◌∙◌}
use Rattle.std.specs.Prelude.{IfSome, ◌<◌}
use Rattle.cm_base.specs.Limits.{id_count}
use Rattle.model_cred.specs.IdMap.{up}
use Rattle.model_cred.specs.MapFault.{IsMap}
use Rattle.cm_idmap.proofs.Beside.{by_outside_is_map, up_beside}
use Rattle.cm_idmap.proofs.Permuted.{up_is_id}
use Rattle.cm_idmap.proofs.Taken.{up_answer}
use Rattle.cm_idmap.proofs.map.IdMap.up.Goals as goal

-- the list in order answers as the map does
image : (c : goal.After-up_in) → c.up_in.result ≡ up c.args.self.now c.args.outside
image c =
    c.up_in.ensures ∙ (up_beside c.self.inside.list.items c.self.inside.sides c.args.outside c.self.invariant.1 c.self.invariant.0
    ∙ ap (λ list. up list c.args.outside) c.self.view_is)

pub up_in-requires-clause-map : goal.up_in-requires-clause-map
up_in-requires-clause-map c = by_outside_is_map c.self.inside.list.items c.self.inside.sides c.self.invariant.1 c.self.invariant.0

pub returns-clause-image : goal.returns-clause-image
returns-clause-image c = image c

pub returns-clause-is_id : goal.returns-clause-is_id
returns-clause-is_id c =
    let is : IsMap c.args.self.now = subst IsMap c.self.view_is c.self.invariant.0 in
    subst (λ o. IfSome o (λ n. n < id_count)) (sym (image c)) (up_is_id c.args.self.now c.args.outside is)

pub returns-clause-maps : goal.returns-clause-maps
returns-clause-maps c =
    let is : IsMap c.args.self.now = subst IsMap c.self.view_is c.self.invariant.0 in
    up_answer c.args.self.now c.args.outside c.up_in.result is (image c)
