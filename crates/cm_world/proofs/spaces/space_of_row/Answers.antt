-- Each check of the row passed, one by one, and the space is the one that it declares.
use Rattle.std.proofs.Common.{◌≡◌, ◌||◌, true, false, is_none, Some, nat_lt, codes, rules, arith}
use Rattle.std.proofs.lemmas.Grind.{common_steps}
use Rattle.model_text.specs.MapText.{is_bad_map, map_at, stored_under}
use Rattle.model_text.specs.NameText.{is_name, is_one_of}
use Rattle.model_text.specs.SpaceText as model
use Rattle.model_cred.specs.Space.{level}
use Rattle.model_rules.specs.Namespaces.{deepest}
use Rattle.toml.specs.View.{table_view}
use Rattle.cm_world.proofs.spaces.space_of_row.Goals as goal

pub returns-clause-gives : goal.returns-clause-gives
returns-clause-gives c =
    let row = table_view c.args.row.now in
    let one : is_name (model.name_of row) ≡ true = grind (arith, common_steps) in
    let two : is_one_of c.args.declared.now.names (model.name_of row) ≡ false = grind (arith, common_steps) in
    let three : is_none (model.parent_named c.args.declared.now row) ≡ false = grind (arith, common_steps) in
    let four : (is_bad_map (map_at (codes "uid_map") row) || is_bad_map (map_at (codes "gid_map") row)) ≡ false
    = grind (arith, common_steps, c.in_ok-uids.ensures.good, c.in_ok-gids.ensures.good) in
    let up : stored_under (model.parent_of c.args.declared.now row).uids (map_at (codes "uid_map") row) ≡ Some c.in_ok-uids-2.uids
    = grind (arith, common_steps) in
    let gp : stored_under (model.parent_of c.args.declared.now row).gids (map_at (codes "gid_map") row) ≡ Some c.in_ok-gids-2.gids
    = grind (arith, common_steps) in
    let deep : nat_lt (level c.args.declared.now.spaces (model.parent_number c.args.declared.now row)) deepest ≡ true
    = grind (arith, common_steps) in
    rw (one, two, three, four, up, gp, deep) (first_of (cc, grind (arith, common_steps), search rules))
