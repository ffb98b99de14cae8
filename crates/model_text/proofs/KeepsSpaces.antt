-- The spaces that a world's text declares keep what spaces keep: they form a tree, and each map is a map of ids.
use Rattle.std.proofs.Common.{◌≡◌, ◌+◌, ◌<◌, ◌≤◌, ◌||◌, false, List, [], ◌++◌, length, Option, Some, None, Ok}
use Rattle.std.proofs.Common.{IfSome, codes, refl, subst, lit<, arith, All}
use Rattle.std.proofs.lemmas.Bool.{not-false, or_parts}
use Rattle.std.proofs.lemmas.List.{length_push}
use Rattle.std.proofs.lemmas.List.Elements.{All-nil, All-cons}
use Rattle.std.specs.Prelude.{unwrap_or, option_map}
use Rattle.cm_base.specs.Limits.{id_count}
use Rattle.cm_base.specs.declared.faults.Table.TheVariants as table
use Rattle.cm_base.specs.declared.limited.Limited.TheVariants as limit
use Rattle.model_cred.proofs.Trees.{tree_grows}
use Rattle.model_cred.specs.IdMap.{Extent, HasIds, extents_of}
use Rattle.model_cred.specs.MapFault.{IsMap, is_map}
use Rattle.model_cred.specs.Space.{Space, IsTree, KeepsSpace, initial_space}
use Rattle.model_rules.proofs.Downs.{map_has_ids, stored_is_map}
use Rattle.model_rules.proofs.Spaces.{keeps_space_of}
use Rattle.model_rules.specs.Maps.{list_down}
use Rattle.model_text.proofs.Rows.{any_rows, none_stands, read_ok, rows_keep, unless_ok}
use Rattle.model_text.proofs.Values.{number_or_within, or_default, space_within}
use Rattle.model_text.specs.Keys.{key_checks, last_id}
use Rattle.model_text.specs.MapText.{map_at, is_bad_map, stored_under}
use Rattle.model_text.specs.Refusal.{first_standing, read_rows}
use Rattle.model_text.specs.SpaceText.{Declared, none_declared, name_of, parent_named, parent_number, parent_of}
use Rattle.model_text.specs.SpaceText.{space_checks, space_declared, space_keys, space_row}
use Rattle.model_text.specs.Toml.{text_or}
use Rattle.toml.specs.Data.{Items, Members}

-- ---- maps
-- the outside ids of a map that may be written are ids
pub has_ids : (map : Option (List Extent)) → IfSome map IsMap → HasIds (extents_of map)
has_ids None is = All-nil (λ (e : Extent). e.outside + e.length ≤ id_count)
has_ids (Some map) is = map_has_ids map is

-- a list that isn't refused is a map, where there is one
pub good_map : (list : Option (List Extent)) → is_bad_map list ≡ false → IfSome list IsMap
good_map None good = tt
good_map (Some list) good = not-false (is_map list) good

-- so is what is stored of it
down_of : (parent : Option (List Extent)) (list : List Extent) (down : Option (List Extent)) → IfSome parent IsMap → IsMap list
    → list_down (extents_of parent) list ≡ down → IfSome (unwrap_or (option_map (λ stored. Some stored) down) None) IsMap
down_of parent list None kept is same = tt
down_of parent list (Some out) kept is same = stored_is_map parent list out kept is same

stored_of : (parent given : Option (List Extent)) → IfSome parent IsMap → IfSome given IsMap
    → IfSome (unwrap_or (stored_under parent given) None) IsMap
stored_of parent None kept is = tt
stored_of parent (Some list) kept is = down_of parent list (list_down (extents_of parent) list) kept is refl

-- ---- spaces
-- a space keeps what a space keeps where its owner is an id and its maps are maps
keeps_space : (s : Space) → s.owner < id_count → IfSome s.uids IsMap → IfSome s.gids IsMap → KeepsSpace s
keeps_space s owner uids gids = record {
  owner = owner;
  uids = has_ids s.uids uids;
  gids = has_ids s.gids gids;
  uid_map = uids;
  gid_map = gids;
}

-- The declared spaces are one more than their names, form a tree, and each keeps what a space keeps.
pub record KeepsDeclared (d : Declared) : Type 0 where
  pub count : length d.spaces ≡ length d.names + 1
  pub tree : IsTree d.spaces
  pub each : All KeepsSpace d.spaces

none_keeps : KeepsDeclared none_declared
none_keeps = record {
  count = refl;
  tree = refl;
  each = All-cons KeepsSpace initial_space [] (keeps_space initial_space (lit< tt) refl refl) (All-nil KeepsSpace);
}

-- the parent of a space that is declared stands
parent_stands : (before : Declared) (row : Members) → KeepsDeclared before → parent_number before row < length before.spaces
parent_stands before row keeps =
    let named : parent_number before row < length before.names + 1
    = or_default (λ k. k < length before.names + 1) (parent_named before row) 0
    (space_within before.names (text_or [] (codes "parent") row)) (omega arith) in
    omega (arith, named, keeps.count)

declared_keeps : (before : Declared) (row : Members) → KeepsDeclared before
    → (is_bad_map (map_at (codes "uid_map") row) || is_bad_map (map_at (codes "gid_map") row)) ≡ false
    → KeepsSpace (space_declared before row)
declared_keeps before row keeps good =
    let parent : KeepsSpace (parent_of before row) = keeps_space_of before.spaces (parent_number before row) keeps.each in
    let (uids, gids) = or_parts (is_bad_map (map_at (codes "uid_map") row)) (is_bad_map (map_at (codes "gid_map") row)) good in
    let owner = number_or_within 0 last_id 0 (codes "owner") row (omega arith) in
    keeps_space (space_declared before row) (omega (arith, owner))
    (stored_of (parent_of before row).uids (map_at (codes "uid_map") row) parent.uid_map (good_map (map_at (codes "uid_map") row) uids))
    (stored_of (parent_of before row).gids (map_at (codes "gid_map") row) parent.gid_map (good_map (map_at (codes "gid_map") row) gids))

one_more : (before : Declared) (row : Members) (all : Declared) → KeepsDeclared before → Unit {0} → space_row before row ≡ Ok all
    → KeepsDeclared all
one_more before row all keeps any is =
    let parts = unless_ok (first_standing (key_checks space_keys row ++ space_checks before row)) _ all is in
    let passed = none_stands (key_checks space_keys row ++ space_checks before row) parts.0 in
    let new : KeepsSpace (space_declared before row) = declared_keeps before row keeps passed.1.1.1.1.1.1.1.0 in
    subst KeepsDeclared parts.1 (record {
      count = let names = length_push before.names (name_of row) in omega (arith, keeps.count, names);
      tree = tree_grows (space_declared before row) (parent_number before row) before.spaces refl
          (parent_stands before row keeps) keeps.tree;
      each = All-cons KeepsSpace (space_declared before row) before.spaces new keeps.each;
    })

-- the spaces of a world's text
pub spaces_keep : (rows : Items) (d : Declared) → read_rows table.Space limit.Spaces 1 space_row none_declared rows ≡ Ok d
    → KeepsDeclared d
spaces_keep rows d is =
    rows_keep table.Space space_row KeepsDeclared (λ row. Unit {0}) one_more 1 none_declared rows d none_keeps (any_rows rows)
    (read_ok table.Space limit.Spaces 1 space_row none_declared rows d is).1
