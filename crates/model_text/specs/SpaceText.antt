-- The user namespaces, called spaces here, that a world's text declares (choice): a row's keys, its faults, and the space
-- that it adds to those before it.
use Rattle.std.specs.Prelude.{ℕ, codes, ◌||◌, not, nat_lt, bytes_eq, is_none, Bool, List, []}
use Rattle.std.specs.Prelude.{◌∷◌, ◌++◌, Option, Some, None, Result, unwrap_or, if◌then◌else◌}
use Rattle.cm_base.specs.declared.faults.WorldFault.TheVariants.{BadName, TwiceNamed, NoSuchParent, BadMap, NotMapped, TooDeep}
use Rattle.model_cred.specs.Space.{Space, Spaces, first_spaces, level, space_of}
use Rattle.model_rules.specs.Namespaces.{deepest}
use Rattle.model_text.specs.Keys.{Key, key, Text, Word, Flag, Extents, Required, Optional, an_id, last_id, key_checks}
use Rattle.model_text.specs.MapText.{map_at, is_bad_map, stored_under}
use Rattle.model_text.specs.NameText.{is_name, is_one_of}
use Rattle.model_text.specs.Refusal.{Cause, Fault, first_standing, unless}
use Rattle.model_text.specs.SpaceToken.{number_named}
use Rattle.model_text.specs.Toml.{flag_of, is_text, number_or, text_or}
use Rattle.toml.specs.Data.{Members, get_member}

-- The declared spaces: their names, of space 1, of space 2, and so on, and the spaces themselves, with the initial one.
pub record Declared : Type 0 where
  pub names : List (List ℕ)
  pub spaces : Spaces

-- none is declared
abbrev pub none_declared : Declared
none_declared = record { names = []; spaces = first_spaces }

-- the number of the space of that name: `init`, or one of these, of space 1, of space 2, and so on
abbrev pub space_named : List (List ℕ) → List ℕ → Option ℕ
space_named names name = if bytes_eq name (codes "init") then Some 0 else number_named 1 names name

-- the keys of a space
abbrev pub space_keys : List Key
space_keys =
    key (codes "name") Text Required
    ∷ key (codes "parent") Text Required
    ∷ key (codes "owner") an_id Required
    ∷ key (codes "uid_map") Extents Optional
    ∷ key (codes "gid_map") Extents Optional
    ∷ key (codes "setgroups") (Word (codes "allow" ∷ codes "deny" ∷ [])) Optional
    ∷ key (codes "creator_setfcap") Flag Optional ∷ []

-- the name that a row declares
abbrev pub name_of : Members → List ℕ
name_of row = text_or [] (codes "name") row

-- the number of the parent that a row names, among the spaces before it
abbrev pub parent_named : Declared → Members → Option ℕ
parent_named before row = space_named before.names (text_or [] (codes "parent") row)

-- that number, where there is one
abbrev pub parent_number : Declared → Members → ℕ
parent_number before row = unwrap_or (parent_named before row) 0

-- the parent
abbrev pub parent_of : Declared → Members → Space
parent_of before row = space_of before.spaces (parent_number before row)

-- the faults of a row beside those of its keys, in their order
abbrev pub space_checks : Declared → Members → List (Cause × Bool)
space_checks before row =
    (Fault BadName, not (is_name (name_of row)))
    ∷ (Fault TwiceNamed, is_one_of before.names (name_of row))
    ∷ (Fault NoSuchParent, is_none (parent_named before row))
    ∷ (Fault BadMap, is_bad_map (map_at (codes "uid_map") row) || is_bad_map (map_at (codes "gid_map") row))
    ∷ (
      Fault NotMapped,
      is_none (stored_under (parent_of before row).uids (map_at (codes "uid_map") row))
          || is_none (stored_under (parent_of before row).gids (map_at (codes "gid_map") row)),
    )
    ∷ (Fault TooDeep, not (nat_lt (level before.spaces (parent_number before row)) deepest)) ∷ []

-- the space that a row without faults declares; the word of its setgroups file is as declared, whatever its parent's is
abbrev pub space_declared : Declared → Members → Space
space_declared before row = record {
  parent = Some (parent_number before row);
  owner = number_or 0 last_id 0 (codes "owner") row;
  uids = unwrap_or (stored_under (parent_of before row).uids (map_at (codes "uid_map") row)) None;
  gids = unwrap_or (stored_under (parent_of before row).gids (map_at (codes "gid_map") row)) None;
  deny = is_text (codes "deny") (get_member (codes "setgroups") row);
  creator_setfcap = flag_of (get_member (codes "creator_setfcap") row);
}

-- the spaces with that of one row more
abbrev pub space_row : Declared → Members → Result Declared Cause
space_row before row =
    unless (first_standing (key_checks space_keys row ++ space_checks before row)) (record {
      names = before.names ++ name_of row ∷ [];
      spaces = space_declared before row ∷ before.spaces;
    })
