-- The one text that is written for bounds: the compact text of a value of JSON (choice). The keys of its objects
-- ascend.
use Rattle.std.specs.Prelude.{ℕ, List, map, codes}
use Rattle.model_box.specs.Bounds.{BoxRow}
use Rattle.model_cred.specs.Intervals.{Interval}
use Rattle.model_text.specs.Hex.{hex_set}
use Rattle.serde_json.specs.Data.{Data, boolean, number, unsigned, string, array, object, no_items, item}
use Rattle.serde_json.specs.Data.{Members, no_members, member}
use Rattle.serde_json.specs.View.{items_of}
use Rattle.serde_json.specs.Written.{compact_text}

-- the first and the last id
abbrev pub interval_data : Interval → Data
interval_data i = array (item (number (unsigned i.first)) (item (number (unsigned i.last)) no_items))

-- a set of ids
abbrev pub ids_data : List Interval → Data
ids_data list = array (items_of (map interval_data list))

-- a set of capabilities, in 16 digits
abbrev pub caps_data : ℕ → Data
caps_data set = string (hex_set set)

-- the keys from `mg` on
abbrev pub late_members : BoxRow → Members
late_members row =
    member (codes "mg") (ids_data row.mapped_gids)
    (member (codes "mu") (ids_data row.mapped_uids)
    (member (codes "n") (boolean row.no_new_privs)
    (member (codes "p") (caps_data row.permitted)
    (member (codes "r") (boolean row.root_counts)
    (member (codes "s") (ids_data row.groups)
    (member (codes "u") (ids_data row.uids) no_members))))))

-- a row
abbrev pub row_data : BoxRow → Data
row_data row = object
    (member (codes "b") (caps_data row.bounding)
    (member (codes "eg") (ids_data row.effective_gids)
    (member (codes "eu") (ids_data row.effective_uids)
    (member (codes "fg") (ids_data row.fs_gids)
    (member (codes "fu") (ids_data row.fs_uids)
    (member (codes "g") (ids_data row.gids)
    (member (codes "i") (caps_data row.inheritable)
    (member (codes "k") (boolean row.lock_clear) (late_members row)))))))))

-- a row for each
abbrev pub rows_data : List BoxRow → Data
rows_data rows = array (items_of (map row_data rows))

-- the whole certificate
abbrev pub certificate_data : List BoxRow → Data
certificate_data rows =
    object (member (codes "format") (number (unsigned 1)) (member (codes "rows") (rows_data rows) no_members))

-- the one text that is written for bounds
unfoldable pub certificate_text : List BoxRow → List ℕ
certificate_text rows = compact_text (certificate_data rows)
