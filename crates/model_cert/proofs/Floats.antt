-- What is written for bounds has no float.
use Rattle.std.proofs.Common.{◌≡◌, List, [], ◌∷◌, map, false, refl}
use Rattle.model_box.specs.Bounds.{BoxRow}
use Rattle.model_cert.specs.Written.{interval_data, row_data, certificate_data}
use Rattle.model_cred.specs.Intervals.{Interval}
use Rattle.serde_json.specs.View.{items_of}
use Rattle.serde_json.specs.Written.{has_float, items_have_float}

ids_floatless : (list : List Interval) → items_have_float (items_of (map interval_data list)) ≡ false
ids_floatless [] = refl
ids_floatless (i ∷ list) = ids_floatless list

row_floatless : (row : BoxRow) → has_float (row_data row) ≡ false
row_floatless row =
    rw (
      ids_floatless row.uids,
      ids_floatless row.effective_uids,
      ids_floatless row.fs_uids,
      ids_floatless row.gids,
      ids_floatless row.effective_gids,
      ids_floatless row.fs_gids,
      ids_floatless row.groups,
      ids_floatless row.mapped_uids,
      ids_floatless row.mapped_gids,
    )

rows_floatless : (rows : List BoxRow) → items_have_float (items_of (map row_data rows)) ≡ false
rows_floatless [] = refl
rows_floatless (row ∷ rows) = rw (row_floatless row) (rows_floatless rows)

pub certificate_floatless : (rows : List BoxRow) → has_float (certificate_data rows) ≡ false
certificate_floatless rows = rw (rows_floatless rows)
