-- Rows, and bounds, as the values that are written for them stand for them.
use Rattle.std.proofs.Common.{◌≡◌, ◌==◌, ℕ, suc, ◌*◌, List, [], ◌∷◌, map, length, true, Ok, refl, ap, arith}
use Rattle.std.proofs.lemmas.Bool.Decides.{nat_tests}
use Rattle.std.specs.List.{AllByRecursion}
use Rattle.model_box.specs.Bounds.{BoxRow}
use Rattle.model_cert.proofs.Sets.{ids_again, set_again}
use Rattle.model_cert.specs.Document.{certificate_value, document}
use Rattle.model_cert.specs.Laws.{HasLawfulSets}
use Rattle.model_cert.specs.Row.{sets_ascend, row_shape, row_fields, rows_shape, rows_order}
use Rattle.model_cert.specs.Written.{row_data, certificate_data}
use Rattle.model_verdict.specs.Rows.{IsRow}
use Rattle.serde_json.specs.Events.{items_len}
use Rattle.serde_json.specs.View.{items_of}

-- each of the rows has lawful sets, row by row
abbrev pub RowByRow : List BoxRow → Type 0
RowByRow rows = AllByRecursion HasLawfulSets rows

row_again : (y : ℕ) (row : BoxRow) → HasLawfulSets row → row_shape y (row_data row) ≡ Ok row
unfolding row_shape row_fields
row_again y row h =
    let a = h.ids in
    rw (
      set_again row.bounding h.bounding,
      set_again row.inheritable h.inheritable,
      set_again row.permitted h.permitted,
      ids_again row.uids a.uids,
      ids_again row.effective_uids a.effective_uids,
      ids_again row.fs_uids a.fs_uids,
      ids_again row.gids a.gids,
      ids_again row.effective_gids a.effective_gids,
      ids_again row.fs_gids a.fs_gids,
      ids_again row.groups a.groups,
      ids_again row.mapped_uids a.mapped_uids,
      ids_again row.mapped_gids a.mapped_gids,
    )

pub rows_again : (y : ℕ) (rows : List BoxRow) → RowByRow rows → rows_shape y (items_of (map row_data rows)) ≡ Ok rows
rows_again y [] h = refl
rows_again y (row ∷ rows) h = rw (row_again y row h.0, rows_again (suc y) rows h.1)

ascends : (row : BoxRow) → IsRow row → sets_ascend row ≡ true
ascends row a =
    rw (
      a.uids,
      a.effective_uids,
      a.fs_uids,
      a.gids,
      a.effective_gids,
      a.fs_gids,
      a.groups,
      a.mapped_uids,
      a.mapped_gids,
    )

in_order_again : (y : ℕ) (rows : List BoxRow) → RowByRow rows → rows_order y rows ≡ Ok rows
in_order_again y [] h = refl
in_order_again y (row ∷ rows) h = rw (ascends row h.0.ids) (rw (in_order_again (suc y) rows h.1))

count_again : (rows : List BoxRow) → items_len (items_of (map row_data rows)) ≡ length rows
count_again [] = refl
count_again (row ∷ rows) = ap suc (count_again rows)

pub value_again : (spaces : ℕ) (rows : List BoxRow) → RowByRow rows → length rows ≡ 2 * spaces
    → certificate_value spaces (certificate_data rows) ≡ Ok rows
unfolding certificate_value document
value_again spaces rows h count =
    let enough : (items_len (items_of (map row_data rows)) == 2 * spaces) ≡ true =
    grind (arith, nat_tests, count_again rows, count) in
    rw enough (rw (rows_again 0 rows h) (in_order_again 0 rows h))
