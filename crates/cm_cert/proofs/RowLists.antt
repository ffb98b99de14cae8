-- Rows, read one by one: what is done, before what is left.
use Rattle.std.proofs.Common.{◌≡◌, ◌+◌, ◌<◌, ℕ, suc, List, [], ◌∷◌, ◌++◌, length, drop, get_or, Result, Ok, Err, refl, ap, sym, ◌∙◌, append_assoc, add-one}
use Rattle.cm_cert.proofs.Items.{left_is}
use Rattle.model_box.specs.Bounds.{BoxRow}
use Rattle.model_cert.specs.Fault.{CertFault, ◌>>=◌}
use Rattle.model_cert.specs.Row.{row_shape, rows_shape, row_order, rows_order}
use Rattle.serde_json.specs.View.{view, items_view}
use Rattle.serde_json.specs.declared.value.Value.{Value}

-- the rows that are read, before those that are still to be
abbrev pub rows_before : List BoxRow → Result (List BoxRow) CertFault → Result (List BoxRow) CertFault
rows_before done read = read >>= λ rows. Ok (done ++ rows)

rows_push : (done : List BoxRow) (row : BoxRow) (read : Result (List BoxRow) CertFault)
    → rows_before (done ++ row ∷ []) read ≡ rows_before done (read >>= λ rows. Ok (row ∷ rows))
rows_push done row (Err e) = refl
rows_push done row (Ok rows) = ap Ok (append_assoc done (row ∷ []) rows)

-- one row more, with those that are left
abbrev with_rest : List BoxRow → Result (List BoxRow) CertFault → Result BoxRow CertFault
    → Result (List BoxRow) CertFault
with_rest done rest first = rows_before done (first >>= λ row. rest >>= λ rows. Ok (row ∷ rows))

-- ---- the shape

pub row_shaped : (vs : List Value) (k y : ℕ) (v : Value) (row : BoxRow) (done : List BoxRow) → k < length vs
    → v ≡ get_or vs k v → row_shape y (view v) ≡ Ok row
    → rows_before (done ++ row ∷ []) (rows_shape (y + 1) (items_view (drop (k + 1) vs)))
    ≡ rows_before done (rows_shape y (items_view (drop k vs)))
row_shaped vs k y v row done below at is =
    let left = items_view (drop (k + 1) vs) in
    let rest = rows_shape (suc y) left in
    ap (λ next. rows_before (done ++ row ∷ []) (rows_shape next left)) (add-one y)
    ∙ rows_push done row rest
    ∙ ap (with_rest done rest) (sym is)
    ∙ ap (λ ds. rows_before done (rows_shape y ds)) (sym (left_is vs k v below at))

-- ---- the order

pub row_ordered : (y : ℕ) (plain row : BoxRow) (more done : List BoxRow) → row_order y plain ≡ Ok row
    → rows_before (done ++ row ∷ []) (rows_order (y + 1) more) ≡ rows_before done (rows_order y (plain ∷ more))
row_ordered y plain row more done is =
    ap (λ next. rows_before (done ++ row ∷ []) (rows_order next more)) (add-one y)
    ∙ rows_push done row (rows_order (suc y) more)
    ∙ ap (with_rest done (rows_order (suc y) more)) (sym is)
