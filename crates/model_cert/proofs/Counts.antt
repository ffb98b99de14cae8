-- A text that is accepted has two rows for each space.
use Rattle.std.proofs.Common.{◌≡◌, ◌==◌, ℕ, suc, ◌*◌, List, [], ◌∷◌, length, Bool, true, false, Option, Some, None}
use Rattle.std.proofs.Common.{Result, Ok, Err, refl, ap, subst, eqb-true}
use Rattle.std.specs.Prelude.{if◌then◌else◌, codes, ⊤}
use Rattle.model_box.specs.Bounds.{BoxRow}
use Rattle.model_cert.specs.Document.{all_rows, is_format_1, document, certificate_value, value_in, certificate}
use Rattle.model_cert.specs.Fault.{CertFault, Shape, ◌>>=◌}
use Rattle.model_cert.specs.Json.{json_of, field}
use Rattle.model_cert.specs.Laws.{TwoRowsASpace}
use Rattle.model_cert.specs.Row.{row_shape, rows_shape, row_order, rows_order}
use Rattle.serde_json.specs.Data.{Data, Items, no_items, item}
use Rattle.serde_json.specs.Events.{items_len}
use Rattle.serde_json.specs.Find.{as_array}

-- so many rows, where there are any
abbrev HasRows : ℕ → Result (List BoxRow) CertFault → Type 0
HasRows n (Ok rows) = length rows ≡ n
HasRows n (Err e) = ⊤

one_more : (n : ℕ) (first : Result BoxRow CertFault) (rest : Result (List BoxRow) CertFault) → HasRows n rest
    → HasRows (suc n) (first >>= λ row. rest >>= λ rows. Ok (row ∷ rows))
one_more n (Ok row) (Ok rows) h = ap suc h
one_more n _ _ h = tt

shapes : (y : ℕ) (ds : Items) → HasRows (items_len ds) (rows_shape y ds)
shapes y no_items = refl
shapes y (item d ds) = one_more (items_len ds) (row_shape y d) (rows_shape (suc y) ds) (shapes (suc y) ds)

orders : (y : ℕ) (rows : List BoxRow) → HasRows (length rows) (rows_order y rows)
orders y [] = refl
orders y (row ∷ rows) = one_more (length rows) (row_order y row) (rows_order (suc y) rows) (orders (suc y) rows)

then_in_order : (n : ℕ) (read : Result (List BoxRow) CertFault) → HasRows n read → HasRows n (read >>= rows_order 0)
then_in_order n (Err e) h = tt
then_in_order n (Ok rows) h = subst (λ (k : ℕ). HasRows k (rows_order 0 rows)) h (orders 0 rows)

enough : (n : ℕ) (ds : Items) (same : Bool) → (items_len ds == n) ≡ same
    → HasRows n (if same then rows_shape 0 ds else Err (Shape None))
enough n ds true is = subst (λ (k : ℕ). HasRows k (rows_shape 0 ds)) (eqb-true (items_len ds) n is) (shapes 0 ds)
enough n ds false is = tt

all : (spaces : ℕ) (items : Option Items) → HasRows (2 * spaces) (all_rows spaces items)
all spaces None = tt
all spaces (Some ds) = enough (2 * spaces) ds (items_len ds == 2 * spaces) refl

if_format : (n : ℕ) (is : Bool) (read : Result (List BoxRow) CertFault) → HasRows n read
    → HasRows n (if is then read else Err (Shape None))
if_format n true read h = h
if_format n false read h = tt

of_document : (spaces : ℕ) (d : Data) → HasRows (2 * spaces) (document spaces d)
unfolding document
of_document spaces d =
    let items = field as_array (codes "rows") d in
    if_format (2 * spaces) (is_format_1 d) (all_rows spaces items) (all spaces items)

of_value : (spaces : ℕ) (d : Data) → HasRows (2 * spaces) (certificate_value spaces d)
unfolding certificate_value
of_value spaces d = then_in_order (2 * spaces) (document spaces d) (of_document spaces d)

of_json : (spaces : ℕ) (d : Option Data) → HasRows (2 * spaces) (value_in d >>= certificate_value spaces)
of_json spaces None = tt
of_json spaces (Some d) = of_value spaces d

pub two_rows_a_space : TwoRowsASpace
unfolding certificate
two_rows_a_space spaces bytes rows is = subst (HasRows (2 * spaces)) is (of_json spaces (json_of bytes))

pub document_has_rows : (spaces : ℕ) (d : Data) (rows : List BoxRow) → document spaces d ≡ Ok rows
    → length rows ≡ 2 * spaces
document_has_rows spaces d rows is = subst (HasRows (2 * spaces)) is (of_document spaces d)

pub value_has_rows : (spaces : ℕ) (d : Data) (rows : List BoxRow) → certificate_value spaces d ≡ Ok rows
    → length rows ≡ 2 * spaces
value_has_rows spaces d rows is = subst (HasRows (2 * spaces)) is (of_value spaces d)
