-- The text that is written for bounds is read as the value whose text it is.
use Rattle.std.proofs.Common.{◌≡◌, ℕ, suc, ◌+◌, ◌≤◌, max, List, [], ◌∷◌, map, Some, IsTrue, refl, ap, sym, ◌∙◌, arith}
use Rattle.std.proofs.Common.{◌++◌, append-nil, subst}
use Rattle.json.proofs.Printed.Decimals.{IsNumber-decimal}
use Rattle.json.proofs.Printed.Tokens.{tokens-print}
use Rattle.json.proofs.Printed.Trees.{value-json_tokens, ArePrintable-json_tokens}
use Rattle.json.specs.Json as json
use Rattle.json.specs.Lex.{tokens}
use Rattle.json.specs.Print.{ArePrintable}
use Rattle.json.specs.Tree as tree
use Rattle.model_box.specs.Bounds.{BoxRow}
use Rattle.model_cert.proofs.Ends.{tokens_before_lf}
use Rattle.model_cert.proofs.Rows.{RowByRow}
use Rattle.model_cert.specs.Written.{interval_data, row_data, certificate_data, certificate_text}
use Rattle.model_cred.proofs.Intervals.{ascend_parts}
use Rattle.model_cred.specs.Intervals.{Interval, ascend_from}
use Rattle.model_verdict.specs.Rows.{IsRow}
use Rattle.serde_json.proofs.Numbers.{number_of-decimal}
use Rattle.serde_json.proofs.Texts.{print-outline}
use Rattle.serde_json.specs.Read.{of_json, of_items, read, max_depth}
use Rattle.serde_json.specs.View.{items_of}
use Rattle.serde_json.specs.Written.{outline, items_outline}

-- ---- each part is read as itself

ids_read : (low : ℕ) (list : List Interval) → IsTrue (ascend_from low list)
    → of_items (items_outline (items_of (map interval_data list))) ≡ Some (items_of (map interval_data list))
ids_read low [] h = refl
ids_read low (i ∷ list) h =
    let a = ascend_parts low i list h in
    let first = number_of-decimal i.first (omega (arith, a.full, a.ids)) in
    rw (first, number_of-decimal i.last (omega (arith, a.ids)), ids_read (i.last + 2) list a.rest)

row_read : (row : BoxRow) → IsRow row → of_json (outline (row_data row)) ≡ Some (row_data row)
row_read row a =
    rw (
      ids_read 0 row.uids a.uids,
      ids_read 0 row.effective_uids a.effective_uids,
      ids_read 0 row.fs_uids a.fs_uids,
      ids_read 0 row.gids a.gids,
      ids_read 0 row.effective_gids a.effective_gids,
      ids_read 0 row.fs_gids a.fs_gids,
      ids_read 0 row.groups a.groups,
      ids_read 0 row.mapped_uids a.mapped_uids,
      ids_read 0 row.mapped_gids a.mapped_gids,
    )

rows_read : (rows : List BoxRow) → RowByRow rows
    → of_items (items_outline (items_of (map row_data rows))) ≡ Some (items_of (map row_data rows))
rows_read [] h = refl
rows_read (row ∷ rows) h = rw (row_read row h.0.ids, rows_read rows h.1)

whole_read : (rows : List BoxRow) → RowByRow rows
    → of_json (outline (certificate_data rows)) ≡ Some (certificate_data rows)
whole_read rows h = rw (number_of-decimal 1 (omega arith), rows_read rows h)

-- ---- its numbers are numbers of JSON

ids_numbers : (low : ℕ) (list : List Interval) → IsTrue (ascend_from low list)
    → tree.ItemsHaveNumbers (items_outline (items_of (map interval_data list)))
ids_numbers low [] h = tt
ids_numbers low (i ∷ list) h =
    let a = ascend_parts low i list h in
    let first = IsNumber-decimal i.first (omega (arith, a.full, a.ids)) in
    ((first, (IsNumber-decimal i.last (omega (arith, a.ids)), tt)), ids_numbers (i.last + 2) list a.rest)

-- two facts, of which the second may be two again
infixr 10 ◌also◌
◌also◌ : {A B : Type 0} → A → B → A × B
a also b = (a, b)

row_numbers : (row : BoxRow) → IsRow row → tree.HasNumbers (outline (row_data row))
row_numbers row a =
    tt also ids_numbers 0 row.effective_gids a.effective_gids also ids_numbers 0 row.effective_uids a.effective_uids
    also ids_numbers 0 row.fs_gids a.fs_gids also ids_numbers 0 row.fs_uids a.fs_uids
    also ids_numbers 0 row.gids a.gids also tt also tt also ids_numbers 0 row.mapped_gids a.mapped_gids
    also ids_numbers 0 row.mapped_uids a.mapped_uids also tt also tt also tt
    also ids_numbers 0 row.groups a.groups also ids_numbers 0 row.uids a.uids also tt

rows_numbers : (rows : List BoxRow) → RowByRow rows
    → tree.ItemsHaveNumbers (items_outline (items_of (map row_data rows)))
rows_numbers [] h = tt
rows_numbers (row ∷ rows) h = (row_numbers row h.0.ids, rows_numbers rows h.1)

-- ---- it nests five deep at most

most : (a b n : ℕ) → a ≤ n → b ≤ n → max a b ≤ n
most a b n x y = omega arith

-- how deep the intervals, and the rows, of a list nest
abbrev ids_deep : List Interval → ℕ
ids_deep list = tree.items_depth (items_outline (items_of (map interval_data list)))

abbrev rows_deep : List BoxRow → ℕ
rows_deep rows = tree.items_depth (items_outline (items_of (map row_data rows)))

ids_depth : (list : List Interval) → ids_deep list ≤ 1
ids_depth [] = omega arith
ids_depth (i ∷ list) = most 1 (ids_deep list) 1 (omega arith) (ids_depth list)

ids_two : (list : List Interval) → suc (ids_deep list) ≤ 2
ids_two list = omega (arith, ids_depth list)

row_depth : (row : BoxRow) → tree.depth (outline (row_data row)) ≤ 3
row_depth row =
    let n : 0 ≤ 2 = omega arith in
    let ids = λ (list : List Interval) (b : ℕ) (h : b ≤ 2). most (suc (ids_deep list)) b 2 (ids_two list) h in
    let plain = λ (b : ℕ) (h : b ≤ 2). most 0 b 2 n h in
    let late = ids row.mapped_gids _ (ids row.mapped_uids _ (plain _ (plain _ (plain _ (ids row.groups _
    (ids row.uids _ n)))))) in
    let all = plain _ (ids row.effective_gids _ (ids row.effective_uids _ (ids row.fs_gids _ (ids row.fs_uids _
    (ids row.gids _ (plain _ (plain _ late))))))) in
    omega (arith, all)

rows_depth : (rows : List BoxRow) → rows_deep rows ≤ 3
rows_depth [] = omega arith
rows_depth (row ∷ rows) =
    most (tree.depth (outline (row_data row))) (rows_deep rows) 3 (row_depth row) (rows_depth rows)

whole_depth : (rows : List BoxRow) → tree.depth (outline (certificate_data rows)) ≤ 127
whole_depth rows = omega (arith, rows_depth rows)

-- ---- so the text is read

printable : (rows : List BoxRow) → RowByRow rows → ArePrintable (tree.json_tokens (outline (certificate_data rows)))
printable rows h =
    let j = outline (certificate_data rows) in
    let numbers : tree.HasNumbers j = (IsNumber-decimal 1 (omega arith), (rows_numbers rows h, tt)) in
    ArePrintable-json_tokens j numbers

tokens_again : (rows : List BoxRow) → RowByRow rows
    → tokens (certificate_text rows) ≡ tree.json_tokens (outline (certificate_data rows))
unfolding certificate_text
tokens_again rows h =
    ap tokens (sym (print-outline (certificate_data rows)))
    ∙ tokens-print (tree.json_tokens (outline (certificate_data rows))) (printable rows h)

pub text_read : (rows : List BoxRow) → RowByRow rows → read (certificate_text rows) ≡ Some (certificate_data rows)
text_read rows h =
    let j = outline (certificate_data rows) in
    let found = ap (json.value max_depth) (tokens_again rows h ∙ sym (append-nil (tree.json_tokens j)))
    ∙ value-json_tokens j max_depth [] (whole_depth rows) in
    rw found (whole_read rows h)

-- ---- and alike with an LF after it
pub line_read : (rows : List BoxRow) → RowByRow rows
    → read (certificate_text rows ++ 10 ∷ []) ≡ read (certificate_text rows)
unfolding certificate_text
line_read rows h =
    let ts = tree.json_tokens (outline (certificate_data rows)) in
    let alike = λ (text : List ℕ). tokens (text ++ 10 ∷ []) ≡ tokens text in
    let same = subst alike (print-outline (certificate_data rows)) (tokens_before_lf ts (printable rows h)) in
    rw same
