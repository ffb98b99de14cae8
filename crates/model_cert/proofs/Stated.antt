-- The laws of the text of bounds.
use Rattle.std.proofs.Common.{◌≡◌, ℕ, List, [], ◌∷◌, ◌++◌, codes, Option, Some, None, Result, Ok, Err, ap, sym, ◌∙◌}
use Rattle.std.proofs.lemmas.List.Elements.{recursion_from_All}
use Rattle.std.proofs.lemmas.Str.{is_utf8-from_IsUtf8}
use Rattle.model_box.specs.Bounds.{BoxRow}
use Rattle.model_cert.proofs.Rows.{RowByRow, rows_again, value_again}
use Rattle.model_cert.proofs.Texts.{text_read, line_read}
use Rattle.model_cert.proofs.Utf8.{certificate_utf8, line_utf8}
use Rattle.model_cert.specs.Document.{certificate}
use Rattle.model_cert.specs.Fault.{CertFault, Json}
use Rattle.model_cert.specs.Json.{json_of, field}
use Rattle.model_cert.specs.Laws.{HasLawfulSets, AreRows, RoundTrip, LineRoundTrip, OneTextOneBounds}
use Rattle.model_cert.specs.Row.{rows_shape}
use Rattle.model_cert.specs.Written.{certificate_data, certificate_text}
use Rattle.serde_json.specs.Data.{Data, Items}
use Rattle.serde_json.specs.Find.{as_array}

row_by_row : (rows : List BoxRow) → AreRows rows → RowByRow rows
row_by_row rows h = recursion_from_All HasLawfulSets rows h

text_is_json : (rows : List BoxRow) → RowByRow rows → json_of (certificate_text rows) ≡ Some (certificate_data rows)
unfolding json_of
text_is_json rows h = rw (is_utf8-from_IsUtf8 (certificate_text rows) (certificate_utf8 rows h)) (text_read rows h)

line_is_json : (rows : List BoxRow) → RowByRow rows
    → json_of (certificate_text rows ++ 10 ∷ []) ≡ Some (certificate_data rows)
unfolding json_of
line_is_json rows h =
    rw (is_utf8-from_IsUtf8 (certificate_text rows ++ 10 ∷ []) (line_utf8 rows h)) (line_read rows h ∙ text_read rows h)

pub round_trip : RoundTrip
unfolding certificate
round_trip spaces rows h count =
    let each = row_by_row rows h in
    rw (text_is_json rows each) (value_again spaces rows each count)

pub line_round_trip : LineRoundTrip
unfolding certificate
line_round_trip spaces rows h count =
    let each = row_by_row rows h in
    rw (line_is_json rows each) (value_again spaces rows each count)

-- ---- the rows of a text, however many there are

abbrev rows_at : Option Items → Result (List BoxRow) CertFault
rows_at None = Err Json
rows_at (Some ds) = rows_shape 0 ds

abbrev rows_of : Option Data → Result (List BoxRow) CertFault
rows_of None = Err Json
rows_of (Some d) = rows_at (field as_array (codes "rows") d)

rows_back : (rows : List BoxRow) → RowByRow rows → rows_of (json_of (certificate_text rows)) ≡ Ok rows
rows_back rows h = rw (text_is_json rows h) (rows_again 0 rows h)

abbrev read_as : List BoxRow → Result (List BoxRow) CertFault
read_as rows = Ok rows

same_rows : (one other : List BoxRow) → read_as one ≡ read_as other → one ≡ other
same_rows one other same = cc

pub one_text_one_bounds : OneTextOneBounds
one_text_one_bounds one other h k same =
    let again = rows_back other (row_by_row other k) in
    same_rows one other
    (sym (rows_back one (row_by_row one h)) ∙ ap (λ (text : List ℕ). rows_of (json_of text)) same ∙ again)
