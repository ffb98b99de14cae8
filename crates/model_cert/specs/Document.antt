-- The bounds that a certificate stands for, or the refusal that comes first: of the text, of the document, of the shape
-- of a row, and then of the order in a row's sets (choice).
use Rattle.std.specs.Prelude.{ℕ, ◌*◌, ◌==◌, ◌&&◌, Bool, List, codes, Option, Some, None, if◌then◌else◌, unwrap_or}
use Rattle.std.specs.Prelude.{Result, Ok, Err}
use Rattle.model_box.specs.Bounds.{BoxRow}
use Rattle.model_cert.specs.Fault.{CertFault, Json, Shape, ◌>>=◌}
use Rattle.model_cert.specs.Json.{json_of, key_count, number_of, field}
use Rattle.model_cert.specs.Row.{rows_shape, rows_order}
use Rattle.serde_json.specs.Data.{Data, Items}
use Rattle.serde_json.specs.Events.{items_len}
use Rattle.serde_json.specs.Find.{as_array}

-- what is no JSON is refused
abbrev pub value_in : Option Data → Result Data CertFault
value_in None = Err Json
value_in (Some d) = Ok d

-- an object of two keys, of which one is `format`, with the number 1
abbrev pub is_format_1 : Data → Bool
is_format_1 d = key_count d == 2 && unwrap_or (field number_of (codes "format") d) 0 == 1

-- the rows, if there are two for each space
abbrev pub all_rows : ℕ → Option Items → Result (List BoxRow) CertFault
all_rows spaces None = Err (Shape None)
all_rows spaces (Some ds) = if items_len ds == 2 * spaces then rows_shape 0 ds else Err (Shape None)

-- the rows of a document of this format, in whatever order the intervals of their sets are
unfoldable pub document : ℕ → Data → Result (List BoxRow) CertFault
document spaces d = if is_format_1 d then all_rows spaces (field as_array (codes "rows") d) else Err (Shape None)

-- the bounds that a value of JSON stands for, two rows for each of so many spaces
unfoldable pub certificate_value : ℕ → Data → Result (List BoxRow) CertFault
certificate_value spaces d = document spaces d >>= rows_order 0

-- the bounds that a text stands for, two rows for each of so many spaces
unfoldable pub certificate : ℕ → List ℕ → Result (List BoxRow) CertFault
certificate spaces bytes = value_in (json_of bytes) >>= certificate_value spaces
