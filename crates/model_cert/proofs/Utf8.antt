-- The text that is written for bounds is UTF-8, since its keys, digits and numbers are ASCII.
use Rattle.std.proofs.Common.{◌≡◌, ℕ, ◌+◌, ◌&&◌, nat_lt, List, [], ◌∷◌, ◌++◌, map, Bool, true, false}
use Rattle.std.proofs.Common.{IsTrue, IsUtf8, refl, arith}
use Rattle.std.proofs.lemmas.Bool.{and_parts}
use Rattle.std.proofs.lemmas.Str.{IsUtf8-append}
use Rattle.json.proofs.Printed.Utf8.{are_ascii, IsUtf8-are_ascii, IsUtf8-quoted, IsUtf8-boolean}
use Rattle.json.specs.Print.{quoted}
use Rattle.model_box.specs.Bounds.{BoxRow}
use Rattle.model_cert.proofs.Ascii.{decimal_ascii, set_ascii}
use Rattle.model_cert.proofs.Rows.{RowByRow}
use Rattle.model_cert.specs.Written.{interval_data, row_data, certificate_data, certificate_text}
use Rattle.model_cred.proofs.Intervals.{ascend_parts}
use Rattle.model_cred.specs.Intervals.{Interval, ascend_from}
use Rattle.model_verdict.specs.Rows.{IsRow}
use Rattle.serde_json.specs.Data.{Data, null, boolean, number, string, array, object, Items, no_items, item}
use Rattle.serde_json.specs.Data.{Members, no_members, member}
use Rattle.serde_json.specs.View.{items_of}
use Rattle.serde_json.specs.Written.{number_text, comma_if, compact_text, items_text, members_text}

-- ---- a value whose keys, strings and numbers are ASCII has a text that is UTF-8

abbrev mutual
  has_ascii : Data → Bool
  has_ascii null = true
  has_ascii (boolean b) = true
  has_ascii (number n) = are_ascii (number_text n)
  has_ascii (string s) = are_ascii s
  has_ascii (array ds) = items_have_ascii ds
  has_ascii (object ms) = members_have_ascii ms

  items_have_ascii : Items → Bool
  items_have_ascii no_items = true
  items_have_ascii (item d ds) = has_ascii d && items_have_ascii ds

  members_have_ascii : Members → Bool
  members_have_ascii no_members = true
  members_have_ascii (member k d ms) = are_ascii k && (has_ascii d && members_have_ascii ms)

comma_utf8 : (later : Bool) → IsUtf8 (comma_if later)
comma_utf8 true = IsUtf8-are_ascii (44 ∷ []) refl
comma_utf8 false = IsUtf8-are_ascii [] refl

after_byte : (x : ℕ) (xs : List ℕ) → (nat_lt x 128 && true) ≡ true → IsUtf8 xs → IsUtf8 (x ∷ xs)
after_byte x xs small u = IsUtf8-append (x ∷ []) xs (IsUtf8-are_ascii (x ∷ []) small) u

mutual
  text_utf8 : (d : Data) → has_ascii d ≡ true → IsUtf8 (compact_text d)
  text_utf8 null h = IsUtf8-are_ascii (110 ∷ 117 ∷ 108 ∷ 108 ∷ []) refl
  text_utf8 (boolean b) h = IsUtf8-boolean b
  text_utf8 (number n) h = IsUtf8-are_ascii (number_text n) h
  text_utf8 (string s) h = IsUtf8-quoted s (IsUtf8-are_ascii s h)
  text_utf8 (array ds) h = after_byte 91 (items_text false ds) refl (items_utf8 false ds h)
  text_utf8 (object ms) h = after_byte 123 (members_text false ms) refl (members_utf8 false ms h)

  items_utf8 : (later : Bool) (ds : Items) → items_have_ascii ds ≡ true → IsUtf8 (items_text later ds)
  items_utf8 later no_items h = IsUtf8-are_ascii (93 ∷ []) refl
  items_utf8 later (item d ds) h =
      let p = and_parts (has_ascii d) (items_have_ascii ds) h in
      let rest = IsUtf8-append (compact_text d) _ (text_utf8 d p.0) (items_utf8 true ds p.1) in
      IsUtf8-append (comma_if later) _ (comma_utf8 later) rest

  members_utf8 : (later : Bool) (ms : Members) → members_have_ascii ms ≡ true → IsUtf8 (members_text later ms)
  members_utf8 later no_members h = IsUtf8-are_ascii (125 ∷ []) refl
  members_utf8 later (member k d ms) h =
      let p = and_parts (are_ascii k) (has_ascii d && members_have_ascii ms) h in
      let q = and_parts (has_ascii d) (members_have_ascii ms) p.1 in
      let rest = IsUtf8-append (compact_text d) (members_text true ms) (text_utf8 d q.0) (members_utf8 true ms q.1) in
      let value = after_byte 58 (compact_text d ++ members_text true ms) refl rest in
      let key = IsUtf8-quoted k (IsUtf8-are_ascii k p.0) in
      IsUtf8-append (comma_if later) _ (comma_utf8 later) (IsUtf8-append (quoted k) _ key value)

-- ---- so it is with what is written for bounds

ids_ascii : (low : ℕ) (list : List Interval) → IsTrue (ascend_from low list)
    → items_have_ascii (items_of (map interval_data list)) ≡ true
ids_ascii low [] h = refl
ids_ascii low (i ∷ list) h =
    let a = ascend_parts low i list h in
    let first = decimal_ascii i.first (omega (arith, a.full, a.ids)) in
    rw (first, decimal_ascii i.last (omega (arith, a.ids)), ids_ascii (i.last + 2) list a.rest)

row_ascii : (row : BoxRow) → IsRow row → has_ascii (row_data row) ≡ true
row_ascii row a =
    rw (
      set_ascii row.bounding,
      set_ascii row.inheritable,
      set_ascii row.permitted,
      ids_ascii 0 row.uids a.uids,
      ids_ascii 0 row.effective_uids a.effective_uids,
      ids_ascii 0 row.fs_uids a.fs_uids,
      ids_ascii 0 row.gids a.gids,
      ids_ascii 0 row.effective_gids a.effective_gids,
      ids_ascii 0 row.fs_gids a.fs_gids,
      ids_ascii 0 row.groups a.groups,
      ids_ascii 0 row.mapped_uids a.mapped_uids,
      ids_ascii 0 row.mapped_gids a.mapped_gids,
    )

rows_ascii : (rows : List BoxRow) → RowByRow rows → items_have_ascii (items_of (map row_data rows)) ≡ true
rows_ascii [] h = refl
rows_ascii (row ∷ rows) h = rw (row_ascii row h.0.ids) (rows_ascii rows h.1)

pub certificate_utf8 : (rows : List BoxRow) → RowByRow rows → IsUtf8 (certificate_text rows)
unfolding certificate_text
certificate_utf8 rows h = text_utf8 (certificate_data rows) (rw (decimal_ascii 1 (omega arith), rows_ascii rows h))

pub line_utf8 : (rows : List BoxRow) → RowByRow rows → IsUtf8 (certificate_text rows ++ 10 ∷ [])
line_utf8 rows h =
    IsUtf8-append (certificate_text rows) (10 ∷ []) (certificate_utf8 rows h) (IsUtf8-are_ascii (10 ∷ []) refl)
