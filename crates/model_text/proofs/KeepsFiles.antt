-- The files that a world's text declares keep what files keep: owner and group are ids, an attribute has sets of
-- capabilities, the mount stands, and an interpreter is an earlier file that has none.
use Rattle.std.proofs.Common.{◌≡◌, ℕ, zero, suc, ◌<◌, ◌==◌, ◌&&◌, true, List, [], ◌∷◌, ◌++◌, length, Option, Some, None, Ok, Err}
use Rattle.std.proofs.Common.{IfSome, IsSomeAnd, codes, refl, subst, arith, All, bytes_eq, slice_get, if◌then◌else◌}
use Rattle.std.proofs.lemmas.Bool.{cond_both}
use Rattle.std.proofs.lemmas.List.Elements.{All-nil, All-push, All-weaker}
use Rattle.std.proofs.lemmas.List.Quantifiers.{position-Some}
use Rattle.std.proofs.lemmas.Option.{IfSome_then}
use Rattle.std.specs.Prelude.{unwrap_or, is_none, is_some, option_map, option_and_then}
use Rattle.std.specs.Result.{result_ok}
use Rattle.cm_base.specs.CapSet.{minus}
use Rattle.cm_base.specs.declared.faults.Table.TheVariants as table
use Rattle.cm_base.specs.declared.limited.Limited.TheVariants as limit
use Rattle.hex.specs.Hex.{decode_of}
use Rattle.model_cred.specs.Attribute.{Size, Version, attribute_as, attribute_of, caps_with, effective_bit}
use Rattle.model_cred.specs.Attribute.{size_2, size_3, version_2, version_3, word_at}
use Rattle.model_cred.specs.Files.{FileRow, IsProgram, KeepsCaps, KeepsRow, Mount, plain_mount, row_named}
use Rattle.model_text.proofs.CapTexts.{if_mapped, if_then, if_there, meet_full_is}
use Rattle.model_text.proofs.Rows.{any_rows, read_ok, rows_keep, unless_ok}
use Rattle.model_text.proofs.Values.{number_or_within, or_default}
use Rattle.model_text.specs.FileText.{attribute_declared, attribute_of_text, file_checks, file_declared, file_keys, file_row}
use Rattle.model_text.specs.FileText.{interpreter_of, is_program, mount_of_row, program_at}
use Rattle.model_text.specs.Keys.{key_checks, last_id}
use Rattle.model_text.specs.Refusal.{first_standing, read_rows}
use Rattle.model_text.specs.Toml.{text_of, text_or}
use Rattle.toml.specs.Data.{Items, Members, get_member}

-- ---- attributes
-- the attribute of bytes has sets of capabilities, whatever its root id
version_keeps : (version root : ℕ) (bytes : List ℕ) → IfSome (result_ok (attribute_as version root bytes)) KeepsCaps
version_keeps version root bytes =
    cond_both (minus (word_at bytes 0) effective_bit == version) (Ok (caps_with root bytes)) (Err (Version (word_at bytes 0)))
    (λ r. IfSome (result_ok r) KeepsCaps) (λ _. record { permitted = meet_full_is _; inheritable = meet_full_is _ })
    (λ _. tt)

attribute_keeps : (bytes : List ℕ) → IfSome (result_ok (attribute_of bytes)) KeepsCaps
attribute_keeps bytes =
    cond_both (length bytes == size_2) (attribute_as version_2 0 bytes)
    (if length bytes == size_3 then attribute_as version_3 (word_at bytes 20) bytes else Err (Size (length bytes)))
    (λ r. IfSome (result_ok r) KeepsCaps) (λ _. version_keeps version_2 0 bytes)
    (λ _. cond_both (length bytes == size_3) (attribute_as version_3 (word_at bytes 20) bytes) (Err (Size (length bytes)))
    (λ r. IfSome (result_ok r) KeepsCaps) (λ _. version_keeps version_3 (word_at bytes 20) bytes) (λ _. tt))

text_keeps : (text : List ℕ) → IfSome (attribute_of_text text) KeepsCaps
unfolding attribute_of_text
text_keeps text =
    if_then (λ (bytes : List ℕ). Unit {0}) KeepsCaps (λ bytes. result_ok (attribute_of bytes)) (result_ok (decode_of text))
    (if_there (λ (bytes : List ℕ). Unit {0}) (result_ok (decode_of text)) (λ bytes is. tt)) (λ bytes _. attribute_keeps bytes)

declared_attribute : (text : Option (List ℕ)) → IfSome (unwrap_or (attribute_declared text) None) KeepsCaps
declared_attribute None = tt
declared_attribute (Some text) =
    or_default (λ o. IfSome o KeepsCaps) (option_map (λ caps. Some caps) (attribute_of_text text)) None
    (if_mapped KeepsCaps (λ o. IfSome o KeepsCaps) (λ caps. Some caps) (attribute_of_text text) (text_keeps text) (λ caps keeps. keeps)) tt

-- ---- mounts
mount_within : (mounts : List Mount) (row : Members) → 0 < length mounts → unwrap_or (mount_of_row mounts row) 0 < length mounts
mount_within mounts row some =
    or_default (λ n. n < length mounts) (mount_of_row mounts row) 0
    (if_there (λ n. n < length mounts) (mount_of_row mounts row)
    (λ n is. (position-Some (λ m. bytes_eq m.name (text_or (codes "root") (codes "mount") row)) mounts n (plain_mount []) is).0)) some

-- ---- interpreters
-- a row that is a program stays one after one row more
still_program : (rows : List FileRow) (new : FileRow) (n : ℕ) → IsProgram rows n → IsProgram (rows ++ new ∷ []) n
still_program [] new n is = absurd is
still_program (row ∷ rows) new zero is = is
still_program (row ∷ rows) new (suc n) is = still_program rows new n is

is_program_there : (row : Option FileRow)
    → (is_some row && is_none (option_and_then (λ (r : FileRow). r.interpreter) row)) ≡ true → IsSomeAnd row (λ r. r.interpreter ≡ None)
is_program_there None is = absurd (cc)
is_program_there (Some row) is = none_of row.interpreter is
  where
    none_of : (o : Option ℕ) → is_none o ≡ true → o ≡ None
    none_of None is = refl
    none_of (Some n) is = absurd (cc)

program_is : (rows : List FileRow) (path : List ℕ) → IfSome (program_at rows path) (IsProgram rows)
program_is rows path =
    if_then (λ (n : ℕ). Unit {0}) (IsProgram rows) (λ n. if is_program rows n then Some n else None) (row_named rows path)
    (if_there (λ (n : ℕ). Unit {0}) (row_named rows path) (λ n is. tt))
    (λ n _. cond_both (is_program rows n) (Some n) None (λ o. IfSome o (IsProgram rows))
    (λ is. is_program_there (slice_get rows n) is) (λ _. tt))

interpreter_is : (rows : List FileRow) (path : Option (List ℕ)) → IfSome (unwrap_or (interpreter_of rows path) None) (IsProgram rows)
interpreter_is rows None = tt
interpreter_is rows (Some path) =
    or_default (λ o. IfSome o (IsProgram rows)) (option_map (λ n. Some n) (program_at rows path)) None
    (if_mapped (IsProgram rows) (λ o. IfSome o (IsProgram rows)) (λ n. Some n) (program_at rows path) (program_is rows path) (λ n is. is)) tt

-- ---- files
-- Each file keeps what a file keeps, its mount is one of so many, and its interpreter is a program.
pub record KeepRows (mounts : ℕ) (rows : List FileRow) : Type 0 where
  pub each : All KeepsRow rows
  pub mounted : All (λ row. row.mount < mounts) rows
  pub interpreters : All (λ row. IfSome row.interpreter (IsProgram rows)) rows

declared_keeps : (mounts : List Mount) (before : List FileRow) (row : Members) → KeepsRow (file_declared mounts before row)
declared_keeps mounts before row =
    let uid = number_or_within 0 last_id 0 (codes "uid") row (omega arith) in
    let gid = number_or_within 0 last_id 0 (codes "gid") row (omega arith) in
    record { uid = omega (arith, uid); gid = omega (arith, gid); caps = declared_attribute (text_of (get_member (codes "caps") row)) }

one_more : (mounts : List Mount) → 0 < length mounts → (before : List FileRow) (row : Members) (all : List FileRow)
    → KeepRows (length mounts) before → Unit {0} → file_row mounts before row ≡ Ok all → KeepRows (length mounts) all
one_more mounts some before row all keeps any is =
    let parts = unless_ok (first_standing (key_checks file_keys row ++ file_checks mounts before row)) _ all is in
    let new : FileRow = file_declared mounts before row in
    let IsAfter : FileRow → Type 0 = λ r. IfSome r.interpreter (IsProgram (before ++ new ∷ [])) in
    subst (KeepRows (length mounts)) parts.1 (record {
      each = All-push KeepsRow before new keeps.each (declared_keeps mounts before row);
      mounted = All-push (λ r. r.mount < length mounts) before new keeps.mounted (mount_within mounts row some);
      interpreters = All-push IsAfter before new
          (All-weaker (λ r. IfSome r.interpreter (IsProgram before)) IsAfter
          (λ r is. IfSome_then r.interpreter is (λ n is. still_program before new n is)) before keeps.interpreters)
          (IfSome_then new.interpreter (interpreter_is before (text_of (get_member (codes "interpreter") row)))
          (λ n is. still_program before new n is));
    })

none_keep : (mounts : ℕ) → KeepRows mounts []
none_keep mounts = record {
  each = All-nil KeepsRow;
  mounted = All-nil (λ (row : FileRow). row.mount < mounts);
  interpreters = All-nil (λ (row : FileRow). IfSome row.interpreter (IsProgram []));
}

-- the files of a world's text
pub files_keep : (mounts : List Mount) (rows : Items) (files : List FileRow) → 0 < length mounts
    → read_rows table.File limit.Files 0 (file_row mounts) [] rows ≡ Ok files → KeepRows (length mounts) files
files_keep mounts rows files some is =
    rows_keep table.File (file_row mounts) (KeepRows (length mounts)) (λ row. Unit {0}) (one_more mounts some) 1 [] rows files
    (none_keep (length mounts)) (any_rows rows) (read_ok table.File limit.Files 0 (file_row mounts) [] rows files is).1
