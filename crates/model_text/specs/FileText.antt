-- The files that a world's text declares (choice): a row's keys, its faults, and the file that it adds to those before it.
use Rattle.std.specs.Prelude.{ℕ, codes, ◌&&◌, not, nat_le, is_none, is_some, length, slice_get, Bool, List, [], ◌∷◌, ◌++◌}
use Rattle.std.specs.Prelude.{Option, Some, None, Result, option_map, option_and_then, unwrap_or, if◌then◌else◌}
use Rattle.std.specs.Result.{result_ok}
use Rattle.cm_base.specs.Number.{read_octal_of}
use Rattle.cm_base.specs.declared.faults.WorldFault.TheVariants.{BadName, TwiceNamed, NoSuchMount, NoInterpreter, BadMode, BadCaps}
use Rattle.hex.specs.Hex.{decode_of}
use Rattle.model_cred.specs.Attribute.{attribute_of}
use Rattle.model_cred.specs.Files.{FileCaps, FileRow, Mount, row_named}
use Rattle.model_text.specs.Keys.{Key, key, Text, Required, Optional, an_id, last_id, key_checks}
use Rattle.model_text.specs.MountText.{mount_named}
use Rattle.model_text.specs.NameText.{is_path}
use Rattle.model_text.specs.Refusal.{Cause, Fault, first_standing, unless}
use Rattle.model_text.specs.Toml.{number_or, text_of, text_or}
use Rattle.toml.specs.Data.{Members, get_member}

-- the file at that place has no interpreter
abbrev pub is_program : List FileRow → ℕ → Bool
is_program rows n = is_some (slice_get rows n) && is_none (option_and_then (λ row. row.interpreter) (slice_get rows n))

-- the place of the file of that path, where that has no interpreter itself
abbrev pub program_at : List FileRow → List ℕ → Option ℕ
program_at rows path = option_and_then (λ n. if is_program rows n then Some n else None) (row_named rows path)

-- the mode that 1 to 4 octal digits spell (chmod(1))
unfoldable pub mode_of_text : List ℕ → Option ℕ
mode_of_text text = if nat_le (length text) 4 then result_ok (read_octal_of text) else None

-- the attribute whose bytes hexadecimal digits spell (capabilities(7), "File capability extended attribute versioning")
unfoldable pub attribute_of_text : List ℕ → Option FileCaps
attribute_of_text text = option_and_then (λ bytes. result_ok (attribute_of bytes)) (result_ok (decode_of text))

-- the keys of a file
abbrev pub file_keys : List Key
file_keys =
    key (codes "path") Text Required
    ∷ key (codes "mount") Text Optional
    ∷ key (codes "uid") an_id Required
    ∷ key (codes "gid") an_id Required
    ∷ key (codes "mode") Text Required
    ∷ key (codes "caps") Text Optional
    ∷ key (codes "interpreter") Text Optional ∷ []

-- the path that a row declares
abbrev pub path_of : Members → List ℕ
path_of row = text_or [] (codes "path") row

-- the number of the mount that a row names, that of `root` where it names none
abbrev pub mount_of_row : List Mount → Members → Option ℕ
mount_of_row mounts row = mount_named mounts (text_or (codes "root") (codes "mount") row)

-- the interpreter that a row names, where it names one: there is no answer where it is no earlier file without one
abbrev pub interpreter_of : List FileRow → Option (List ℕ) → Option (Option ℕ)
interpreter_of rows None = Some None
interpreter_of rows (Some path) = option_map (λ n. Some n) (program_at rows path)

-- the attribute that a row declares, where it declares one: there is no answer where the text is none
abbrev pub attribute_declared : Option (List ℕ) → Option (Option FileCaps)
attribute_declared None = Some None
attribute_declared (Some text) = option_map (λ caps. Some caps) (attribute_of_text text)

-- the faults of a row beside those of its keys, in their order
abbrev pub file_checks : List Mount → List FileRow → Members → List (Cause × Bool)
file_checks mounts before row =
    (Fault BadName, not (is_path (path_of row)))
    ∷ (Fault TwiceNamed, is_some (row_named before (path_of row)))
    ∷ (Fault NoSuchMount, is_none (mount_of_row mounts row))
    ∷ (Fault NoInterpreter, is_none (interpreter_of before (text_of (get_member (codes "interpreter") row))))
    ∷ (Fault BadMode, is_none (mode_of_text (text_or [] (codes "mode") row)))
    ∷ (Fault BadCaps, is_none (attribute_declared (text_of (get_member (codes "caps") row)))) ∷ []

-- the file that a row without faults declares
abbrev pub file_declared : List Mount → List FileRow → Members → FileRow
file_declared mounts before row = record {
  path = path_of row;
  mount = unwrap_or (mount_of_row mounts row) 0;
  uid = number_or 0 last_id 0 (codes "uid") row;
  gid = number_or 0 last_id 0 (codes "gid") row;
  mode = unwrap_or (mode_of_text (text_or [] (codes "mode") row)) 0;
  caps = unwrap_or (attribute_declared (text_of (get_member (codes "caps") row))) None;
  interpreter = unwrap_or (interpreter_of before (text_of (get_member (codes "interpreter") row))) None;
}

-- the files with that of one row more
abbrev pub file_row : List Mount → List FileRow → Members → Result (List FileRow) Cause
file_row mounts before row =
    unless (first_standing (key_checks file_keys row ++ file_checks mounts before row)) (before ++ file_declared mounts before row ∷ [])
