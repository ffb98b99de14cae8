-- The world that a TOML text declares, or why it declares none (choice). The tables are looked at in this order: the whole
-- table, spaces, mounts, files, processes, the filter; the first refusal is told.
use Rattle.std.specs.Prelude.{ℕ, codes, List, [], ◌∷◌, Option, None, Some, Result, Ok, Err, if◌then◌else◌}
use Rattle.std.specs.Str.{is_utf8}
use Rattle.cm_base.specs.declared.faults.Table.{Table}
use Rattle.cm_base.specs.declared.faults.Table.TheVariants as table
use Rattle.cm_base.specs.declared.faults.WorldFault.{WorldFault}
use Rattle.cm_base.specs.declared.faults.WorldFault.TheVariants.{Toml}
use Rattle.cm_base.specs.declared.limited.Limited.{Limited}
use Rattle.cm_base.specs.declared.limited.Limited.TheVariants as limit
use Rattle.model_cred.specs.World.{World, LogForm, Script, Strace}
use Rattle.model_text.specs.FileText.{file_row}
use Rattle.model_text.specs.FilterText.{filter_row}
use Rattle.model_text.specs.Keys.{Key, key, Word, Rows, Section, Required, Optional, shape_checks}
use Rattle.model_text.specs.MountText.{mount_row, root_alone}
use Rattle.model_text.specs.ProcessText.{process_row}
use Rattle.model_text.specs.Refusal.{Refusal, At, Past, first_standing, in_row, read_rows, then_read, unless}
use Rattle.model_text.specs.SpaceText.{none_declared, space_row}
use Rattle.model_text.specs.Toml.{is_text, array_items, table_of}
use Rattle.toml.specs.Data.{Items, Members, get_member}
use Rattle.toml.specs.Parse.{parse_document}

-- A world; the fault of a row of a table, rows counted from 1 (the whole table and the filter are row 0); a limit.
pub data WorldText : Type 0 where
  Reads : World → WorldText
  Bad : Table → ℕ → WorldFault → WorldText
  Exceeds : Limited → WorldText

-- the keys of the whole table
abbrev pub whole_keys : List Key
whole_keys =
    key (codes "log") (Word (codes "script" ∷ codes "strace" ∷ [])) Required
    ∷ key (codes "space") Rows Optional
    ∷ key (codes "mount") Rows Optional
    ∷ key (codes "file") Rows Optional
    ∷ key (codes "process") Rows Optional
    ∷ key (codes "filter") Section Optional ∷ []

-- the form of the log
abbrev pub form_of_row : Members → LogForm
form_of_row top = if is_text (codes "strace") (get_member (codes "log") top) then Strace else Script

-- the rows at a key of the whole table
abbrev pub rows_at : List ℕ → Members → Items
rows_at key top = array_items (get_member key top)

-- the world of the whole table, or the first refusal
abbrev pub table_world : Members → Result World Refusal
table_world top =
    then_read (in_row table.Whole 0 (unless (first_standing (shape_checks whole_keys top)) top)) (λ _.
    then_read (read_rows table.Space limit.Spaces 1 space_row none_declared (rows_at (codes "space") top)) (λ declared.
    then_read (read_rows table.Mount limit.Mounts 1 (mount_row declared.names) root_alone (rows_at (codes "mount") top)) (λ mounts.
    then_read (read_rows table.File limit.Files 0 (file_row mounts) [] (rows_at (codes "file") top)) (λ files.
    then_read (read_rows table.Process limit.Processes 0 (process_row declared.names) [] (rows_at (codes "process") top)) (λ processes.
    then_read (in_row table.Filter 0 (filter_row (table_of (get_member (codes "filter") top)))) (λ filter.
    Ok (record {
      start = record { processes = processes; spaces = declared.spaces };
      names = declared.names;
      files = record { mounts = mounts; rows = files };
      filter = filter;
      form = form_of_row top;
    })))))))

-- the same of a text that is TOML, or isn't
abbrev pub document_world : Option Members → Result World Refusal
document_world None = Err (At table.Whole 0 Toml)
document_world (Some top) = table_world top

-- the world of a text, or its first refusal
abbrev pub read_text : List ℕ → Result World Refusal
read_text bytes = if is_utf8 bytes then document_world (parse_document bytes) else Err (At table.Whole 0 Toml)

-- these as what a text is
abbrev pub text_as : Result World Refusal → WorldText
text_as (Ok w) = Reads w
text_as (Err (At t row fault)) = Bad t row fault
text_as (Err (Past limit)) = Exceeds limit

-- the text of a world
abbrev pub world_text : List ℕ → WorldText
world_text bytes = text_as (read_text bytes)
