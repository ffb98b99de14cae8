-- The world of a whole table, where its tables are read one after another.
use Rattle.std.proofs.Common.{◌≡◌, ◌∙◌, List, [], Option, None, Some, Result, Ok, Err, ap}
use Rattle.std.specs.Prelude.{IfSome, codes}
use Rattle.cm_base.specs.declared.faults.Table.TheVariants as table
use Rattle.cm_base.specs.declared.limited.Limited.TheVariants as limit
use Rattle.cm_filter.specs.Filters.{Filter}
use Rattle.cm_world.specs.Tables.{table_with, world_made}
use Rattle.model_cred.specs.Files.{FileRow, FileTable, Mount}
use Rattle.model_cred.specs.Process.{Process}
use Rattle.model_cred.specs.World.{World}
use Rattle.model_text.specs.FileText.{file_row}
use Rattle.model_text.specs.FilterText.{filter_row}
use Rattle.model_text.specs.Keys.{shape_checks}
use Rattle.model_text.specs.MountText.{mount_row, root_alone}
use Rattle.model_text.specs.ProcessText.{process_row}
use Rattle.model_text.specs.Refusal.{Refusal, first_standing, in_row, read_rows, then_read}
use Rattle.model_text.specs.SpaceText.{Declared, none_declared, space_row}
use Rattle.model_text.specs.Toml.{table_of}
use Rattle.model_text.specs.WorldText.{rows_at, table_world, whole_keys}
use Rattle.toml.specs.Data.{Members, get_member}

-- the filter, which comes last
abbrev with_filter : Members → Declared → FileTable → List Process → Result World Refusal
with_filter top declared files processes =
    then_read (in_row table.Filter 0 (filter_row (table_of (get_member (codes "filter") top))))
    (λ filter. Ok (world_made top declared files processes filter))

-- the processes, and then the filter
abbrev with_processes : Members → Declared → FileTable → Result World Refusal
with_processes top declared files =
    then_read (read_rows table.Process limit.Processes 0 (process_row declared.names) []
    (rows_at (codes "process") top)) (with_filter top declared files)

-- what comes after the files is of their table
files_then : (r : Result (List FileRow) Refusal) (mounts : List Mount) (files : FileTable)
    (next : FileTable → Result World Refusal) → then_read r (table_with mounts) ≡ Ok files
    → then_read r (λ rows. next (record { mounts = mounts; rows = rows })) ≡ next files
files_then (Ok rows) mounts files next is =
    let same : record { mounts = mounts; rows = rows } ≡ files = cc in ap next same
files_then (Err refusal) mounts files next is = absurd (cc)

module _ (top : Members) (declared : Declared) (mounts : List Mount) (files : FileTable) (processes : List Process)
    (whole : None ≡ first_standing (shape_checks whole_keys top))
    (spaces : read_rows table.Space limit.Spaces 1 space_row none_declared (rows_at (codes "space") top) ≡ Ok declared)
    (mounted : read_rows table.Mount limit.Mounts 1 (mount_row declared.names) root_alone (rows_at (codes "mount") top)
    ≡ Ok mounts)
    (filed : then_read (read_rows table.File limit.Files 0 (file_row mounts) [] (rows_at (codes "file") top))
    (table_with mounts) ≡ Ok files)
    (living : read_rows table.Process limit.Processes 0 (process_row declared.names) []
    (rows_at (codes "process") top) ≡ Ok processes) where
  before_filter : table_world top ≡ with_filter top declared files processes
  before_filter =
      rw (← whole, spaces, mounted) (
      files_then (read_rows table.File limit.Files 0 (file_row mounts) [] (rows_at (codes "file") top)) mounts files
      (with_processes top declared) filed
      ∙ ap (λ r. then_read r (with_filter top declared files)) living)

  -- the world
  pub world_read : (filter : Filter)
      → in_row table.Filter 0 (filter_row (table_of (get_member (codes "filter") top))) ≡ Ok filter
      → table_world top ≡ Ok (world_made top declared files processes filter)
  world_read filter is =
      before_filter ∙ ap (λ r. then_read r (λ f. Ok (world_made top declared files processes f))) is

  -- or the refusal of the filter
  pub filter_refused : (o : Option Refusal)
      → IfSome o (λ refusal. in_row table.Filter 0 (filter_row (table_of (get_member (codes "filter") top)))
      ≡ Err refusal)
      → IfSome o (λ refusal. table_world top ≡ Err refusal)
  filter_refused None is = tt
  filter_refused (Some refusal) is =
      before_filter ∙ ap (λ r. then_read r (λ f. Ok (world_made top declared files processes f))) is
