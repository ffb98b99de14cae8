-- What a table of declared mounts and files keeps.
use Rattle.std.specs.Prelude.{◌≡◌, ◌≢◌, ◌<◌, ◌^◌, ℕ, length, slice_get, List, map}
use Rattle.std.specs.List.{AllPairs}
use Rattle.model_cred.specs.Files.{FileRow, FileTable, KeepsFiles, Mount}
use Rattle.model_rules.specs.FileView.{FileView, view_if}
use Rattle.cm_files.specs.Index.{HasKeys, IsIndex}

-- no two rows have one path
abbrev pub PathsDiffer : List FileRow → Type 0
PathsDiffer rows = AllPairs (λ row other. row.path ≢ other.path) rows

-- a row as its mount, one of these, shows it
abbrev pub seen_on : List Mount → FileRow → FileView
seen_on mounts row = view_if (slice_get mounts row.mount) row

-- The mounts and files keep what they should, the files are fewer than 2^32, their paths differ, the list of numbers is
-- the index of the rows, each with its path's key, and the views are those of the rows.
pub record KeepsTable (files : FileTable) (order keys : List ℕ) (views : List FileView) : Type 0 where
  pub keeps : KeepsFiles files
  pub few : length files.rows < 2 ^ 32
  pub paths_differ : PathsDiffer files.rows
  pub index : IsIndex files.rows (length files.rows) order
  pub keyed : HasKeys files.rows order keys
  pub seen : views ≡ map (seen_on files.mounts) files.rows
