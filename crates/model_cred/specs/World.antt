-- The world: what is declared before a log begins.
use Rattle.std.specs.Prelude.{ℕ, ◌<◌, length, List, All}
use Rattle.cm_filter.specs.Filters.{Filter}
use Rattle.model_cred.specs.Files.{FileTable, KeepsFiles}
use Rattle.model_cred.specs.Process.{State, KeepsState}

-- The form of the log (choice).
pub data LogForm : Type 0 where
  Script : LogForm
  Strace : LogForm

-- The state at the log's beginning, the names of the declared spaces (of space 1, of space 2, and so on), the mounts
-- and files, the filter that binds what comes after the log, and the form of the log. Names and paths are lists of
-- bytes.
pub record World : Type 0 where
  pub start : State
  pub names : List (List ℕ)
  pub files : FileTable
  pub filter : Filter
  pub form : LogForm

-- What every world keeps: its state has what a state keeps, its files what files keep, and the space of each mount
-- stands (spaces never go, so it stands after each step too).
pub record KeepsWorld (w : World) : Type 0 where
  pub start : KeepsState w.start
  pub files : KeepsFiles w.files
  pub mounts : All (λ m. m.space < length w.start.spaces) w.files.mounts
