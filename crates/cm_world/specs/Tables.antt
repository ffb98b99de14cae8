-- The table of declared mounts and files, as the reader of files gives it, and the world of all that is read.
use Rattle.std.specs.Prelude.{List, Result, Ok}
use Rattle.cm_filter.specs.Filters.{Filter}
use Rattle.model_cred.specs.Files.{FileRow, FileTable, Mount}
use Rattle.model_cred.specs.Process.{Process}
use Rattle.model_cred.specs.World.{World}
use Rattle.model_text.specs.Refusal.{Refusal}
use Rattle.model_text.specs.SpaceText.{Declared}
use Rattle.model_text.specs.WorldText.{form_of_row}
use Rattle.toml.specs.Data.{Members}

-- the table of these mounts and files
abbrev pub table_with : List Mount → List FileRow → Result FileTable Refusal
table_with mounts files = Ok (record { mounts = mounts; rows = files })

-- the world of these parts
abbrev pub world_made : Members → Declared → FileTable → List Process → Filter → World
world_made top declared files processes filter = record {
  start = record { processes = processes; spaces = declared.spaces };
  names = declared.names;
  files = files;
  filter = filter;
  form = form_of_row top;
}
