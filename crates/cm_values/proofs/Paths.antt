-- Which of the rows of files has a path.
use Rattle.std.proofs.Common.{◌≡◌, ℕ, List, is_some, sym}
use Rattle.std.specs.Prelude.{bytes_eq}
use Rattle.cm_files.specs.Fault.{has_path}
use Rattle.cm_declared.proofs.FirstPlaces.{any_placed}
use Rattle.model_cred.specs.Files.{FileRow, row_named}

-- one of the rows has the path exactly where there is a first one that has it
pub path_named : (rows : List FileRow) (path : List ℕ) → is_some (row_named rows path) ≡ has_path path rows
path_named rows path = sym (any_placed (λ (row : FileRow). bytes_eq row.path path) rows)
