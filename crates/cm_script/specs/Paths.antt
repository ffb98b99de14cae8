-- The path of a file.
use Rattle.std.specs.Prelude.{ℕ, List, Option, None, option_map, slice_get}
use Rattle.cm_base.specs.declared.res.FileRef.{FileRef}
use Rattle.cm_base.specs.declared.res.FileRef.TheVariants.{Row, Plain}
use Rattle.model_cred.specs.Files.{FileRow}

-- the path of the file, where it is one of the rows
abbrev pub declared_path : List FileRow → FileRef → Option (List ℕ)
declared_path rows Plain = None
declared_path rows (Row n) = option_map (λ row. row.path) (slice_get rows n)
