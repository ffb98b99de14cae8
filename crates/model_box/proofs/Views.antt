-- Declared files as their mounts show them.
use Rattle.std.proofs.Common.{◌≡◌, ℕ, ◌≤◌, length, ap}
use Rattle.std.proofs.lemmas.Option.{slice_get_past}
use Rattle.model_cred.specs.Files.{FileTable}
use Rattle.model_rules.specs.FileView.{plain_view, view, view_in}

-- past the end of the table a row is as a plain file
pub view_past : (files : FileTable) (k : ℕ) → length files.rows ≤ k → view files k ≡ plain_view
view_past files k past = ap (view_in files) (slice_get_past files.rows k past)
