use Rattle.std.proofs.Common.{◌≡◌, ◌+◌, ◌≤◌, [], None, drop, length}
use Rattle.cm_base.specs.declared.faults.Table.TheVariants as table
use Rattle.cm_files.specs.Fault.{first_fault}
use Rattle.model_text.specs.FileText.{file_row}
use Rattle.model_text.specs.Refusal.{rows_from}
use Rattle.toml.specs.View.{items_view}
use Rattle.cm_world.proofs.files.files_of_rows.Given as goal

abbrev pub invariant-loop-i : goal.invariant-loop-i
invariant-loop-i l = record {
  few : length l.files ≤ l.i;
  fine : first_fault (length l.mounts) [] l.files ≡ None;
  rest : rows_from table.File (file_row l.mounts) (l.i + 1) l.files (items_view (drop l.i l.rows))
      ≡ rows_from table.File (file_row l.mounts) 1 [] (items_view l.rows);
}
