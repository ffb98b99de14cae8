use Rattle.std.proofs.Common.{◌≡◌, [], length, take, drop}
use Rattle.std.specs.Prelude.{All, map}
use Rattle.cm_files.specs.Fault.{first_fault}
use Rattle.cm_files.specs.Index.{HasKeys, IsIndex}
use Rattle.cm_files.specs.Table.{seen_on}
use Rattle.cm_files.proofs.filling.fill.Given as goal
use Rattle.model_cred.specs.Files.{KeepsRow}

abbrev pub invariant-loop-n : goal.invariant-loop-n
invariant-loop-n l = record {
  index : IsIndex l.rows l.n l.filled.index.order.items;
  keys : HasKeys l.rows l.filled.index.order.items l.filled.index.keys.items;
  seen : l.filled.views.items ≡ map (seen_on l.mounts) (take l.n l.rows);
  keeps : All KeepsRow (take l.n l.rows);
  fine : first_fault (length l.mounts) (take l.n l.rows) (drop l.n l.rows) ≡ first_fault (length l.mounts) [] l.rows;
}
