use Rattle.std.proofs.Common.{◌≡◌, ◌+◌, ◌≤◌, drop, length}
use Rattle.cm_base.specs.declared.faults.Table.TheVariants as table
use Rattle.model_text.specs.MountText.{mount_row, root_alone}
use Rattle.model_text.specs.Refusal.{rows_from}
use Rattle.toml.specs.View.{items_view}
use Rattle.cm_world.proofs.mounts.read_mounts.Given as goal

abbrev pub invariant-loop-i : goal.invariant-loop-i
invariant-loop-i l = record {
  few : length l.mounts ≤ l.i + 1;
  rest : rows_from table.Mount (mount_row l.names) (l.i + 1) l.mounts (items_view (drop l.i l.rows))
      ≡ rows_from table.Mount (mount_row l.names) 1 root_alone (items_view l.rows);
}
