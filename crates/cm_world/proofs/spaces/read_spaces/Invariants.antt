use Rattle.std.proofs.Common.{◌≡◌, ◌+◌, ◌≤◌, drop, length}
use Rattle.cm_base.specs.declared.faults.Table.TheVariants as table
use Rattle.model_text.specs.Refusal.{rows_from}
use Rattle.model_text.specs.SpaceText.{none_declared, space_row}
use Rattle.toml.specs.View.{items_view}
use Rattle.cm_world.proofs.spaces.read_spaces.Given as goal

abbrev pub invariant-loop-i : goal.invariant-loop-i
invariant-loop-i l = record {
  few : length l.declared.names ≤ l.i;
  rest : rows_from table.Space space_row (l.i + 1) l.declared (items_view (drop l.i l.rows))
      ≡ rows_from table.Space space_row 1 none_declared (items_view l.rows);
}
