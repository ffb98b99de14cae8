use Rattle.std.proofs.Common.{take}
use Rattle.cm_box.proofs.start.start_row.Given as goal
use Rattle.cm_box_rows.specs.Rows.{RowHolds, AreSameRows}
use Rattle.model_box.specs.Row.{Standing}
use Rattle.model_box.specs.Start.{StartHas}

abbrev pub invariant-loop-pid : goal.invariant-loop-pid
invariant-loop-pid l = AreSameRows (RowHolds l.row) (StartHas l.st (take l.pid-index l.members) (Standing l.n.0))
