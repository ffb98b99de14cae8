use Rattle.cm_box.proofs.closedness.join_held.Goals as goal

pub returns-in-Standing : goal.returns-in-Standing
returns-in-Standing c = rw c.in-Standing.is (rw c.row.ensures at c.joins_held.ensures)
