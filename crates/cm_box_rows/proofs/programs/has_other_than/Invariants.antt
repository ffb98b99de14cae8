use Rattle.cm_box_rows.proofs.OtherIds.{OtherInRest}
use Rattle.cm_box_rows.proofs.programs.has_other_than.Given as goal

abbrev pub invariant-loop-ids : goal.invariant-loop-ids
invariant-loop-ids l = OtherInRest l.list l.ids-index l.id
