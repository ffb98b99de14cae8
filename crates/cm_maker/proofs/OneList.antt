-- Both ways to find the least bounds give one list.
use Rattle.cm_maker.specs.Bodies.{BothGiveOneList}
use Rattle.model_verdict.specs.Rows.{LeastRowsAreOne}
use Rattle.model_verdict.proofs.RowMeanings.{least_rows_are_one}

pub both_give_one_list : BothGiveOneList
unfolding BothGiveOneList LeastRowsAreOne
both_give_one_list permitted files s members one other is are =
    least_rows_are_one permitted files s members one other is.least are.least
    (record { count = is.count; written = is.written }) (record { count = are.count; written = are.written })
