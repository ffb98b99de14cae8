use Rattle.cm_box_rows.specs.Rows.{RowHolds, AreSameRows, InEitherRow}
use Rattle.cm_box_rows.specs.Spread.{JoinedBy}
use Rattle.model_box.specs.Bounds.{BoxRow}
use Rattle.cm_box_rows.proofs.Elsewhere.{nothing_more}
use Rattle.cm_box_rows.proofs.Spreading.{joined_more, granted, refused, of_value}
use Rattle.cm_box.proofs.joins.with_joined.Goals as goal

pub returns-then-not-can_join_by : goal.returns-then-not-can_join_by
returns-then-not-can_join_by c =
    nothing_more (RowHolds c.args.row) (JoinedBy (RowHolds c.args.parent.now) c.args.child.now)
    (λ part x comes. refused _ c.if-not-can_join_by.ensures comes.0)

pub returns : goal.returns
returns c =
    of_value c.joined.result (λ (r : BoxRow). AreSameRows (RowHolds r) (InEitherRow (RowHolds c.args.row) (RowHolds c.in_ok-more.more)))
    (λ (r : BoxRow). AreSameRows (RowHolds r) (InEitherRow (RowHolds c.args.row) (JoinedBy (RowHolds c.args.parent.now) c.args.child.now)))
    (λ r same. joined_more (RowHolds c.args.parent.now) c.args.child.now (RowHolds c.args.row) (RowHolds c.in_ok-more.more) (RowHolds r)
    (granted _ c.if-not-can_join_by.ensures) c.in_ok-more.ensures same)
    c.joined.ensures
