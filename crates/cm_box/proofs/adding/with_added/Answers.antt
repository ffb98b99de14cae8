use Rattle.std.proofs.Common.{◌≡◌, ◌∙◌, ap}
use Rattle.cm_filter.specs.Filters.{permits}
use Rattle.model_box.specs.Bounds.{row_in}
use Rattle.model_box.specs.Closed.{Adds}
use Rattle.model_box.specs.Row.{Row, row_at, row_number}
use Rattle.model_box.proofs.Starts.{number_back}
use Rattle.cm_box_rows.proofs.GainedRows.{or_more}
use Rattle.cm_box_rows.specs.Rows.{RowsHold}
use Rattle.cm_box.specs.Rules.{rule_of}
use Rattle.cm_box.proofs.Rewriting.{added_to}
use Rattle.cm_box.proofs.adding.with_added.Goals as goal

pub returns : goal.returns
returns c =
    let row_is : c.row.result.now ≡ row_in c.args.bounds.now c.args.row =
    c.row.ensures ∙ ap (λ (r : Row). row_in c.args.bounds.now (row_number r)) c.of_number-at.ensures
    ∙ ap (row_in c.args.bounds.now) (number_back c.args.row) in
    or_more c.joined.result _ _ (rw row_is at c.joined.ensures) (λ wider joined.
    added_to c.args.bounds.now c.args.row c.in_ok-more.more wider
    (Adds (permits c.args.setting.now.filter) c.args.setting.now.files.now c.args.setting.now.state.now.spaces (RowsHold c.args.bounds.now)
    (rule_of c.args.rule) (row_at c.args.row)) (rw c.of_number-at.ensures at c.in_ok-more.ensures) joined)
