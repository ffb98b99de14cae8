use Rattle.cm_filter.specs.Filters.{permits}
use Rattle.model_box.specs.Closed.{Adds}
use Rattle.model_box.specs.Row.{row_at}
use Rattle.cm_box_rows.specs.Rows.{RowsHold}
use Rattle.cm_box.specs.Rules.{rule_of}
use Rattle.cm_box.proofs.Rewriting.{widened_at}
use Rattle.cm_box.proofs.adding.rule.Goals as goal

pub returns-clause-joined : goal.returns-clause-joined
returns-clause-joined c =
    rw c.put.ensures (widened_at c.args.bounds.now c.in_ok-new.new c.args.row c.in_ok-wider.wider
    (Adds (permits c.args.setting.now.filter) c.args.setting.now.files.now c.args.setting.now.state.now.spaces (RowsHold c.args.bounds.now)
    (rule_of c.args.rule) (row_at c.args.row)) c.in_ok-new.ensures.same
    (rw c.in_ok-new.ensures.count c.requires.there) c.in_ok-wider.ensures)
