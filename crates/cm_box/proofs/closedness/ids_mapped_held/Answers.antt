use Rattle.std.proofs.Common.{◌∙◌, refl, sym}
use Rattle.cm_filter.specs.Filters.{permits}
use Rattle.cm_box.specs.Places.{row_of}
use Rattle.cm_box.proofs.MapRule.{none_called, none_there, comes_standing, comes_fresh, same_within}
use Rattle.cm_box_rows.proofs.AddedRows.{members_read, none_read}
use Rattle.cm_box_rows.proofs.Tests.{on, yes}
use Rattle.cm_box_rows.specs.Rows.{RowsHold}
use Rattle.cm_box.proofs.closedness.ids_mapped_held.Goals as goal

pub returns-then-not-permits : goal.returns-then-not-permits
returns-then-not-permits c =
    let out = rw c.map_call.ensures at c.if-not-permits.ensures in
    yes _ (λ x by. absurd (none_called (permits c.args.filter) c.args.spaces.now (RowsHold c.args.bounds.now) c.args.kind
    (row_of c.args.at) out x by))

pub returns-in-Standing : goal.returns-in-Standing
returns-in-Standing c =
    let can = sym (rw c.map_call.ensures at c.if-not-permits.ensures) in
    rw c.in-Standing.is (on c.ids_written_held.ensures (same_within _ _ _
    (comes_standing (permits c.args.filter) c.args.spaces.now (RowsHold c.args.bounds.now) c.args.kind c.in-Standing.n.0 can)))

pub returns-then-is_empty : goal.returns-then-is_empty
returns-then-is_empty c =
    let none = none_read _ _ (c.fresh.view_is ∙ c.row-fresh.ensures) (c.if-is_empty.ensures.yes refl) in
    rw c.in-Fresh.is (yes _ (λ x by. absurd (none_there (permits c.args.filter) c.args.spaces.now (RowsHold c.args.bounds.now)
    c.args.kind c.in-Fresh.n.0 none x by)))

pub returns-else-is_empty : goal.returns-else-is_empty
returns-else-is_empty c =
    let can = sym (rw c.map_call.ensures at c.if-not-permits.ensures) in
    let some = members_read _ _ (c.fresh.view_is ∙ c.row-fresh.ensures) (c.if-is_empty.ensures.no refl) in
    rw c.in-Fresh.is (on (rw (c.row.ensures, c.row-fresh.ensures) at c.fresh_ids_held.ensures) (same_within _ _ _
    (comes_fresh (permits c.args.filter) c.args.spaces.now (RowsHold c.args.bounds.now) c.args.kind c.in-Fresh.n.0 can some)))
