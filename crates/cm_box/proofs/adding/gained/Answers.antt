use Rattle.std.proofs.Common.{ap}
use Rattle.model_cred.specs.Process.{State}
use Rattle.model_box.specs.Row.{space_under}
use Rattle.cm_box.specs.Places.{row_of}
use Rattle.cm_box_rows.specs.declared.kind.IdKind.TheVariants.{Users}
use Rattle.cm_box_rows.specs.declared.kind.IdKind.TheVariants as kinds
use Rattle.cm_box_rows.specs.Programs.{GivenByFile}
use Rattle.cm_box_rows.specs.Rows.{RowHolds, RowsHold}
use Rattle.cm_box_rows.proofs.GainedRows.{or_more}
use Rattle.cm_box_rows.proofs.IdKinds.{spread_same}
use Rattle.cm_box.proofs.RowRules.{by_file}
use Rattle.cm_box.proofs.adding.gained.Goals as goal

pub returns-in-ExecUid : goal.returns-in-ExecUid
returns-in-ExecUid c =
    let spaces = ap (λ (s : State). s.spaces) c.st.view_is in
    let row = RowsHold c.args.bounds.now (row_of c.args.at) in
    let by = GivenByFile Users c.args.files.now c.args.st.now.spaces (space_under (row_of c.args.at)) row in
    let as_named = by_file c.args.files.now c.args.st.now.spaces (space_under (row_of c.args.at)) row Users in
    rw c.in-ExecUid.is (or_more c.exec_ids_gained.result _ _
    (rw (c.row-row.ensures, c.space-n.ensures, spaces) at c.exec_ids_gained.ensures)
    (λ r is. spread_same row Users by _ (RowHolds r) as_named is))

pub returns-in-ExecGid : goal.returns-in-ExecGid
returns-in-ExecGid c =
    let spaces = ap (λ (s : State). s.spaces) c.st.view_is in
    let row = RowsHold c.args.bounds.now (row_of c.args.at) in
    let by = GivenByFile kinds.Groups c.args.files.now c.args.st.now.spaces (space_under (row_of c.args.at)) row in
    let as_named = by_file c.args.files.now c.args.st.now.spaces (space_under (row_of c.args.at)) row kinds.Groups in
    rw c.in-ExecGid.is (or_more c.exec_ids_gained-in-ExecGid.result _ _
    (rw (c.row-row.ensures, c.space-n.ensures, spaces) at c.exec_ids_gained-in-ExecGid.ensures)
    (λ r is. spread_same row kinds.Groups by _ (RowHolds r) as_named is))

pub returns-in-ExecCaps : goal.returns-in-ExecCaps
returns-in-ExecCaps c =
    let spaces = ap (λ (s : State). s.spaces) c.st.view_is in
    rw c.in-ExecCaps.is (rw spaces at c.exec_caps_gained.ensures)
