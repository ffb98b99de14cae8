use Rattle.std.proofs.Common.{ap}
use Rattle.model_cred.specs.Process.{State}
use Rattle.model_box.specs.Closed.{CapByFile, CapByRoot}
use Rattle.model_box.specs.Row.{space_under}
use Rattle.cm_box.specs.Places.{row_of}
use Rattle.cm_box_rows.specs.declared.kind.IdKind.TheVariants.{Users}
use Rattle.cm_box_rows.specs.declared.kind.IdKind.TheVariants as kinds
use Rattle.cm_box_rows.specs.Rows.{RowsHold}
use Rattle.cm_box.proofs.RowRules.{only_caps_held, by_file_told}
use Rattle.cm_box.proofs.closedness.gains_held.Goals as goal

pub returns-in-ExecUid : goal.returns-in-ExecUid
returns-in-ExecUid c =
    let spaces = ap (λ (s : State). s.spaces) c.st.view_is in
    rw c.in-ExecUid.is (by_file_told c.args.files.now c.args.st.now.spaces (space_under (row_of c.args.at))
    (RowsHold c.args.bounds.now (row_of c.args.at)) Users c.exec_ids_held.result
    (rw (c.row-row.ensures, c.space-in-ExecUid.ensures, spaces) at c.exec_ids_held.ensures))

pub returns-in-ExecGid : goal.returns-in-ExecGid
returns-in-ExecGid c =
    let spaces = ap (λ (s : State). s.spaces) c.st.view_is in
    rw c.in-ExecGid.is (by_file_told c.args.files.now c.args.st.now.spaces (space_under (row_of c.args.at))
    (RowsHold c.args.bounds.now (row_of c.args.at)) kinds.Groups c.exec_ids_held-in-ExecGid.result
    (rw (c.row-row.ensures, c.space-in-ExecGid.ensures, spaces) at c.exec_ids_held-in-ExecGid.ensures))

pub returns-in-ExecCaps : goal.returns-in-ExecCaps
returns-in-ExecCaps c =
    let spaces = ap (λ (s : State). s.spaces) c.st.view_is in
    rw c.in-ExecCaps.is (only_caps_held (RowsHold c.args.bounds.now (row_of c.args.at))
    (CapByFile c.args.files.now c.args.st.now.spaces (RowsHold c.args.bounds.now) (row_of c.args.at)) c.caps_by_files_held.result
    (rw spaces at c.caps_by_files_held.ensures))

pub returns-in-ExecRoot : goal.returns-in-ExecRoot
returns-in-ExecRoot c =
    let spaces = ap (λ (s : State). s.spaces) c.st.view_is in
    rw c.in-ExecRoot.is (only_caps_held (RowsHold c.args.bounds.now (row_of c.args.at))
    (CapByRoot c.args.st.now.spaces (RowsHold c.args.bounds.now) (row_of c.args.at)) c.caps_by_root_held.result
    (rw spaces at c.caps_by_root_held.ensures))
