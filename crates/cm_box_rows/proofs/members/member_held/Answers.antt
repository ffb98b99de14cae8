use Rattle.std.proofs.Common.{ap}
use Rattle.model_cred.specs.Process.{State}
use Rattle.cm_box_rows.specs.Rows.{RowHolds}
use Rattle.cm_state.specs.contracts.proc.Proc as proc
use Rattle.cm_state.proofs.Places.{process_found}
use Rattle.cm_box_rows.proofs.MemberRows.{member_told}
use Rattle.cm_box_rows.proofs.Elsewhere.{held_none, held_elsewhere}
use Rattle.cm_box_rows.proofs.members.member_held.Goals as goal

pub returns-else-p-n : goal.returns-else-p-n
returns-else-p-n c =
    let found = process_found c.args.st.now c.st.inside.procs c.items-procs.result.now c.in-Some.at c.args.pid
    c.index-procs-at.result
    c.items-procs.ensures (ap (λ (s : State). s.processes) c.st.view_is) c.in-Some.ensures.found.0
    c.in-Some.ensures.found.1 c.index-procs-at.is in
    member_told c.args.st.now c.args.n.0 c.args.pid (RowHolds c.args.row.now) c.index-procs-at.result
    (proc.the_view c.p.inside) c.cred_held.result
    found c.p.view_is c.if-p-n.false (rw c.deref.ensures at c.cred_held.ensures)

pub returns-in-None : goal.returns-in-None
returns-in-None c =
    held_none c.args.st.now c.args.n.0 c.args.pid (RowHolds c.args.row.now) c.st.inside.procs
    (ap (λ (s : State). s.processes) c.st.view_is) c.in-None.ensures.none

pub returns-then-p-n : goal.returns-then-p-n
returns-then-p-n c =
    let found = process_found c.args.st.now c.st.inside.procs c.items-procs.result.now c.in-Some.at c.args.pid
    c.index-procs-at.result
    c.items-procs.ensures (ap (λ (s : State). s.processes) c.st.view_is) c.in-Some.ensures.found.0
    c.in-Some.ensures.found.1 c.index-procs-at.is in
    held_elsewhere c.args.st.now c.args.n.0 c.args.pid (RowHolds c.args.row.now) c.index-procs-at.result
    (proc.the_view c.p.inside) found c.p.view_is c.if-p-n.true
