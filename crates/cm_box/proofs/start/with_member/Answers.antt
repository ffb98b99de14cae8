use Rattle.std.proofs.Common.{ap}
use Rattle.model_cred.specs.Process.{State}
use Rattle.cm_box_rows.specs.Rows.{RowHolds}
use Rattle.cm_state.specs.contracts.proc.Proc as proc
use Rattle.cm_box_rows.proofs.GainedRows.{or_more}
use Rattle.cm_state.proofs.Places.{process_found}
use Rattle.cm_box_rows.proofs.MemberRows.{member_joined}
use Rattle.cm_box_rows.proofs.Elsewhere.{gives_none, gives_elsewhere}
use Rattle.cm_box.proofs.start.with_member.Goals as goal

pub returns-in_ok-more-in-Some : goal.returns-in_ok-more-in-Some
returns-in_ok-more-in-Some c =
    let found = process_found c.args.st.now c.st.inside.procs c.items-procs.result.now c.in-Some.at c.args.pid
    c.index-procs-at.result
    c.items-procs.ensures (ap (λ (s : State). s.processes) c.st.view_is) c.in-Some.ensures.found.0
    c.in-Some.ensures.found.1 c.index-procs-at.is in
    or_more c.joined.result _ _ c.joined.ensures (λ both joined.
    member_joined c.args.st.now c.args.n.0 c.args.pid c.index-procs-at.result (proc.the_view c.p.inside) (RowHolds both)
    (RowHolds c.args.row)
    (RowHolds c.in_ok-more-in-Some.more) found c.p.view_is c.if-p-n.false (rw c.deref.ensures at c.in_ok-more-in-Some.ensures) joined)

pub returns-in-None : goal.returns-in-None
returns-in-None c =
    gives_none c.args.st.now c.args.n.0 c.args.pid (RowHolds c.args.row) c.st.inside.procs
    (ap (λ (s : State). s.processes) c.st.view_is) c.in-None.ensures.none

pub returns-then-p-n : goal.returns-then-p-n
returns-then-p-n c =
    let found = process_found c.args.st.now c.st.inside.procs c.items-procs.result.now c.in-Some.at c.args.pid
    c.index-procs-at.result
    c.items-procs.ensures (ap (λ (s : State). s.processes) c.st.view_is) c.in-Some.ensures.found.0
    c.in-Some.ensures.found.1 c.index-procs-at.is in
    gives_elsewhere c.args.st.now c.args.n.0 c.args.pid (RowHolds c.args.row) c.index-procs-at.result
    (proc.the_view c.p.inside) found c.p.view_is c.if-p-n.true
