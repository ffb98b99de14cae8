use Rattle.std.proofs.Common.{◌≡◌, ap, arith, length}
use Rattle.std.proofs.lemmas.List.{length_push}
use Rattle.model_cred.specs.Process.{State}
use Rattle.model_box.specs.Start.{StartHas}
use Rattle.cm_box_rows.specs.Rows.{RowsHold}
use Rattle.cm_box.proofs.Starting.{two_more, start_holds, is_least, standing}
use Rattle.cm_box.proofs.start.start_bounds.Goals as goal

pub loop-n-preserved : goal.loop-n-preserved
loop-n-preserved c = record {
  count = omega (
    arith,
    ap length c.in_ok-push.ensures.items,
    length_push c.loop-n.list.items c.in_ok-row.row,
    ap length c.in_ok-push-2.ensures.items,
    length_push c.push.new.self.items c.least.result,
    c.loop-n.invariant.count,
  );
  holds = rw (c.in_ok-push-2.ensures.items, c.in_ok-push.ensures.items)
      (two_more c.loop-n.list.items c.in_ok-row.row c.least.result (StartHas c.args.st.now c.args.members.now)
      c.loop-n.n
      c.loop-n.invariant.count c.least.ensures c.loop-n.invariant.holds c.in_ok-row.ensures (λ part x wrong. wrong));
}

pub returns-clause-holds : goal.returns-clause-holds
returns-clause-holds c =
    let stand = standing c.st.view_is c.st.invariant.1 in
    let same : length c.st.inside.spaces ≡ length c.args.st.now.spaces = ap (λ (s : State). length s.spaces)
    c.st.view_is in
    let all : c.loop-n.n ≡ length c.args.st.now.spaces = omega (arith, c.count-n-end.ensures, c.loop-n.auto.n-end) in
    rw c.from_vec.ensures
    (start_holds c.args.st.now c.args.members.now c.loop-n.list.items stand (omega (arith, c.loop-n.invariant.count))
    (λ row low. c.loop-n.invariant.holds row (omega arith)))

pub returns-clause-least : goal.returns-clause-least
returns-clause-least c =
    is_least c.args.st.now c.args.members.now (RowsHold c.from_vec.result) (returns-clause-holds c)
    (standing c.st.view_is c.st.invariant.1)
