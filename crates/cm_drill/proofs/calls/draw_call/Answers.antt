-- Each arm makes the call of its row, by the draws that it takes.
use Rattle.std.proofs.Common.{◌≡◌, arith}
use Rattle.cm_drill.proofs.calls.draw_call.Goals as goal
use Rattle.model_drill.specs.Rows.{table}

pub returns-in-0 : goal.returns-in-0
unfolding table
returns-in-0 c = record {
  call = rw c.in-0.is (cc (c.id-r.ensures.value, c.id-e.ensures.value, c.id-s.ensures.value, c.id-r.ensures.next, c.id-e.ensures.next));
  number = rw c.in-0.is (cc (c.id-r.ensures.next, c.id-e.ensures.next, c.id-s.ensures.next));
}

pub returns-in-1 : goal.returns-in-1
unfolding table
returns-in-1 c = record {
  call = rw c.in-1.is (cc (c.id-r-in-1.ensures.value, c.id-e-in-1.ensures.value, c.id-r-in-1.ensures.next));
  number = rw c.in-1.is (cc (c.id-r-in-1.ensures.next, c.id-e-in-1.ensures.next));
}

pub returns-in-2 : goal.returns-in-2
unfolding table
returns-in-2 c = record { call = rw c.in-2.is (cc c.id.ensures.value); number = rw c.in-2.is (cc c.id.ensures.next) }

pub returns-in-3 : goal.returns-in-3
unfolding table
returns-in-3 c = record { call = rw c.in-3.is (cc c.id-in-3.ensures.value); number = rw c.in-3.is (cc c.id-in-3.ensures.next) }

pub returns-in-4 : goal.returns-in-4
unfolding table
returns-in-4 c = record {
  call = rw c.in-4.is (cc (c.id-r-in-4.ensures.value, c.id-e-in-4.ensures.value, c.id-s-in-4.ensures.value, c.id-r-in-4.ensures.next, c.id-e-in-4.ensures.next));
  number = rw c.in-4.is (cc (c.id-r-in-4.ensures.next, c.id-e-in-4.ensures.next, c.id-s-in-4.ensures.next));
}

pub returns-in_ok-groups_of-in-5 : goal.returns-in_ok-groups_of-in-5
unfolding table
returns-in_ok-groups_of-in-5 c = record {
  call = rw c.in-5.is (cc (c.draw-draw.ensures.value, c.in_ok-groups_of-in-5.ensures));
  number = rw c.in-5.is (cc c.draw-draw.ensures.next);
}

pub returns-in-6 : goal.returns-in-6
unfolding table
returns-in-6 c = record { call = rw (c.in-6.is, ← c.p.view_is) (rw c.deref.ensures at c.raise_all.ensures); number = rw c.in-6.is }

pub returns-in-7 : goal.returns-in-7
unfolding table
returns-in-7 c = record { call = rw c.in-7.is (cc c.draw.ensures.value); number = rw c.in-7.is (cc c.draw.ensures.next) }

pub returns-in-8 : goal.returns-in-8
unfolding table
returns-in-8 c = record { call = rw c.in-8.is (cc c.draw-in-8.ensures.value); number = rw c.in-8.is (cc c.draw-in-8.ensures.next) }

pub returns-in-9 : goal.returns-in-9
unfolding table
returns-in-9 c = record { call = rw c.in-9.is (cc c.draw-in-9.ensures.value); number = rw c.in-9.is (cc c.draw-in-9.ensures.next) }

pub returns-in-10 : goal.returns-in-10
unfolding table
returns-in-10 c = record { call = rw c.in-10.is (cc c.draw-in-10.ensures.value); number = rw c.in-10.is (cc c.draw-in-10.ensures.next) }

pub returns-in-11 : goal.returns-in-11
unfolding table
returns-in-11 c = record { call = rw c.in-11.is c.fork_or_exit.ensures; number = rw c.in-11.is }

pub returns-in-12 : goal.returns-in-12
unfolding table
returns-in-12 c = record { call = rw c.in-12.is c.unshare_or_bar.ensures; number = rw c.in-12.is }

pub returns-in_ok-list-in-13 : goal.returns-in_ok-list-in-13
unfolding table
returns-in_ok-list-in-13 c = record { call = rw (c.in-13.is, ← c.p.view_is) (cc c.in_ok-list-in-13.ensures); number = rw c.in-13.is }

pub returns-in-14 : goal.returns-in-14
unfolding table
returns-in-14 c = record { call = rw c.in-14.is; number = rw c.in-14.is }

pub returns-in_default : goal.returns-in_default
unfolding table
returns-in_default c = let last : c.args.row ≡ 15 = omega arith in record { call = rw last c.exit_or_run.ensures; number = rw last }
