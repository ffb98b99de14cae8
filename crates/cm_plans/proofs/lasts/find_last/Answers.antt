use Rattle.std.proofs.Common.{◌∙◌, sym, ap, ◌≡◌, true, false}
use Rattle.cm_plans.proofs.Finding.{at_first, at_second, at_third, nothing_last, at_fourth, past_fourth}
use Rattle.cm_plans.proofs.Taking.{take_ends, take_fails}
use Rattle.cm_plans.proofs.lasts.find_last.Goals as goal
use Rattle.cm_plans.specs.Moves.{setting}
use Rattle.cm_state.specs.Right.{right_of}
use Rattle.cm_state.specs.declared.right.Right.{Right}
use Rattle.model_plans.specs.Plan.{group_choices}

pub returns-then-holds_raised-clause-found : goal.returns-then-holds_raised-clause-found
returns-then-holds_raised-clause-found c =
    sym (at_first (setting c.args.q.now) c.args.seat.now (sym c.holds_raised.ensures.held ∙ c.if-holds_raised.true))

pub returns-then-ends-clause-found : goal.returns-then-ends-clause-found
returns-then-ends-clause-found c =
    let two = rw c.holds_raised.ensures.same at c.ends.ensures.held in
    sym (at_second (setting c.args.q.now) c.args.seat.now (sym c.holds_raised.ensures.held ∙ c.if-holds_raised.false) (sym two ∙ c.if-ends.true))

pub returns-then-ends-2-clause-found : goal.returns-then-ends-2-clause-found
returns-then-ends-2-clause-found c =
    let two = rw c.holds_raised.ensures.same at c.ends.ensures.held in
    let three = rw (c.ends.ensures.same ∙ c.holds_raised.ensures.same) at c.ends-2.ensures.held in
    sym (at_third (setting c.args.q.now) c.args.seat.now (sym c.holds_raised.ensures.held ∙ c.if-holds_raised.false) (sym two ∙ c.if-ends.false)
    (sym three ∙ c.if-ends-2.true))

pub returns-then-ends-3-clause-found : goal.returns-then-ends-3-clause-found
returns-then-ends-3-clause-found c =
    let two = rw c.holds_raised.ensures.same at c.ends.ensures.held in
    let three = rw (c.ends.ensures.same ∙ c.holds_raised.ensures.same) at c.ends-2.ensures.held in
    let same : c.ends-2.new.seat ≡ c.args.seat.now = c.ends-2.ensures.same ∙ c.ends.ensures.same ∙ c.holds_raised.ensures.same in
    let four = rw same at c.ends-in-Gid.ensures.held in
    let none = sym c.holds_raised.ensures.held ∙ c.if-holds_raised.false in
    let choices = ap (λ (r : Right). group_choices (right_of r)) c.in-Gid.is in
    sym (at_fourth (setting c.args.q.now) c.args.seat.now choices none (sym two ∙ c.if-ends.false) (sym three ∙ c.if-ends-2.false)
    (sym four ∙ c.if-ends-3.true))

pub returns-then-takes_group-clause-found : goal.returns-then-takes_group-clause-found
returns-then-takes_group-clause-found c =
    let two = rw c.holds_raised.ensures.same at c.ends.ensures.held in
    let three = rw (c.ends.ensures.same ∙ c.holds_raised.ensures.same) at c.ends-2.ensures.held in
    let same : c.ends-2.new.seat ≡ c.args.seat.now = c.ends-2.ensures.same ∙ c.ends.ensures.same ∙ c.holds_raised.ensures.same in
    let four = rw same at c.ends-in-Gid.ensures.held in
    let none = sym c.holds_raised.ensures.held ∙ c.if-holds_raised.false in
    let choices = ap (λ (r : Right). group_choices (right_of r)) c.in-Gid.is in
    let there = c.ends-in-Gid.ensures.same ∙ same in
    let can = rw there at c.takes_group.ensures in
    sym (past_fourth (setting c.args.q.now) c.args.seat.now choices none (sym two ∙ c.if-ends.false) (sym three ∙ c.if-ends-2.false)
    (sym four ∙ c.if-ends-3.false) true
    (take_ends (setting c.args.q.now) c.args.seat.now c.in-Gid.id (ap right_of c.in-Gid.is) (sym can ∙ c.if-takes_group.true)))

pub returns-else-takes_group-clause-found : goal.returns-else-takes_group-clause-found
returns-else-takes_group-clause-found c =
    let two = rw c.holds_raised.ensures.same at c.ends.ensures.held in
    let three = rw (c.ends.ensures.same ∙ c.holds_raised.ensures.same) at c.ends-2.ensures.held in
    let same : c.ends-2.new.seat ≡ c.args.seat.now = c.ends-2.ensures.same ∙ c.ends.ensures.same ∙ c.holds_raised.ensures.same in
    let four = rw same at c.ends-in-Gid.ensures.held in
    let none = sym c.holds_raised.ensures.held ∙ c.if-holds_raised.false in
    let choices = ap (λ (r : Right). group_choices (right_of r)) c.in-Gid.is in
    let there = c.ends-in-Gid.ensures.same ∙ same in
    let can = rw there at c.takes_group.ensures in
    sym (past_fourth (setting c.args.q.now) c.args.seat.now choices none (sym two ∙ c.if-ends.false) (sym three ∙ c.if-ends-2.false)
    (sym four ∙ c.if-ends-3.false) false
    (take_fails (setting c.args.q.now) c.args.seat.now c.in-Gid.id (ap right_of c.in-Gid.is) (sym can ∙ c.if-takes_group.false) none))

pub returns-in-Uid-clause-found : goal.returns-in-Uid-clause-found
returns-in-Uid-clause-found c =
    let two = rw c.holds_raised.ensures.same at c.ends.ensures.held in
    let three = rw (c.ends.ensures.same ∙ c.holds_raised.ensures.same) at c.ends-2.ensures.held in
    sym (nothing_last (setting c.args.q.now) c.args.seat.now (ap (λ (r : Right). group_choices (right_of r)) c.in-Uid.is)
    (sym c.holds_raised.ensures.held ∙ c.if-holds_raised.false) (sym two ∙ c.if-ends.false) (sym three ∙ c.if-ends-2.false))

pub returns-in-Cap-clause-found : goal.returns-in-Cap-clause-found
returns-in-Cap-clause-found c =
    let two = rw c.holds_raised.ensures.same at c.ends.ensures.held in
    let three = rw (c.ends.ensures.same ∙ c.holds_raised.ensures.same) at c.ends-2.ensures.held in
    sym (nothing_last (setting c.args.q.now) c.args.seat.now (ap (λ (r : Right). group_choices (right_of r)) c.in-Cap.is)
    (sym c.holds_raised.ensures.held ∙ c.if-holds_raised.false) (sym two ∙ c.if-ends.false) (sym three ∙ c.if-ends-2.false))
