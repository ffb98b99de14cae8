use Rattle.std.proofs.Common.{sym, ap, ◌∙◌}
use Rattle.cm_plans.proofs.lasts.holds_raised.Goals as goal
use Rattle.cm_plans.specs.Moves.{setting}
use Rattle.model_plans.specs.Walk.{seat_holds}

pub returns-then-is_barred-clause-held : goal.returns-then-is_barred-clause-held
returns-then-is_barred-clause-held c =
    c.holds.ensures ∙ ap (seat_holds (setting c.args.q.now)) (sym (c.is_barred.ensures c.if-is_barred.true))

pub returns-clause-same : goal.returns-clause-same
returns-clause-same c = c.restore.ensures c.args.seat.now c.saved-old.ensures c.make.ensures.groups
