use Rattle.std.proofs.Common.{◌≡◌, sym, ap, ◌∙◌}
use Rattle.cm_plans.proofs.lasts.ends.Goals as goal
use Rattle.cm_plans.specs.Moves.{setting, move_of}
use Rattle.model_plans.specs.Move.{Seat, Raise}
use Rattle.model_plans.specs.Walk.{after, seat_holds}

pub returns-then-not-make-clause-held : goal.returns-then-not-make-clause-held
returns-then-not-make-clause-held c =
    let q = setting c.args.q.now in
    let stays : after q c.args.seat.now (move_of c.args.last) ≡ c.args.seat.now
    = sym c.make.ensures.seat ∙ c.make.ensures.unchanged c.if-not-make.true in
    sym (ap (λ (seat : Seat). seat_holds q (after q seat Raise)) stays ∙ c.requires.none)

pub returns-then-is_barred-clause-held : goal.returns-then-is_barred-clause-held
returns-then-is_barred-clause-held c =
    let q = setting c.args.q.now in
    sym (ap (λ (seat : Seat). seat_holds q (after q seat Raise)) (c.is_barred.ensures c.if-is_barred.true) ∙ c.requires.none)

pub returns-clause-same : goal.returns-clause-same
returns-clause-same c =
    c.restore.ensures c.args.seat.now c.saved-old.ensures (c.make-2.ensures.groups ∙ c.make.ensures.groups)
