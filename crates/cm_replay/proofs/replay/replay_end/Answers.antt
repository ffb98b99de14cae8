use Rattle.std.proofs.Common.{◌≡◌, ◌≤◌, ◌∙◌, ◌+◌, List, None, ap, arith, length, subst, sym}
use Rattle.std.proofs.lemmas.Result.{err_from_is_err_and}
use Rattle.cm_declared.specs.World.{world_of}
use Rattle.cm_lines.specs.Cut.{ends_by}
use Rattle.cm_log.specs.Counts.{events_due}
use Rattle.cm_log.specs.Left.{left, told_of, told_then}
use Rattle.cm_replay.proofs.Standing.{none_sent}
use Rattle.cm_replay.proofs.replay.replay_end.Goals as goal
use Rattle.cm_replay.specs.Following.{EndsAs, IsCutOff, Outgoing}
use Rattle.model_text.specs.Reading.{Placed, Reading}

pub follow-requires-clause-events : goal.follow-requires-clause-events
follow-requires-clause-events g c =
    let few : length (told_of c.end.new.self) + events_due c.end.new.self ≤ events_due c.args.log.now + 0 =
    c.in_ok-stage.ensures.counts.due in
    let told : length c.events-told.result.now
    ≡ length (told_of c.end.new.self) = ap (λ (es : List Placed). length es) c.events-told.ensures in
    omega (arith, few, told, c.requires.events)

pub returns-clause-told : goal.returns-clause-told
returns-clause-told g c =
    let w = world_of c.args.w.now in
    let later = left w c.end.new.self (ends_by None) in
    let old : Outgoing = record { written = g.K.Sink.written c.args.out.now; waits = c.args.text.now.items } in
    let new : Outgoing = record { written = g.K.Sink.written c.follow.new.out; waits = c.follow.new.text.items } in
    let is = c.in_ok-stage.ensures.told (ends_by None)
    ∙ ap (λ (es : List Placed). told_then es c.in_ok-stage.stage later) (sym c.events-told.ensures) in
    let follows = rw c.in-Ends.is at c.in_ok-status.ensures.follows in
    subst (λ (r : Reading). EndsAs w c.args.replay.now c.follow.new.replay old new c.in-Ends.status r) (sym is)
    (follows later)

pub returns-in_err-status-clause-told : goal.returns-in_err-status-clause-told
returns-in_err-status-clause-told g c =
    let w = world_of c.args.w.now in
    let p = err_from_is_err_and c.from_residual-in_err-status.result c.from_residual-in_err-status.ensures.1 in
    let later = left w c.end.new.self (ends_by None) in
    let old : Outgoing = record { written = g.K.Sink.written c.args.out.now; waits = c.args.text.now.items } in
    let new : Outgoing = record { written = g.K.Sink.written c.follow.new.out; waits = c.follow.new.text.items } in
    let is = c.in_ok-stage.ensures.told (ends_by None)
    ∙ ap (λ (es : List Placed). told_then es c.in_ok-stage.stage later) (sym c.events-told.ensures) in
    rw p.1 (subst (λ (r : Reading). IsCutOff w c.args.replay.now old new r) (sym is)
    (c.in_err-status.ensures.follows later))

pub returns-in_err-stage-clause-told : goal.returns-in_err-stage-clause-told
returns-in_err-stage-clause-told g c =
    let p = err_from_is_err_and c.from_residual.result c.from_residual.ensures.1 in
    rw p.1 (none_sent _ _)
