use Rattle.std.proofs.Common.{◌≡◌, ◌≤◌, ◌∙◌, ◌+◌, List, [], ◌∷◌, ap, arith, length, subst, sym}
use Rattle.std.proofs.lemmas.Result.{err_from_is_err_and}
use Rattle.cm_declared.specs.World.{world_of}
use Rattle.cm_lines.specs.Cut.{before}
use Rattle.cm_log.specs.Counts.{Counts, events_due}
use Rattle.cm_log.specs.Left.{left, told_of, told_then}
use Rattle.cm_log.specs.declared.log.Log.{Log}
use Rattle.cm_replay.proofs.Ready.{took_advances}
use Rattle.cm_replay.proofs.Standing.{none_sent}
use Rattle.cm_replay.proofs.replay.replay_line.Goals as goal
use Rattle.cm_replay.specs.Following.{Follows, Outgoing, Took}
use Rattle.model_text.specs.Reading.{Placed, Reading}

pub returns-in-Some-clause-advances : goal.returns-in-Some-clause-advances
returns-in-Some-clause-advances g c goes =
    took_advances (world_of c.args.w.now)
    (c.in-Some.event ∷ []) c.args.replay.now c.take_and_send.new.replay c.args.log.now c.read_own.new.self
    (c.take_and_send.ensures.took goes) c.in-Some.ensures.counts c.requires.ready.knows

pub follow-requires-clause-events : goal.follow-requires-clause-events
follow-requires-clause-events g c =
    let few : length (told_of c.read_line.new.self) + events_due c.read_line.new.self ≤ events_due c.read_own.new.self
    + 1 = c.in_ok-stage.ensures.counts.due in
    let told : length c.events-told.result.now
    ≡ length (told_of c.read_line.new.self) = ap (λ (es : List Placed). length es) c.events-told.ensures in
    let same : events_due c.read_own.new.self ≡ events_due c.args.log.now = ap events_due c.in_default.ensures.same in
    omega (arith, few, told, same, c.requires.events)

pub returns-clause-follows : goal.returns-clause-follows
returns-clause-follows g c cut =
    let w = world_of c.args.w.now in
    let later = left w c.read_line.new.self cut in
    let old : Outgoing = record { written = g.K.Sink.written c.args.out.now; waits = c.args.text.now.items } in
    let new : Outgoing = record { written = g.K.Sink.written c.follow.new.out; waits = c.follow.new.text.items } in
    let is = ap (λ (log : Log). left w log (before c.args.line.now cut)) (sym c.in_default.ensures.same)
    ∙ c.in_ok-stage.ensures.told cut
    ∙ ap (λ (es : List Placed). told_then es c.in_ok-stage.stage later) (sym c.events-told.ensures) in
    subst (λ (r : Reading). Follows w c.args.replay.now c.follow.new.replay old new c.follow.result r later) (sym is)
    (c.follow.ensures.follows later)

pub returns-clause-advances : goal.returns-clause-advances
returns-clause-advances g c goes =
    let w = world_of c.args.w.now in
    took_advances w (told_of c.read_line.new.self) c.args.replay.now c.follow.new.replay c.args.log.now
    c.read_line.new.self
    (subst (λ (es : List Placed). Took w es c.args.replay.now c.follow.new.replay) c.events-told.ensures
    (c.follow.ensures.took goes))
    (subst (λ (log : Log). Counts 1 (told_of c.read_line.new.self) log c.read_line.new.self) c.in_default.ensures.same
    c.in_ok-stage.ensures.counts)
    c.requires.ready.knows

pub returns-in_err-stage-clause-follows : goal.returns-in_err-stage-clause-follows
returns-in_err-stage-clause-follows g c cut =
    let p = err_from_is_err_and c.from_residual.result c.from_residual.ensures.1 in
    rw p.1 (none_sent _ _)
