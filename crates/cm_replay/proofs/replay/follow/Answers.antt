use Rattle.std.proofs.Common.{◌≡◌, ◌∙◌, ◌+◌, List, ◌∷◌, ◌++◌, ap, arith, drop, length, refl, subst}
use Rattle.std.proofs.lemmas.List.{drop_all}
use Rattle.std.proofs.lemmas.Result.{err_from_is_err_and}
use Rattle.cm_declared.specs.World.{world_of}
use Rattle.cm_log.proofs.ToldEvents.{told_from, told_on}
use Rattle.cm_log.specs.Left.{told_then}
use Rattle.cm_replay.proofs.Ready.{TookAllBut, took_all, took_none, took_one}
use Rattle.cm_replay.proofs.Standing.{cut_then, ends_then, goes_by, goes_then, none_sent, stays, told_ends}
use Rattle.cm_replay.proofs.replay.follow.Goals as goal
use Rattle.cm_replay.specs.Following.{GoesOn, Outgoing}
use Rattle.cm_replay.specs.Replay.{EndsBy, report_from}
use Rattle.cm_replay.specs.declared.replay.Turn.{Turn}
use Rattle.model_report.specs.Replay.{text_of}
use Rattle.model_text.specs.Reading.{Placed}

pub loop-event-init : goal.loop-event-init
loop-event-init g c =
    let w = world_of c.args.w.now in
    record {
      goes = λ later. stays w c.args.replay.now
          (record { written = g.K.Sink.written c.args.out.now; waits = c.args.text.now.items }) _ _ refl;
      took = took_none w c.args.told.now c.args.replay.now c.requires.keeps c.requires.within;
      faults = refl;
    }

pub take_and_send-requires-clause-events : goal.take_and_send-requires-clause-events
take_and_send-requires-clause-events g c =
    let i = c.loop-event.event-index in
    let left_ = told_from c.args.told.now i c.event-item.result c.loop-event-test.true c.event-item.is in
    let some : length (drop i c.args.told.now)
    ≡ length (c.event-item.result ∷ drop (i + 1) c.args.told.now) = ap (λ (es : List Placed). length es) left_ in
    omega (arith, some, c.loop-event.invariant.took.events, c.requires.events)

pub loop-event-preserved : goal.loop-event-preserved
loop-event-preserved g c =
    let w = world_of c.args.w.now in
    let i = c.loop-event.event-index in
    let e = c.event-item.result in
    let told = c.args.told.now in
    let left_ = told_from told i e c.loop-event-test.true c.event-item.is in
    let takes = rw c.in-Goes.is at c.in_ok-take_and_send.ensures.takes in
    record {
      goes = λ later. goes_then (c.loop-event.invariant.goes later)
          (takes (told_then (drop i told) c.args.stage later) (told_then (drop (i + 1) told) c.args.stage later)
          (ap (λ (es : List Placed). told_then es c.args.stage later) left_
          ∙ told_on e (drop (i + 1) told) c.args.stage later));
      took = took_one w e (drop (i + 1) told) told c.args.replay.now c.loop-event.replay c.take_and_send.new.replay
          (subst (λ (es : List Placed). TookAllBut w es told c.args.replay.now c.loop-event.replay) left_
          c.loop-event.invariant.took)
          ((rw c.in-Goes.is at c.in_ok-take_and_send.ensures.took) refl);
      faults = c.in_ok-take_and_send.ensures.cause.others (λ is. cc) ∙ c.loop-event.invariant.faults;
    }

pub returns-in-Ends-clause-follows : goal.returns-in-Ends-clause-follows
returns-in-Ends-clause-follows g c later =
    let i = c.loop-event.event-index in
    let e = c.event-item.result in
    let told = c.args.told.now in
    let left_ = told_from told i e c.loop-event-test.true c.event-item.is in
    let takes = rw c.in-Ends.is at c.in_ok-take_and_send.ensures.takes in
    ends_then (c.loop-event.invariant.goes later)
    (takes (told_then (drop i told) c.args.stage later) (told_then (drop (i + 1) told) c.args.stage later)
    (ap (λ (es : List Placed). told_then es c.args.stage later) left_
    ∙ told_on e (drop (i + 1) told) c.args.stage later))

pub returns-in_err-take_and_send-clause-follows : goal.returns-in_err-take_and_send-clause-follows
returns-in_err-take_and_send-clause-follows g c later =
    let i = c.loop-event.event-index in
    let e = c.event-item.result in
    let told = c.args.told.now in
    let left_ = told_from told i e c.loop-event-test.true c.event-item.is in
    let p = err_from_is_err_and c.from_residual.result c.from_residual.ensures.1 in
    rw p.1 (cut_then (world_of c.args.w.now) c.args.replay.now c.loop-event.replay
    (record { written = g.K.Sink.written c.args.out.now; waits = c.args.text.now.items })
    (record { written = g.K.Sink.written c.loop-event.out; waits = c.loop-event.text.items })
    (record { written = g.K.Sink.written c.take_and_send.new.out; waits = c.take_and_send.new.text.items })
    (told_then told c.args.stage later) (told_then (drop i told) c.args.stage later) (c.loop-event.invariant.goes later)
    (c.in_err-take_and_send.ensures.takes (told_then (drop i told) c.args.stage later) (told_then (drop
    (i + 1) told) c.args.stage later)
    (ap (λ (es : List Placed). told_then es c.args.stage later) left_
    ∙ told_on e (drop (i + 1) told) c.args.stage later)))

-- after the last event
pub returns-clause-follows : goal.returns-clause-follows
returns-clause-follows g c later =
    let w = world_of c.args.w.now in
    let told = c.args.told.now in
    let none = drop_all c.loop-event.event-index told c.loop-event-test.false in
    let old : Outgoing = record { written = g.K.Sink.written c.args.out.now; waits = c.args.text.now.items } in
    let now : Outgoing = record { written = g.K.Sink.written c.loop-event.out; waits = c.loop-event.text.items } in
    told_ends w c.args.replay.now c.loop-event.replay old now told c.args.stage c.in_ok-put_ending.field-0
    c.put_ending.new.text.items later
    (subst (λ (es : List Placed). GoesOn w c.args.replay.now c.loop-event.replay old now
    (told_then told c.args.stage later) (told_then es c.args.stage later))
    none (c.loop-event.invariant.goes later))
    c.in_ok-put_ending.ensures

pub returns-clause-took : goal.returns-clause-took
returns-clause-took g c is =
    let w = world_of c.args.w.now in
    let told = c.args.told.now in
    let none = drop_all c.loop-event.event-index told c.loop-event-test.false in
    took_all w told c.args.replay.now c.loop-event.replay
    (subst (λ (es : List Placed). TookAllBut w es told c.args.replay.now c.loop-event.replay) none
    c.loop-event.invariant.took)

pub returns-clause-goes : goal.returns-clause-goes
returns-clause-goes g c is =
    let goes : c.in_ok-put_ending.field-0 ≡ Turn.Goes = cc in
    goes_by c.loop-event.replay c.args.stage _ _
    (subst (λ (t : Turn). EndsBy c.loop-event.replay c.args.stage t c.loop-event.text.items c.put_ending.new.text.items)
    goes c.in_ok-put_ending.ensures)

-- there was no memory for the line that ends the report
pub returns-in_err-put_ending-clause-follows : goal.returns-in_err-put_ending-clause-follows
returns-in_err-put_ending-clause-follows g c later =
    let w = world_of c.args.w.now in
    let told = c.args.told.now in
    let between = told_then (drop c.loop-event.event-index told) c.args.stage later in
    let p = err_from_is_err_and c.from_residual-in_err-put_ending.result c.from_residual-in_err-put_ending.ensures.1 in
    rw p.1 (cut_then w c.args.replay.now c.loop-event.replay
    (record { written = g.K.Sink.written c.args.out.now; waits = c.args.text.now.items })
    (record { written = g.K.Sink.written c.loop-event.out; waits = c.loop-event.text.items })
    (record { written = g.K.Sink.written c.loop-event.out; waits = c.put_ending.new.text.items })
    (told_then told c.args.stage later) between (c.loop-event.invariant.goes later)
    (none_sent (g.K.Sink.written c.loop-event.out)
    (c.loop-event.text.items ++ text_of (report_from w c.loop-event.replay between).lines)))
