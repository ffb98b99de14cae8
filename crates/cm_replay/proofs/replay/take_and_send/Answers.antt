use Rattle.std.proofs.Common.{refl}
use Rattle.std.proofs.lemmas.Result.{err_from_is_err_and}
use Rattle.cm_declared.specs.World.{world_of}
use Rattle.cm_replay.proofs.Ready.{event_took}
use Rattle.cm_replay.proofs.Standing.{Goes_on, event_cut, event_ends, event_goes, none_sent}
use Rattle.cm_replay.proofs.replay.take_and_send.Goals as goal

pub returns-in_ok-send_full-in-Goes-clause-takes : goal.returns-in_ok-send_full-in-Goes-clause-takes
returns-in_ok-send_full-in-Goes-clause-takes g c reading rest is =
    let w = world_of c.args.w.now in
    let goes : Goes_on w c.args.replay.now c.take_event.new.replay c.args.event.now c.args.text.now.items c.take_event.new.text.items = record {
      turn = rw c.in-Goes.is at c.in_ok-take_event.ensures.turn;
      events = (rw c.in-Goes.is at c.in_ok-take_event.ensures.events) refl;
      shows = c.take_event.ensures.shows;
      lines = c.in_ok-take_event.ensures.lines;
    } in
    event_goes w c.args.replay.now c.take_event.new.replay reading rest c.args.event.now
    (record { written = g.K.Sink.written c.args.out.now; waits = c.args.text.now.items }) c.take_event.new.text.items
    (record { written = g.K.Sink.written c.send_full.new.out; waits = c.send_full.new.text.items }) is goes
    c.in_ok-send_full-in-Goes.ensures.sent

pub returns-in_ok-send_full-in-Goes-clause-took : goal.returns-in_ok-send_full-in-Goes-clause-took
returns-in_ok-send_full-in-Goes-clause-took g c _ =
    event_took (world_of c.args.w.now) c.args.replay.now c.take_event.new.replay c.args.event.now
    (rw c.in-Goes.is at c.in_ok-take_event.ensures.turn) ((rw c.in-Goes.is at c.in_ok-take_event.ensures.events) refl)
    c.in_ok-take_event.ensures.keeps

pub returns-in_err-send_full-in-Goes-clause-takes : goal.returns-in_err-send_full-in-Goes-clause-takes
returns-in_err-send_full-in-Goes-clause-takes g c reading rest is =
    let p = err_from_is_err_and c.from_residual-in_err-send_full-in-Goes.result c.from_residual-in_err-send_full-in-Goes.ensures.1 in
    let w = world_of c.args.w.now in
    let goes : Goes_on w c.args.replay.now c.take_event.new.replay c.args.event.now c.args.text.now.items c.take_event.new.text.items = record {
      turn = rw c.in-Goes.is at c.in_ok-take_event.ensures.turn;
      events = (rw c.in-Goes.is at c.in_ok-take_event.ensures.events) refl;
      shows = c.take_event.ensures.shows;
      lines = c.in_ok-take_event.ensures.lines;
    } in
    rw p.1 (event_cut w c.args.replay.now c.take_event.new.replay reading rest c.args.event.now
    (record { written = g.K.Sink.written c.args.out.now; waits = c.args.text.now.items }) c.take_event.new.text.items
    (record { written = g.K.Sink.written c.send_full.new.out; waits = c.send_full.new.text.items }) is goes
    c.in_err-send_full-in-Goes.ensures.front)

pub returns-in-Ends-clause-takes : goal.returns-in-Ends-clause-takes
returns-in-Ends-clause-takes g c reading rest is =
    event_ends (world_of c.args.w.now) c.args.replay.now c.take_event.new.replay reading rest c.args.event.now
    (record { written = g.K.Sink.written c.args.out.now; waits = c.args.text.now.items }) c.take_event.new.text.items c.in-Ends.status is
    (rw c.in-Ends.is at c.in_ok-take_event.ensures.turn) c.in_ok-take_event.ensures.lines

pub returns-in_err-take_event-clause-takes : goal.returns-in_err-take_event-clause-takes
returns-in_err-take_event-clause-takes g c reading rest is =
    let p = err_from_is_err_and c.from_residual.result c.from_residual.ensures.1 in
    rw p.1 (none_sent _ _)
