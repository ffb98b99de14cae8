-- The machine's answer to what is drawn is the drill's event.
use Rattle.cm_declared.specs.World.{world_of}
use Rattle.cm_drill.proofs.Turning.{lives, named, turned}
use Rattle.cm_drill.proofs.generator.Generator.next.Goals as goal
use Rattle.cm_state.specs.Call.{call_of}
use Rattle.model_drill.specs.Drill.{Stand}

pub answered-requires-clause-lives : goal.answered-requires-clause-lives
answered-requires-clause-lives c =
    let at : Stand = record { number = c.self.inside.draws; state = c.self.inside.machine.state } in
    lives at (rw (← c.self.view_is) at c.requires.state) c.in_ok-pid.pid (call_of c.in_ok-pid.call) c.in_ok-pid.ensures.pid
    c.in_ok-pid.ensures.call

pub answered-requires-clause-named : goal.answered-requires-clause-named
answered-requires-clause-named c =
    let at : Stand = record { number = c.self.inside.draws; state = c.self.inside.machine.state } in
    named at (rw (← c.self.view_is) at c.requires.state) c.in_ok-pid.pid (call_of c.in_ok-pid.call) c.in_ok-pid.ensures.pid
    c.in_ok-pid.ensures.call

pub returns : goal.returns
returns c =
    let at : Stand = record { number = c.self.inside.draws; state = c.self.inside.machine.state } in
    let both = turned at (rw (← c.self.view_is) at c.requires.state) c.in_ok-pid.pid (call_of c.in_ok-pid.call) c.in_ok-pid.ensures.pid
    c.in_ok-pid.ensures.call (world_of c.args.w.now) c.ask.new.draws c.in_ok-res.res c.answered.new.m.state c.requires.world
    c.in_ok-pid.ensures.number c.in_ok-res.ensures in
    record { event = rw (← c.self.view_is) both.0; after = rw (← c.self.view_is) both.1 }
