use Rattle.cm_declared.specs.World.{world_of}
use Rattle.cm_log.specs.Left.{told_then}
use Rattle.cm_replay.proofs.Ready.{TookAllBut}
use Rattle.cm_replay.proofs.replay.follow.Given as goal
use Rattle.cm_replay.specs.Following.{GoesOn}
use Rattle.model_text.specs.Reading.{Reading}
use Rattle.std.proofs.Common.{◌≡◌, drop}

-- The replay goes on to the events that are left, and what it counts is what it counted.
abbrev pub invariant-loop-event : goal.invariant-loop-event
invariant-loop-event g l = record {
  goes : (later : Reading) → GoesOn (world_of l.fn.w) l.initial.replay l.replay
      (record { written = g.K.Sink.written l.initial.out; waits = l.initial.text.items })
      (record { written = g.K.Sink.written l.out; waits = l.text.items })
      (told_then l.told l.stage later) (told_then (drop l.event-index l.told) l.stage later);
  took : TookAllBut (world_of l.fn.w) (drop l.event-index l.told) l.told l.initial.replay l.replay;
  faults : g.K.Sink.faults l.out ≡ g.K.Sink.faults l.initial.out;
}
