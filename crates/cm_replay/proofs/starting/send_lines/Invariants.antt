use Rattle.std.proofs.Common.{◌≡◌, ◌++◌, map, drop}
use Rattle.cm_replay.proofs.starting.send_lines.Given as goal
use Rattle.cm_report.specs.Sent.{IsSent}
use Rattle.cm_declared.specs.World.{world_of}
use Rattle.model_report.specs.Replay.{text_of, Credentials}

-- The lines of the processes that are left come after what is written and what waits.
abbrev pub invariant-loop-p : goal.invariant-loop-p
invariant-loop-p g l = record {
  sent : IsSent (g.K.Sink.written l.initial.out) (g.K.Sink.written l.out)
      (l.text.items ++ text_of (map (Credentials (world_of l.fn.w)) (drop l.p-index l.procs)))
      (l.initial.text.items ++ text_of (map (Credentials (world_of l.fn.w)) l.procs));
  faults : g.K.Sink.faults l.out ≡ g.K.Sink.faults l.initial.out;
}
