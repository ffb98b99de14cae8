use Rattle.std.proofs.Common.{length, ◌-◌, ◌≡◌, ◌≤◌, take}
use Rattle.cm_io.specs.Sink.{then_written}
use Rattle.cm_io.proofs.whole.write_all.Given as goal

-- a front of the piece is written, and nothing failed
abbrev pub invariant-loop-done : goal.invariant-loop-done
invariant-loop-done g l = record {
  within : l.done ≤ length l.piece;
  written : g.K.Sink.written l.out ≡ then_written (g.K.Sink.written l.initial.out) (take l.done l.piece);
  faults : g.K.Sink.faults l.out ≡ g.K.Sink.faults l.initial.out;
}

abbrev pub decreases-loop-done : goal.decreases-loop-done
decreases-loop-done g l = length l.piece - l.done
